pub mod Turns
pub mod Evening
