pub mod Ground
pub mod Turns
