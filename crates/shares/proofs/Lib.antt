pub mod Agree
pub mod Pouring
pub mod Giving
