pub mod Waving
pub mod Sources
