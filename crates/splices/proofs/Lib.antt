pub mod Kept
pub mod Places
pub mod Replaced
pub mod Slots
