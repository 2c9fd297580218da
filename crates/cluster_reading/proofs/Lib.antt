pub mod Walks
pub mod Readings
