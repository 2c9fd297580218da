pub mod Duality
pub mod Least
pub mod Larger
pub mod Levels
pub mod Owing
pub mod Making
pub mod Examples
