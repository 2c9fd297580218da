pub mod AllNodes
pub mod Changing
pub mod Faults
