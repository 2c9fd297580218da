pub mod Members
pub mod Exchanges
pub mod Branches
pub mod Keeping
