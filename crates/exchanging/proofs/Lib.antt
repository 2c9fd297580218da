pub mod Exchanging
pub mod Making
