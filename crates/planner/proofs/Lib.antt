pub mod Refusals
pub mod Settling
pub mod Planning
pub mod Only
