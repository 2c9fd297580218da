pub mod Answered
pub mod Cases
pub mod Restores
pub mod Undo
