pub mod Answered
pub mod Entered
pub mod NodePuts
