pub mod Meeting
pub mod Turning
pub mod Evenly
pub mod Attempts
pub mod Refreshing
pub mod Ends
