pub mod Scans
pub mod Accepting
pub mod Lists
pub mod Sending
pub mod Ordering
pub mod Slots
pub mod Taking
pub mod Examples
