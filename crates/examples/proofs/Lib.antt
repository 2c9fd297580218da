pub mod Listing
pub mod Testing
pub mod Table
