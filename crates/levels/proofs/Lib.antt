pub mod Leads
pub mod Offers
pub mod Scans
pub mod Sizes
pub mod Sweeps
pub mod Takes
pub mod Visits
