pub mod Stays
pub mod Trying
pub mod Order
pub mod Largest
pub mod Deciding
