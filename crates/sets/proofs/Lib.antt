pub mod Bits
pub mod Laws
pub mod Scan
pub mod Words
pub mod Masks
