pub mod Alike
pub mod Plans
pub mod Whole
