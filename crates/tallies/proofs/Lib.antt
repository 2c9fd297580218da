pub mod Adding
pub mod Fitting
