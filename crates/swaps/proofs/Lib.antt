pub mod Steps
pub mod Touching
pub mod Fitting
pub mod Tightening
