pub mod Ends
pub mod Parts
pub mod Rows
pub mod States
