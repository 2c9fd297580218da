pub mod Written
pub mod Layouts
