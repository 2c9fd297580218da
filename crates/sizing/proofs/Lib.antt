pub mod Arrays
pub mod Bisecting
pub mod Dealt
pub mod Sizes
pub mod Reading
