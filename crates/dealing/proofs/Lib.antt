pub mod Climb
pub mod Turns
pub mod Line
pub mod Given
pub mod Exists
pub mod Bisect
pub mod Size
