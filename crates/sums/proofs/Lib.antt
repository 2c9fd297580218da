pub mod Count
pub mod First
pub mod Sum
pub mod Tests
