pub mod ModelOrder
pub mod ModelEven
