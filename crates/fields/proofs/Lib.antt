pub mod Tags
pub mod RecordField
pub mod Cut
pub mod Puts
