pub mod Items
pub mod Rows
pub mod Slots
pub mod FieldFaults
