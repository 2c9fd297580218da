pub mod MovesOrder
pub mod MoveRows
pub mod AllRows
pub mod Owed
