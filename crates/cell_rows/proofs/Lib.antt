pub mod AnyWidth
pub mod CellLayouts
pub mod CellRows
pub mod RowScans
