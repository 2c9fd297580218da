pub mod StepWalk
pub mod RowCells
