pub mod CellsMore
pub mod Exact
pub mod PutRows
pub mod RecordLaws
pub mod RowSteps
pub mod RowsExact
pub mod RowsTo
