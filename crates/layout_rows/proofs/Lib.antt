pub mod RowFaults
