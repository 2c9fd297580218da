pub mod Missing
pub mod RowStep
pub mod Interrupted
pub mod Sends
pub mod WideRows
pub mod Promises
pub mod Examples
