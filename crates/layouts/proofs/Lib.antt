pub mod CheckMeaning
pub mod CheckOrder
pub mod FaultMeaning
pub mod FaultScan
pub mod RowFaults
pub mod RowWalks
