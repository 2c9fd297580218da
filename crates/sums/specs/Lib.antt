pub mod TermsSums
pub mod ModelSums
