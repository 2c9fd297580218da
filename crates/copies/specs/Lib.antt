pub mod TermsCounts
pub mod ModelCopies
