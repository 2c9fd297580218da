pub mod TermsMoveList
pub mod ModelMoveRows
