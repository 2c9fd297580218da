pub mod CopyWalk
pub mod Counted
pub mod FourRows
pub mod RowNodes
