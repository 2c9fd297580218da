pub mod ModelGraph
pub mod ModelTurns
