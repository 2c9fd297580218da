pub mod ModelMoves
pub mod ModelGrowth
