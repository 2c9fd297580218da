pub mod ModelSwaps
pub mod ModelMates
pub mod ModelLeaves
