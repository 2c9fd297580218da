pub mod ModelBits
pub mod ModelMembers
