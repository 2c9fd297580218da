pub mod Named
pub mod Where
pub mod Laws
