pub mod ModelArcs
pub mod ModelKept
