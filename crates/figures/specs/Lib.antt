pub mod ModelZones
pub mod TermsFigures
