pub mod TieRows
pub mod TieZones
pub mod ZoneScan
pub mod TieSending
pub mod TieLayouts
pub mod TieOrder
pub mod Columns
pub mod Examples
