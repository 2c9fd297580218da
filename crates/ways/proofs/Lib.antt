pub mod Arcs
pub mod Tracing
