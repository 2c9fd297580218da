pub mod Rules
pub mod Distances
pub mod Grounds
pub mod Firsts
pub mod Machines
pub mod Demands
pub mod Rows
