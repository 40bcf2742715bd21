pub mod Laws
pub mod WholeTimes
pub mod Nodes
