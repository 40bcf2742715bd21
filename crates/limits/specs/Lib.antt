pub mod Ticks
pub mod Whole
pub mod Node
