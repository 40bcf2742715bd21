pub mod Check
pub mod Long
pub mod Onto
