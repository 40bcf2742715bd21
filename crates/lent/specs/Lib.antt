pub mod Lent
pub mod Lengths
