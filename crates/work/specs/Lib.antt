pub mod Word
pub mod Array
pub mod Flat
