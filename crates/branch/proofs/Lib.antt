pub mod Eachs
mod Ways
pub mod Values
mod Depths
mod Filling
