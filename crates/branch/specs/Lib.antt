pub mod Each
pub mod Way
pub mod Depth
pub mod Write
