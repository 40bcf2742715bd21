pub mod Said
pub mod Bench
pub mod Held
