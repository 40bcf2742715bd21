pub mod Came
pub mod Puts
