pub mod Joins
pub mod Laws
pub mod Rows
pub mod Calls
