pub mod Times
pub mod Exact
