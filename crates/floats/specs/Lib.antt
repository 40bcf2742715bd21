pub mod Values
pub mod Times
