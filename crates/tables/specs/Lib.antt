pub mod At
pub mod Checks
