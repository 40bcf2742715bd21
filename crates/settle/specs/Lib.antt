pub mod Back
pub mod Put
pub mod Settled
