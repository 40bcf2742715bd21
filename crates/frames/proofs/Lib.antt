pub mod Bodies
pub mod Calls
pub mod Fields
pub mod Heads
pub mod Nans
pub mod Numbers
pub mod Runs
