pub mod Cuts
pub mod Onward
pub mod Serves
pub mod Told
