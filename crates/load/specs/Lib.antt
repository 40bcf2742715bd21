pub mod Load
pub mod Trees
pub mod Scans
pub mod Sixteens
