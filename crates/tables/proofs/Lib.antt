mod FirstBad
pub mod Bits
pub mod Depth
pub mod Placed
pub mod Rows
pub mod Scan
mod Turn
pub mod Good
