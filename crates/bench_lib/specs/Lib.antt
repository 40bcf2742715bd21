pub mod Example
pub mod Numbered
pub mod Served
pub mod Streams
pub mod Whole
