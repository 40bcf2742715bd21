pub mod Show
pub mod Shown
