pub mod Held
mod Run
mod Still
mod Opens
mod Turn
mod Copies
