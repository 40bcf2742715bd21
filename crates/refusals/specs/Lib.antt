pub mod Due
pub mod Enter
