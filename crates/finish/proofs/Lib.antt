pub mod States
pub mod Public
pub mod AfterExchange
pub mod Instance
