pub mod Injection
pub mod Exchange
