pub mod Offered
pub mod Along
