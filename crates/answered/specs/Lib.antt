pub mod Ran
pub mod Search
pub mod PartsOver
