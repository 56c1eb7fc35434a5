pub mod Lookups
pub mod Determined
