pub mod Found
pub mod Opened
