pub mod Digits
pub mod Groups
pub mod Determined
