pub mod BlocksAreStep
pub mod Determined
