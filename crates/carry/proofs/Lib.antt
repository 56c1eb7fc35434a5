pub mod Folds
pub mod Runs
pub mod Times
pub mod Determined
