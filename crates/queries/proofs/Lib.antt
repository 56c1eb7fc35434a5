pub mod Judging
pub mod Turn
pub mod Determined
