pub mod Between
pub mod Ended
