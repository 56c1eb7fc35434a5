pub mod Answered
pub mod Entries
