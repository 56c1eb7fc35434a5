pub mod Ranges
pub mod Counters
pub mod Determined
