pub mod Sums
pub mod Notes
