pub mod Sorted
pub mod Moves
