pub mod Entries
pub mod Along
pub mod Sizes
pub mod Space
pub mod Leading
pub mod Loops
