pub mod ListLines
pub mod Determined
