pub mod Halving
pub mod Numbers
pub mod Determined
