pub mod Block
pub mod Lack
