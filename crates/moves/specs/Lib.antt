pub mod Moved
pub mod Alike
