pub mod Frames
pub mod Floats
pub mod Rows
