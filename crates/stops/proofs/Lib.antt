pub mod StopLines
pub mod Determined
