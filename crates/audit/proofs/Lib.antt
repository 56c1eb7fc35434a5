pub mod Scan
pub mod InOrder
pub mod Vertices
pub mod Whole
pub mod Determined
