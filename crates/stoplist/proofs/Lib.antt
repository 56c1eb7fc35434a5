pub mod Parts
pub mod Packing
pub mod Filling
pub mod Determined
