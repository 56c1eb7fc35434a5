pub mod Writing
pub mod Tops
pub mod Whole
pub mod Given
pub mod Determined
