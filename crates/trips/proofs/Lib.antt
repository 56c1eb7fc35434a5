pub mod AsDefined
pub mod Determined
