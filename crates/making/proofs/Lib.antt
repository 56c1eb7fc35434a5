pub mod InOrder
pub mod Determined
