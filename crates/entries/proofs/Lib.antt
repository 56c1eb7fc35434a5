pub mod Noting
pub mod InOrder
pub mod Determined
