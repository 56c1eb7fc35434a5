pub mod FirstFault
pub mod Determined
pub mod Window
