pub mod Setting
pub mod Carried
pub mod Pends
pub mod Moves
