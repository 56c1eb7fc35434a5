pub mod Judged
pub mod InTurn
pub mod Single
