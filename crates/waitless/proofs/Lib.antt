pub mod Without
pub mod Same
