pub mod Mixing
pub mod TableLaws
pub mod Determined
