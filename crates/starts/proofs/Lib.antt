pub mod SumLaws
pub mod NoteLaws
pub mod Determined
