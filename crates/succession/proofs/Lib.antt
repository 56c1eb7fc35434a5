pub mod SomeLaws
pub mod OrderLaws
pub mod TimeLaws
pub mod Rearranged
