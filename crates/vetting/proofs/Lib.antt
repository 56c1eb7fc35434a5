pub mod LineLaws
pub mod FitLaws
pub mod VettedLaws
pub mod Determined
