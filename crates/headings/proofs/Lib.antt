pub mod Determined
pub mod Inside
pub mod OpenedLaws
