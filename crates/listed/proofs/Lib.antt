pub mod Judging
pub mod WaitLaws
pub mod Counting
pub mod Determined
