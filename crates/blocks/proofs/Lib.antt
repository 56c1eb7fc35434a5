pub mod Chances
pub mod BlockOfStep
pub mod NextRecord
