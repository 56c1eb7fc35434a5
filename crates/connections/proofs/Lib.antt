pub mod GatherLaws
pub mod Consecutive
