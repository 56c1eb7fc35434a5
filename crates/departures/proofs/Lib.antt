pub mod SliceLaws
pub mod JudgeLaws
pub mod FeedLaws
pub mod EntryLaws
pub mod Determined
