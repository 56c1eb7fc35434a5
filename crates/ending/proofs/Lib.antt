pub mod FewEntries
pub mod Determined
