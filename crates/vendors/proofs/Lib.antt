pub mod Firsts
pub mod AllRecords
pub mod Exactly
pub mod OwnBytes
pub mod Accepted
pub mod Determined
