pub mod RecordsInBytes
pub mod SettledRecords
pub mod OneAnswer
pub mod SixNumbers
pub mod Answers
pub mod Vertices
pub mod Held
pub mod Parts
