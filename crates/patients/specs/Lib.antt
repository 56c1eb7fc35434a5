pub mod Evening
pub mod EveningAnswers
pub mod Reporting
pub mod Rows
