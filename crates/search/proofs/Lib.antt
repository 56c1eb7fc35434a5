pub mod RunningFirst
pub mod AnswerAllowed
pub mod Determined
