pub mod SettledEntry
pub mod NextEntry
pub mod StepEnds
