pub mod RunningNext
pub mod LoopEnds
