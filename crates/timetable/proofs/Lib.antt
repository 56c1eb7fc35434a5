pub mod FaultLaws
pub mod Determined
