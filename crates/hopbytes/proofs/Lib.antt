pub mod OutLaws
pub mod Slots
pub mod Determined
