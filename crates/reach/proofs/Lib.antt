pub mod Texts
pub mod Determined
pub mod JobSizes
pub mod Room
pub mod Inputs
