pub mod Arrival
pub mod Stages
pub mod Evenings
pub mod Determined
pub mod Meaning
pub mod Rows
