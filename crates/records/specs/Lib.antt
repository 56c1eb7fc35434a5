pub mod Meaning
pub mod Asked
pub mod Columns
pub mod Readings
pub mod Arriving
pub mod Fields
