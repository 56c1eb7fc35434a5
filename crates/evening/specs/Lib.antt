pub mod Patients
pub mod Asked
pub mod Tallied
