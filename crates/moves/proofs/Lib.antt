pub mod Rows
pub mod GoodLengths
pub mod Left
pub mod ThereAndBack
pub mod Determined
pub mod Scanned
pub mod TripsIgnored
pub mod Words
