pub mod Opened
pub mod RideAnswered
pub mod Determined
