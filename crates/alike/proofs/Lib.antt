pub mod Judged
pub mod Lowest
pub mod Trips
pub mod Stops
pub mod Unpacked
pub mod Passed
