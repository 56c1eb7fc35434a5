pub mod Lines
pub mod Fields
pub mod Values
pub mod Ids
pub mod Stops
pub mod Trips
pub mod Answers
pub mod Feeds
