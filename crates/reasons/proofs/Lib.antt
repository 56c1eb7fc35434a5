pub mod Reasons
pub mod Listing
pub mod OnePass
pub mod Branches
pub mod Determined
