pub mod Staying
pub mod Following
pub mod Turning
