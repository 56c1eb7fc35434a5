pub mod Quoteless
pub mod Fields
pub mod Picks
pub mod Determined
