pub mod Places
pub mod Leading
pub mod Plainly
pub mod Meaning
pub mod Determined
