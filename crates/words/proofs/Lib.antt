pub mod Signed
pub mod Written
pub mod Told
pub mod Chains
pub mod Determined
pub mod Rest
