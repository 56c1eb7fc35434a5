pub mod Quantities
pub mod Written
pub mod Refusal
pub mod Told
