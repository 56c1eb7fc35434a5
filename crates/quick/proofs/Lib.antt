pub mod Sifted
pub mod Taken
pub mod Run
pub mod Claimed
pub mod Whole
pub mod Laying
