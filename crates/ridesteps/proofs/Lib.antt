pub mod Settling
pub mod OneStep
pub mod Riding
pub mod Determined
