pub mod PlaceLaws
pub mod Froms
pub mod Laying
pub mod Determined
