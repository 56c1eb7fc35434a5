pub mod Longer
pub mod Directions
pub mod Slides
