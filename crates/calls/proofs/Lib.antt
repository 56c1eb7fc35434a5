pub mod Reading
pub mod ThreeWords
pub mod Determined
