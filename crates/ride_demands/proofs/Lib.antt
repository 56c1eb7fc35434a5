pub mod Demands
pub mod Vertices
pub mod Places
pub mod Longer
