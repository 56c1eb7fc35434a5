pub mod Named
pub mod Hops
