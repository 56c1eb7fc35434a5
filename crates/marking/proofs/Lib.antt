pub mod Carrying
pub mod Hops
pub mod Pushing
pub mod Moving
