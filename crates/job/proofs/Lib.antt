pub mod Seconds
pub mod Scan
pub mod Bodies
pub mod Told
pub mod Determined
pub mod BaseJob
pub mod Long
