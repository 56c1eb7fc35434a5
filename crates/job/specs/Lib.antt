pub mod Job
pub mod Steps
