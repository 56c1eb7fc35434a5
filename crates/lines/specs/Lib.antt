pub mod Ends
pub mod Passing
pub mod Spans
pub mod Onward
pub mod Rows
