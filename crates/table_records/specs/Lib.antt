pub mod Fields
pub mod Sort
