pub mod Claims
pub mod Lists
