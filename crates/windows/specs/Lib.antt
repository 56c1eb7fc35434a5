pub mod Lent
pub mod Gone
