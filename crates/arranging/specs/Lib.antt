pub mod Keys
pub mod Arranged
pub mod Order
