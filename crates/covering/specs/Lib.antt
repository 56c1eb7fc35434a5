pub mod Covering
pub mod Lending
pub mod Pair
