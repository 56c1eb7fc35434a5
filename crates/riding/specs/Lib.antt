pub mod Lending
pub mod Left
