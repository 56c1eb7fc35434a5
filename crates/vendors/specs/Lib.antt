pub mod Ends
pub mod Lending
