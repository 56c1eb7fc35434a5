pub mod RideFits
pub mod Meaning
pub mod Either
pub mod Determined
