pub mod RidePlaces
pub mod NoTime
