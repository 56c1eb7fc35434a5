pub mod RideRan
pub mod RideCall
pub mod RidePlaces
