pub mod Rides
pub mod RideJourneys
pub mod RideOrder
pub mod RideAnswers
pub mod RideCases
