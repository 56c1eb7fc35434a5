pub mod SameJourneys
pub mod SameOrder
pub mod Lawful
pub mod Beginning
pub mod InBytes
pub mod Slides
pub mod Calls
pub mod CourierCalls
