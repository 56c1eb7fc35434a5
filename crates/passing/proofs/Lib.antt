pub mod OfferFits
pub mod Few
