pub mod PairwiseLaws
pub mod HopFields
pub mod LineLaws
pub mod HopOrder
