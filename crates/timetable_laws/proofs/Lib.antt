pub mod HopLists
pub mod StopLimits
pub mod Demands
