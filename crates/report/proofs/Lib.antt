pub mod Shown
pub mod Decimal
pub mod LineLaws
pub mod Determined
pub mod BaseText
