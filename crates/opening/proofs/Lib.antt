pub mod SeedTable
pub mod SeedsHeld
pub mod OpenEnds
pub mod FirstHeld
pub mod Determined
