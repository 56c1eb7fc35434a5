pub mod Model
pub mod Directions
pub mod RowsOfTables
