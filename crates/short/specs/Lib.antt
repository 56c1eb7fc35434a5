pub mod ShortRow
