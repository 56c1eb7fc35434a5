pub mod RowOfStep
