pub mod Map
pub mod Inside
pub mod Table
