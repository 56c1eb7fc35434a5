pub mod Sums
pub mod Figures
pub mod Tallying
pub mod AskedEvening
pub mod Judged
pub mod Determined
