pub mod SortedLaws
pub mod Arranged
pub mod Digits
pub mod MoveLaws
pub mod CutLaws
pub mod SearchLaws
pub mod Determined
