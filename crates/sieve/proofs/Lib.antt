pub mod KeptLaws
pub mod SiftLaws
pub mod SkipLaws
pub mod ScanLaws
pub mod OrderLaws
