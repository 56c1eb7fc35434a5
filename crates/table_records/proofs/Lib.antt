pub mod SortLaws
pub mod PackLaws
pub mod SpreadLaws
