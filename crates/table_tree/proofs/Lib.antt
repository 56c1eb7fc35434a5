pub mod TreeLaws
pub mod ReplayLaws
pub mod RiseLaws
pub mod ChainLaws
pub mod SearchLaws
pub mod LinkLaws
pub mod SpareLaws
pub mod BuildLaws
