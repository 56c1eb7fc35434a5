pub mod TouchThenSweep
pub mod TallyIsGrowth
pub mod Mixed
pub mod BlockByBlock
