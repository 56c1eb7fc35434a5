-- `job::three_bytes` meets its contract. Assumes nothing.
use native.Mathlib.Omega.{arith}
use Rattle.job.specs.Job.{be24}
use Rattle.job.proofs.three_bytes.Goals as goal

pub returns : goal.returns
unfolding be24
returns c = omega arith
