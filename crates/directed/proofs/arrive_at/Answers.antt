-- `directed::arrive_at` meets its contract. Assumes nothing.
use native.Mathlib.Omega.{arith}
use Rattle.directed.specs.Directed.{arrive_at}
use Rattle.directed.proofs.arrive_at.Goals as goal

pub returns : goal.returns
unfolding arrive_at
returns c = (
  rw (c.between-hops.ensures, c.first_arriving-2.ensures, c.end_arriving-hops_end.ensures, c.between-walks.ensures, c.first_arriving.ensures, c.end_arriving-walks_end.ensures),
  omega (arith, c.between-hops.ensures, c.between-walks.ensures),
)
