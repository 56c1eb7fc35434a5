use native.Mathlib.Omega.{arith}
use Rattle.worktable.proofs.Ones.{as-one}
use Rattle.surveys.proofs.changed.Goals as goal

pub returns : goal.returns
returns c = omega (arith, c.from.ensures, c.from-2.ensures, as-one c.args.after, as-one c.args.before)
