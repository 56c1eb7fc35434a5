use native.Mathlib.Omega.{arith}
use mathlib.Core.Path.{sym}
use Rattle.lines.proofs.Steps.{none-opens, opens-here}
use Rattle.lines.proofs.opens.Goals as goal

pub returns-then-at-line : goal.returns-then-at-line
returns-then-at-line c = sym (none-opens _ _ (omega arith))

pub returns : goal.returns
returns c = sym (opens-here _ _ (omega arith))
