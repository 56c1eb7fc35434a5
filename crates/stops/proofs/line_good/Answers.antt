use Prim.Native.Nat.{◌-◌}
use native.Mathlib.Omega.{arith}
use mathlib.Core.Path.{sym, ◌∙◌}
use lib.ListN.{take, drop, length-take, length-drop}
use Rattle.journeys.proofs.Tests.{or_left}
use Rattle.ids.proofs.ListLines.{nothing-there, some-there}
use Rattle.stops.proofs.line_good.Goals as goal

pub returns-then-at-stop : goal.returns-then-at-stop
returns-then-at-stop c = sym (or_left _ (nothing-there _ _ _ c.if-at-stop.true))

pub returns : goal.returns
returns c = c.stop_line.ensures ∙ some-there (take (c.args.stop - c.args.at) (drop c.args.at c.args.text.now)) _ (omega (arith, length-take (c.args.stop - c.args.at) (drop c.args.at c.args.text.now), length-drop c.args.at c.args.text.now))
