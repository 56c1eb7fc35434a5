use Prim.Native.Nat.{◌-◌}
use native.Mathlib.Omega.{arith}
use mathlib.Core.Path.{sym, ◌∙◌}
use lib.ListN.{take, drop, length-take, length-drop}
use Rattle.journeys.proofs.Tests.{or_left}
use Rattle.ids.proofs.ListLines.{nothing-there, some-there}
use Rattle.vetting.proofs.part_fits.Goals as goal

pub returns-then-at-stop : goal.returns-then-at-stop
returns-then-at-stop c = sym (or_left _ (nothing-there _ _ _ c.if-at-stop.true))

pub returns : goal.returns
returns c =
    let a = c.args in
    c.line_fits.ensures ∙ some-there (take (a.stop - a.at) (drop a.at a.text.now)) _ (omega (arith, c.if-at-stop.false, c.requires.inside.1, c.requires.inside.2, length-take (a.stop - a.at) (drop a.at a.text.now), length-drop a.at a.text.now))
