-- `find`: what the chains say of the slots, said of the map.
use native.Mathlib.Omega.{arith}
use Rattle.worktable.proofs.TableLaws.{found-not, found_none, found_some}
use Rattle.worktable.proofs.find.Goals as goal

pub returns-then-t-eq0 : goal.returns-then-t-eq0
returns-then-t-eq0 c =
    found-not c.requires (λ i l. absurd (omega (arith, c.if-t-eq0.true)))

pub returns-then-s-t : goal.returns-then-s-t
returns-then-s-t c =
    found_none c.requires c.find-s.ensures c.if-s-t.true

pub returns : goal.returns
returns c =
    found_some c.requires c.find-s.ensures c.if-s-t.false
