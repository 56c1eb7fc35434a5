-- `offering::pass_walk` meets its contract. Assumes nothing.
use mathlib.Core.Path.{sym, ap, ◌∙◌}
use Prim.Native.Nat.{ℕ, ◌+◌}
use native.Mathlib.Omega.{arith}
use Rattle.journeys.specs.Query.{allowed}
use Rattle.marks.specs.Marks.{bit}
use Rattle.improving.specs.Figures.{figures}
use Rattle.marking.specs.Setting.{query}
use Rattle.marking.proofs.Hops.{allowed-fits}
use Rattle.offering.proofs.Along.{walk_low, from_is, from_low, way-is, taken_not, taken_is}
use Rattle.offering.proofs.pass_walk.Goals as goal

pub from_at-from-requires : goal.from_at-from-requires
from_at-from-requires c = let p = c.requires in (omega arith, walk_low p.0 _ p.3)

pub member-requires : goal.member-requires
member-requires c = let p = c.requires in omega (arith, p.2, from_low p.0 _ p.3 c.from_at-from.ensures)

pub returns-then-member : goal.returns-then-member
returns-then-member c =
    let a = c.args in
    let p = c.requires in (
      p.1,
      taken_not (allowed (query a.a)) (bit a.set.now) _ _ (figures a.t a.table.now)
          (ap (bit a.set.now) (sym (from_is p.0 a.i p.3) ∙ sym c.from_at-from.ensures) ∙ sym c.member.ensures ∙ c.if-member.true),
    )

pub word_at-requires : goal.word_at-requires
word_at-requires c = let p = c.requires in omega (arith, walk_low p.0 _ p.3)

pub improve-requires : goal.improve-requires
improve-requires c = let p = c.requires in (p.1, from_low p.0 _ p.3 c.from_at-from.ensures, allowed-fits p.0)

pub returns : goal.returns
returns c =
    let a = c.args in
    let p = c.requires in
    let e = c.from_at-from.ensures in (
      c.improve.ensures.ready,
      c.improve.ensures.figures_are
          ∙ taken_is (allowed (query a.a)) (bit a.set.now) _ _ (figures a.t a.table.now)
          (ap (bit a.set.now) (sym (from_is p.0 a.i p.3) ∙ sym e) ∙ sym c.member.ensures ∙ c.if-member.false)
          p.0.allowed (e ∙ from_is p.0 a.i p.3) (ap (λ (x : ℕ). a.d + x) (way-is p.0 a.i p.3 c.word_at.ensures c.walk_ticks-way.ensures)),
    )
