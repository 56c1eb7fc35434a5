-- `marking::release` meets its contract: an offer is made, or one of the two ends says that there is none. Assumes nothing.
use mathlib.Core.Path.{sym, ap, ◌∙◌}
use native.Mathlib.Omega.{arith}
use Rattle.marks.specs.Marks.{bit}
use Rattle.improving.specs.Figures.{figures}
use Rattle.marking.specs.Setting.{tables, query, mode}
use Rattle.marking.proofs.Hops.{at-arrival, allowed-fits, hop-low, to_is, from_is, to_low, from_low, departs, leaves_by, stands, not_there, gone-already, is-offered}
use Rattle.marking.proofs.release.Goals as goal

pub to_at-requires : goal.to_at-requires
to_at-requires c = let p = c.requires.judged in (omega (arith, p.0.wide), hop-low p.0 _ p.3)

pub member-requires : goal.member-requires
member-requires c = let p = c.requires.judged in omega (arith, p.2, to_low p.0 _ p.3 c.to_at.ensures)

pub returns-then-not-member : goal.returns-then-not-member
returns-then-not-member c =
    let a = c.args in
    let p = c.requires.judged in
    let x = c.to_at.ensures in (
      p.1,
      not_there (tables a.vertices.now a.walks.now a.hops.now a.a) (query a.a) (mode a.hops.now a.a) (bit a.set.now) a.j (figures a.t a.table.now)
          (ap (bit a.set.now) (sym (to_is p.0 a.j p.3) ∙ sym x) ∙ sym c.member.ensures ∙ c.if-not-member.true),
    )

pub from_at-from-requires : goal.from_at-from-requires
from_at-from-requires c = let p = c.requires.judged in (omega (arith, p.0.wide), hop-low p.0 _ p.3)

pub member-requires-2 : goal.member-requires-2
member-requires-2 c = let p = c.requires.judged in omega (arith, p.2, from_low p.0 _ p.3 c.from_at-from.ensures)

pub returns-then-member : goal.returns-then-member
returns-then-member c =
    let a = c.args in
    let p = c.requires.judged in (
      p.1,
      gone-already (tables a.vertices.now a.walks.now a.hops.now a.a) (query a.a) (mode a.hops.now a.a) (bit a.set.now) a.j (figures a.t a.table.now)
          (ap (bit a.set.now) (sym (from_is p.0 a.j p.3) ∙ sym c.from_at-from.ensures) ∙ sym c.member-2.ensures ∙ c.if-member.true),
    )

pub standing_at-offer-requires : goal.standing_at-offer-requires
standing_at-offer-requires c =
    let p = c.requires.judged in record {
      le_size = (p.0.wide, hop-low p.0 _ p.3);
      day_time = at-arrival p.0;
      day_time_2 = departs p.0 _ p.3;
      j_bound = (leaves_by p.0 _ p.3 c.requires.j_bound, p.0.valid.query.speed_high, p.0.boarding);
    }

pub improve-requires : goal.improve-requires
improve-requires c = let p = c.requires.judged in (p.1, from_low p.0 _ p.3 c.from_at-from.ensures, allowed-fits p.0)

pub returns : goal.returns
returns c =
    let a = c.args in
    let p = c.requires.judged in
    let e = c.from_at-from.ensures in
    let x = c.to_at.ensures in (
      c.improve.ensures.ready,
      c.improve.ensures.figures_are
          ∙ is-offered (tables a.vertices.now a.walks.now a.hops.now a.a) (query a.a) (mode a.hops.now a.a) (bit a.set.now) a.j (figures a.t a.table.now)
          (ap (bit a.set.now) (sym (to_is p.0 a.j p.3) ∙ sym x) ∙ sym c.member.ensures ∙ c.if-not-member.false)
          (ap (bit a.set.now) (sym (from_is p.0 a.j p.3) ∙ sym e) ∙ sym c.member-2.ensures ∙ c.if-member.false)
          p.0.allowed (e ∙ from_is p.0 a.j p.3) (stands p.0 a.j p.3 c.standing_at-offer.ensures),
    )
