-- `improving::improve` meets its contract: what the look tells of the vertex is what becomes of the offer. Assumes nothing.
use native.Mathlib.Omega.{arith}
use Rattle.worktable.specs.Table.{map_of}
use Rattle.worktable.proofs.PassLaws.{passed-absent, passed-kept, passed-spent}
use Rattle.improving.specs.Figures.{figures}
use Rattle.improving.proofs.Betters.{plain-spent, plain-kept, improved-kept, bettered-same, absent-asks, absent-better}
use Rattle.improving.proofs.improve.Goals as goal

pub insert-requires : goal.insert-requires
insert-requires c =
    let a = c.args in
    absent-asks a.u a.offer c.requires.0 c.requires.1 (omega (arith, c.requires.2, c.if-allowed-offer.false))
    (passed-absent a.offer a.t a.b.now a.u (map_of a.t a.b.now a.u) c.look.ensures c.in-Absent.is)

pub lower-requires : goal.lower-requires
lower-requires c =
    let a = c.args in
    let e = map_of a.t a.b.now a.u in
    let k = passed-spent a.offer a.t a.b.now a.u e c.look.ensures c.in-Spent.is in
    record {
      ready = c.requires.0;
      low = c.requires.1;
      place = k.0;
      fits = omega (arith, c.requires.2, c.if-allowed-offer.false);
      less = plain-spent a.offer e (c.requires.0.plain.unsettled a.u) (c.requires.0.plain.spare a.u) k.1;
    }

pub returns-in-Absent : goal.returns-in-Absent
returns-in-Absent c =
    let a = c.args in
    absent-better a.allowed a.u a.offer c.requires.0
    (passed-absent a.offer a.t a.b.now a.u (map_of a.t a.b.now a.u) c.look.ensures c.in-Absent.is)
    c.if-allowed-offer.false c.requires.2 c.insert.ensures

pub returns-in-Kept : goal.returns-in-Kept
returns-in-Kept c =
    let a = c.args in
    let e = map_of a.t a.b.now a.u in
    let k = passed-kept a.offer a.t a.b.now a.u e c.look.ensures c.in-Kept.is in
    bettered-same a.allowed a.u a.offer c.requires.0
    (improved-kept a.allowed a.offer (figures a.t a.b.now a.u) (plain-kept a.offer e (c.requires.0.plain.unsettled a.u) (c.requires.0.plain.spare a.u) k.0 k.1))
