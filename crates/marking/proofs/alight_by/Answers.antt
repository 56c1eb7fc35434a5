-- `marking::alight_by` meets its contract. Assumes nothing.
use mathlib.Core.Path.{refl, sym, ap, ◌∙◌}
use native.Mathlib.Omega.{arith}
use Rattle.journeys.specs.Tables.{Hop}
use Rattle.journeys.proofs.Valid.{good-hop}
use Rattle.marking.specs.Setting.{tables, query, mode}
use Rattle.marking.specs.Moves.{alights_test}
use Rattle.marking.proofs.Hops.{at-arrival, hop-low, hop-is, arrives}
use Rattle.marking.proofs.Moving.{test-alights, alights-mark, alights-not}
use Rattle.marking.proofs.alight_by.Goals as goal

pub alights-requires : goal.alights-requires
alights-requires c =
    let k = c.requires.judged.0 in record {
      le_size = (k.wide, hop-low k _ c.requires.i_bound, k.valid.query.speed_high);
      day_time = (at-arrival k, arrives k _ c.requires.i_bound);
    }

pub returns-then-not-alights : goal.returns-then-not-alights
returns-then-not-alights c =
    let a = c.args in
    let e = ap (λ (x : Hop). alights_test (query a.a) a.d x.arrival) (hop-is c.requires.judged.0 a.i c.requires.i_bound) in
    alights-not (tables a.vertices.now a.walks.now a.hops.now a.a) (query a.a) (mode a.hops.now a.a) a.i a.d c.requires.judged.1
    (e ∙ sym c.alights.ensures ∙ c.if-not-alights.true)

pub mark_hop-requires : goal.mark_hop-requires
mark_hop-requires c =
    let a = c.args in
    let k = c.requires.judged.0 in
    let N = tables a.vertices.now a.walks.now a.hops.now a.a in
    let e = ap (λ (x : Hop). alights_test (query a.a) a.d x.arrival) (hop-is k a.i c.requires.i_bound) in
    let t = test-alights N (query a.a) (mode a.hops.now a.a) _ a.d a.i refl (e ∙ sym c.alights.ensures ∙ c.if-not-alights.false) in record {
      judged = c.requires.judged;
      markable = record {
        there = c.requires.i_bound;
        new = sym c.member.ensures ∙ c.if-member.false;
        in_time = omega (arith, t.in_time, (good-hop N k.valid.tables a.i c.requires.i_bound).rides);
      };
    }

pub returns : goal.returns
returns c =
    let a = c.args in
    let e = ap (λ (x : Hop). alights_test (query a.a) a.d x.arrival) (hop-is c.requires.judged.0 a.i c.requires.i_bound) in
    alights-mark (tables a.vertices.now a.walks.now a.hops.now a.a) (query a.a) (mode a.hops.now a.a) a.i a.d c.requires.i_bound
    (e ∙ sym c.alights.ensures ∙ c.if-not-alights.false) c.mark_hop.ensures
