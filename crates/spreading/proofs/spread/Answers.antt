-- `spreading::spread` meets its contract: one turn after another, and each leaves less to do. Assumes nothing.
use mathlib.Core.Path.{◌∙◌}
use native.Mathlib.Omega.{arith}
use Rattle.records.specs.Columns.{records_in}
use Rattle.marking.specs.Setting.{tables, query, mode}
use Rattle.marking.proofs.Hops.{hops-count}
use Rattle.spreading.proofs.Turning.{turning-one, spread-all, more-passed, no_more}
use Rattle.spreading.proofs.spread.Goals as goal

pub turn-q-requires : goal.turn-q-requires
turn-q-requires c =
    let a = c.args in
    let L = c.loop-q in record {
      judged = (c.requires.judged.0, L.invariant.0.fit);
      sorted = (c.requires.sorted.0, L.invariant.0.pends, L.invariant.0.prefix);
      cursor_bound = λ e. omega (arith, more-passed {cursor = L.q.cursor} {n = records_in a.a.size a.hops.now} c.loop-q-test.true e, hops-count c.requires.judged.0);
    }

pub loop-q-preserved : goal.loop-q-preserved
loop-q-preserved c =
    let a = c.args in
    let L = c.loop-q in
    let v = c.turn-q in (
      turning-one (tables a.vertices.now a.walks.now a.hops.now a.a) (query a.a) (mode a.hops.now a.a) a.set.now L.invariant.0 v.ensures,
      v.auto.table ∙ L.invariant.1,
      v.auto.marks ∙ L.invariant.2,
      v.auto.stack ∙ L.invariant.3,
    )

pub returns : goal.returns
returns c =
    let a = c.args in
    let L = c.loop-q in
    let t = no_more {cursor = L.q.cursor} {n = records_in a.a.size a.hops.now} c.loop-q-test.false in
    spread-all (tables a.vertices.now a.walks.now a.hops.now a.a) (query a.a) (mode a.hops.now a.a) a.set.now L.invariant.0 t.0 (omega (arith, t.1, hops-count c.requires.judged.0))
