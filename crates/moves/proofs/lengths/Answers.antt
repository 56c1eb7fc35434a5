-- `moves::lengths` meets its contract: each return is the first test that fails. Assumes nothing.
use mathlib.Core.Path.{sym, ◌∙◌}
use mathlib.Core.Bool.{◌&&◌}
use Prim.Native.Nat.{◌*◌, ◌/◌, ◌≤◌}
use native.Mathlib.Nat.{mul-le-mul}
use native.Mathlib.Omega.{arith}
use lib.Dec.{leb}
use lib.ListN.{length}
use borrow.Author.Tests.{not-true, not-false, eq-eqb, ne_eqb, leb-true}
use Rattle.journeys.specs.Refusals.{whole_of, table_of, or_else, unless}
use Rattle.journeys.proofs.Tests.{and_both}
use Rattle.moves.specs.Moved.{move_lengths}
use Rattle.moves.proofs.lengths.Goals as goal

pub returns-then-not-table_ok : goal.returns-then-not-table_ok
unfolding move_lengths or_else unless
returns-then-not-table_ok c = c.refused.ensures.told ∙ simp (← c.table_ok.ensures, not-true c.table_ok.result c.if-not-table_ok.true-raw)

pub overflow_mul-to : goal.overflow_mul-to
unfolding table_of
overflow_mul-to c =
    let ok = sym c.table_ok.ensures ∙ not-false c.table_ok.result c.if-not-table_ok.false-raw in
    let few = leb-true _ _ (and_both (whole_of c.args.from c.args.source.now && leb 0 (length c.args.source.now / c.args.from)) _ ok).1 in
    let m : c.args.to * (length c.args.source.now / c.args.from) ≤ 20 * 262144 = mul-le-mul c.requires.1 few in
    omega arith

pub returns-then-target-to : goal.returns-then-target-to
unfolding move_lengths or_else unless
returns-then-target-to c =
    let ok = not-false c.table_ok.result c.if-not-table_ok.false-raw in
    c.refused-then-target-to.ensures.told ∙ simp (← c.table_ok.ensures, ok, ne_eqb _ _ c.if-target-to.true)

pub returns : goal.returns
unfolding move_lengths or_else unless
returns c =
    let ok = not-false c.table_ok.result c.if-not-table_ok.false-raw in
    simp (← c.table_ok.ensures, ok, eq-eqb _ _ c.if-target-to.false)
