-- `lower_word`: the leaf of slot i climbs, and the loop ends at the root or where it loses.
use native.Mathlib.Omega.{arith}
use mathlib.Core.Path.{ap, ◌∙◌}
use Rattle.table_bytes.specs.Columns.{Cols, cols}
use Rattle.table_bytes.proofs.Access.{sized}
use Rattle.table_tree.proofs.RiseLaws.{climbs-start, climbs-same, climbs-step, climbs-stop, climbs-end, changed}
use Rattle.table_tree.proofs.lower_word.Goals as goal

pub loop-p-init : goal.loop-p-init
loop-p-init c =
    climbs-start (c.set_word.auto.b ∙ c.requires.0.len) c.requires.1
    (omega (arith, (sized c.args.r c.args.b.now).w, c.requires.0.fits)) c.requires.2 c.requires.3
    (ap (λ (z : Cols). z.w) c.set_word.ensures) (ap (λ (z : Cols). z.t) c.set_word.ensures)

pub loop-p-preserved-then-s-i : goal.loop-p-preserved-then-s-i
loop-p-preserved-then-s-i c =
    climbs-same c.requires.0.fits c.loop-p.invariant c.loop-p-test.true c.tree-s.ensures c.if-s-i.true

pub returns-then-word-x : goal.returns-then-word-x
returns-then-word-x c =
    changed {c = cols c.args.r c.args.b.now} c.set_word.ensures c.loop-p.invariant.kept
    (climbs-stop c.requires.0.fits c.loop-p.invariant c.loop-p-test.true c.tree-s.ensures c.if-s-i.false c.word.ensures c.if-word-x.true)

pub loop-p-preserved : goal.loop-p-preserved
loop-p-preserved c =
    climbs-step c.requires.0.fits c.loop-p.invariant c.loop-p-test.true c.tree-s.ensures c.word.ensures c.if-word-x.false
    c.set_tree.auto.b c.set_tree.ensures

pub returns : goal.returns
returns c =
    changed {c = cols c.args.r c.args.b.now} c.set_word.ensures c.loop-p.invariant.kept (climbs-end c.loop-p.invariant c.loop-p-test.false)
