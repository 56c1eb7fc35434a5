-- `change_word`: the loop climbs from the leaf to the root, and each node on the way gets its winner.
use native.Mathlib.Omega.{arith}
use mathlib.Core.Path.{ap, ◌∙◌}
use mathlib.Core.Logic.{inl, inr}
use Rattle.table_bytes.specs.Columns.{Cols, cols}
use Rattle.table_bytes.proofs.Access.{sized}
use Rattle.table_tree.proofs.ReplayLaws.{climb-start, climb-step, climb-end}
use Rattle.table_tree.proofs.RiseLaws.{changed}
use Rattle.table_tree.proofs.change_word.Goals.{then-w-least, else-w-least}
use Rattle.table_tree.proofs.change_word.Goals as goal

pub loop-p-init : goal.loop-p-init
loop-p-init c =
    climb-start (c.set_word.auto.b ∙ c.requires.0.len) c.requires.1
    (omega (arith, (sized c.args.r c.args.b.now).w, c.requires.0.fits)) c.requires.2
    (ap (λ (z : Cols). z.w) c.set_word.ensures) (ap (λ (z : Cols). z.t) c.set_word.ensures)

pub loop-p-preserved : goal.loop-p-preserved
loop-p-preserved c =
    climb-step c.requires.0.fits c.loop-p.invariant c.loop-p-test.true c.tree-s.ensures c.word-w.ensures
    (elim c.if-w-least.branch [ then-w-least w ↦ inl (w.if-w-least.true, w.winner-is, w.least-is) | else-w-least w ↦ inr (w.if-w-least.false, w.winner-is, w.least-is) ])
    c.set_tree.auto.b c.set_tree.ensures

pub returns : goal.returns
returns c =
    changed {c = cols c.args.r c.args.b.now} c.set_word.ensures c.loop-p.invariant.kept (climb-end c.loop-p.invariant c.loop-p-test.false)
