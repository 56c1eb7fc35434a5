-- `spare`: the slots from `from` up to i are vacant.
use native.Mathlib.Omega.{arith}
use mathlib.Core.Path.{◌∙◌}
use Rattle.table_bytes.proofs.Access.{sized}
use Rattle.table_tree.proofs.SpareLaws.{spared-more}
use Rattle.table_tree.proofs.spare.Goals as goal

pub loop-i-preserved : goal.loop-i-preserved
loop-i-preserved c = (
  c.set_next.auto.b ∙ c.set_word.auto.b ∙ c.loop-i.invariant.0,
  omega (arith, c.loop-i.invariant.1),
  omega (arith, c.loop-i-test.true),
  spared-more (sized c.args.r c.loop-i.b) (omega (arith, c.loop-i-test.true, c.requires.0.fits)) c.loop-i.invariant.1 c.loop-i.invariant.3
      c.set_word.ensures c.set_next.ensures,
)
