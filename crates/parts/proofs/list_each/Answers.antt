-- `parts::list_each` meets its contract: each part listed stands behind those before it. Assumes nothing.
use native.Mathlib.Omega.{arith}
use mathlib.Core.Path.{sym}
use Rattle.parts.proofs.Laws.{listed-as, listed-is, listed_more, listed-room, parts-start, parts_more, parts-full}
use Rattle.parts.proofs.list_each.Goals as goal

pub loop-i-init : goal.loop-i-init
loop-i-init g c = (omega arith, c.requires.range.0, λ f w. parts-start f _ _ _ c.requires.range.0)

pub returns-in_err-listed : goal.returns-in_err-listed
returns-in_err-listed g c =
    λ f w.
    let I = c.loop-i.invariant in
    listed-is _ _ _ _ _ _ (sym c.from_residual.ensures)
    (parts-full f _ _ _ _ _ _ I.0 c.loop-i-test.true
    (listed_more _ _ _ _ c.requires.range.0 _ _ _ _ (I.2 f w)
    (listed-as _ _ _ _ _ _ (w c.loop-i.i c.piece.result I.0 c.loop-i-test.true c.piece.ensures)
    (listed-is _ _ _ _ _ _ c.in_err-listed.was c.list_part.ensures))))

pub loop-i-preserved : goal.loop-i-preserved
loop-i-preserved g c =
    let I = c.loop-i.invariant in
    let one = listed-is _ _ _ _ _ _ c.in_ok-listed.was c.list_part.ensures in (
      omega (arith, I.0),
      listed-room _ _ _ _ I.1 _ one,
      λ f w.
          listed-as _ _ _ _ _ _ (parts_more f _ _ I.0)
          (listed_more _ _ _ _ c.requires.range.0 _ _ _ _ (I.2 f w)
          (listed-as _ _ _ _ _ _ (w c.loop-i.i c.piece.result I.0 c.loop-i-test.true c.piece.ensures) one)),
    )
