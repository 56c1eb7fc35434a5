use Prim.Native.Nat.{◌+◌, ◌*◌, ◌%◌}
use native.Mathlib.Omega.{arith}
use mathlib.Core.Path.{◌≡◌, sym, ◌∙◌}
use lib.ListN.{drop}
use Rattle.idtable.specs.Table.{mixed}
use Rattle.idtable.proofs.Mixing.{mixed-on, mixed-over}
use Rattle.idtable.proofs.mix.Goals as goal

pub loop-b-preserved : goal.loop-b-preserved
loop-b-preserved c =
    let y = c.args.name.now in
    let t = c.loop-b.invariant in
    let e : mixed ((c.loop-b.h + c.from.result) * 2654435761 % 4294967296) (drop (c.loop-b.b-index + 1) y) ≡ mixed 1 y = rw c.from.ensures (sym (mixed-on y c.loop-b.h c.loop-b.b-index (omega arith)) ∙ t.2) in
    (omega arith, omega arith, e)

pub returns : goal.returns
returns c = sym (mixed-over _ _ _ c.loop-b-test.false) ∙ c.loop-b.invariant.2
