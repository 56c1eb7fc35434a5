-- `blocks::sweep` meets its contract, record by record. Assumes nothing.
use mathlib.Core.Path.{refl}
use mathlib.Core.Bool.{cond}
use Prim.Native.Nat.{◌-◌}
use Rattle.directed.specs.Directed.{near_of}
use Rattle.worktable.specs.Map.{swept}
use Rattle.meeting.proofs.Loops as lo
use Rattle.blocks.specs.Block.{in_block}
use Rattle.blocks.proofs.sweep.Goals as goal

pub loop-j-init : goal.loop-j-init
loop-j-init c = lo.went-none c.requires.0

pub loop-j-preserved : goal.loop-j-preserved
loop-j-preserved c =
    let a = c.args in
    lo.went_on (near_of a.walks.now a.hops.now a.list.now a.row) (λ k. 0) (λ u x e. cond (in_block a.block u) (swept a.row.arriving.allowed.0 e) e) {x = 0} c.loop-j.invariant c.loop-j-test.true c.sweep_one-table.auto.held c.sweep_one-table.ensures c.near_at-u.ensures refl
