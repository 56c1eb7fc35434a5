-- `blocks::lacks_slot` meets its contract: only a new vertex asks for a slot. Assumes nothing.
use mathlib.Core.Path.{sym, ap, ◌∙◌}
use mathlib.Core.Bool.{◌&&◌}
use Prim.Native.Nat.{ℕ, ◌-◌}
use lib.Dec.{eqb}
use Rattle.worktable.specs.Map.{size}
use Rattle.worktable.specs.Table.{map_of}
use Rattle.worktable.specs.declared.Passed.{Passed}
use Rattle.blocks.specs.Lack.{is_new}
use Rattle.blocks.proofs.lacks_slot.Goals as goal

pub returns-in-Absent : goal.returns-in-Absent
unfolding is_new
returns-in-Absent c =
    let a = c.args in
    let k = eqb (a.t.room - size (map_of a.t a.held.now)) 0 in
    ap (λ (n : ℕ). eqb n 0) c.free.ensures ∙ sym (ap (λ (p : Passed). is_new p && k) c.in-Absent.is)

pub returns-in-Kept : goal.returns-in-Kept
unfolding is_new
returns-in-Kept c =
    let a = c.args in
    let k = eqb (a.t.room - size (map_of a.t a.held.now)) 0 in
    sym (ap (λ (p : Passed). is_new p && k) c.in-Kept.is)

pub returns-in-Spent : goal.returns-in-Spent
unfolding is_new
returns-in-Spent c =
    let a = c.args in
    let k = eqb (a.t.room - size (map_of a.t a.held.now)) 0 in
    sym (ap (λ (p : Passed). is_new p && k) c.in-Spent.is)
