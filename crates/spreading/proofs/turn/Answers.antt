-- `spreading::turn` meets its contract: a hop of the stack, a marked one at the cursor, or none there. Assumes nothing.
use mathlib.Core.Path.{refl}
use native.Mathlib.Omega.{arith}
use Rattle.marking.specs.Setting.{tables, query, mode}
use Rattle.spreading.proofs.Turning.{turned-pop, turned-pass}
use Rattle.spreading.proofs.turn.Goals as goal

pub returns-then-height-gt0 : goal.returns-then-height-gt0
returns-then-height-gt0 c =
    let a = c.args in
    turned-pop (tables a.vertices.now a.walks.now a.hops.now a.a) (query a.a) (mode a.hops.now a.a) a.set.now a.p a.table.now a.marks.now a.stack.now c.requires.judged.1 c.requires.sorted.1 c.requires.sorted.2 _ refl c.if-height-gt0.true c.follow.ensures

pub returns : goal.returns
returns c =
    let a = c.args in
    turned-pass (tables a.vertices.now a.walks.now a.hops.now a.a) (query a.a) (mode a.hops.now a.a) a.set.now a.p a.table.now a.marks.now a.stack.now c.requires.judged.1 c.requires.sorted.1 c.requires.sorted.2 (c.requires.cursor_bound (omega (arith, c.if-height-gt0.false))) c.follow-2.ensures
