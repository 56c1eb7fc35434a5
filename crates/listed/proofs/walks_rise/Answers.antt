-- `walks_rise`: one number more that rises and is a walk that leaves v.
use mathlib.Core.Path.{◌≡◌, sym, ◌∙◌}
use Prim.Native.Nat.{◌≤◌}
use native.Mathlib.Omega.{arith}
use Rattle.records.specs.Columns.{records_in, from_at}
use Rattle.listed.specs.Stretches.{Rising}
use Rattle.listed.proofs.Judging.{rising-more}
use Rattle.listed.proofs.WaitLaws.{rising-later}
use Rattle.listed.proofs.walks_rise.Goals as goal
use Rattle.listed.proofs.walks_rise.Goals.{At-loop-i}

-- where it stops
stops : (c : At-loop-i) → let a = c.args in
    (a.first ≤ c.loop-i.i) × (c.loop-i.i ≤ a.end) × Rising (from_at 16 a.walks.now) (records_in 16 a.walks.now) a.v a.first c.loop-i.i (records_in 16 a.walks.now) a.list.now
stops c = let i = c.loop-i.invariant in (i.0, i.1, rising-later _ i.2.within (omega arith) i.2)

pub loop-i-preserved : goal.loop-i-preserved
loop-i-preserved c =
    let i = c.loop-i.invariant in
    (omega (arith, i.0), omega (arith, c.loop-i-test.true), rising-more _ _ _ _ _ _ _ _ i.2 c.word_at-x.ensures c.if-x-low.false (omega (arith, c.if-ways-x.false)) (sym c.from_at.ensures ∙ c.if-from_at-v.false))

pub returns-then-ways-x : goal.returns-then-ways-x
returns-then-ways-x c = stops (goal.at.returns-then-ways-x c).At-loop-i

pub returns-then-x-low : goal.returns-then-x-low
returns-then-x-low c = stops (goal.at.returns-then-x-low c).At-loop-i

pub returns-then-from_at-v : goal.returns-then-from_at-v
returns-then-from_at-v c = stops (goal.at.returns-then-from_at-v c).At-loop-i

pub returns : goal.returns
returns c =
    let e : c.loop-i.i ≡ c.args.end = omega (arith, c.loop-i.invariant.1) in
    let s = stops (goal.at.returns c).At-loop-i in rw e at s
