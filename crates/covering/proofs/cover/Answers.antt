-- `covering::cover` meets its contract: step 0, and entry by entry, until one has no room. Assumes nothing.
use native.Mathlib.Omega.{arith}
use Rattle.std.proofs.Common.{◌≤◌, ◌/◌, length}
use Rattle.parts.proofs.Laws.{listed-is}
use Rattle.covering.proofs.Entries.{at-some, no-first, go-start, go-next, go-full, go-done}
use Rattle.covering.proofs.cover.Goals as goal

pub returns-in_default : goal.returns-in_default
returns-in_default g c = λ step f S w. no-first step f _ _ _ (listed-is _ _ _ _ _ _ c.in_default.is (S _ _ _ c.step_0.ensures))

pub loop-i-init : goal.loop-i-init
loop-i-init g c = (
  at-some (λ k. k ≤ length c.step_0.new.arg2 / 12) c.in-Some.is (c.requires.room _ _ _ c.step_0.ensures),
  λ b step f F w. go-start step f b _ _ F,
)

pub returns-in_default-entry : goal.returns-in_default-entry
returns-in_default-entry g c =
    λ step f S w.
    let F = listed-is _ _ _ _ _ _ c.in-Some.is (S _ _ _ c.step_0.ensures) in
    let l = c.loop-i-test.true in
    go-full step f _ _ _ F _ _ _ (c.loop-i.invariant.1 _ step f F w) _ _ l
    (listed-is _ _ _ _ _ _ c.in_default-entry.is (w _ _ _ _ _ l c.entry.ensures))

pub loop-i-preserved : goal.loop-i-preserved
loop-i-preserved g c =
    let I = c.loop-i.invariant in
    let l = c.loop-i-test.true in (
      at-some (λ k. k ≤ length c.entry.new.arg2 / 12) c.in-Some-entry.is (c.requires.keeps _ _ _ _ _ I.0 l c.entry.ensures),
      λ b step f F w.
          go-next step f b _ _ F _ _ _ (I.1 b step f F w) _ _
          (listed-is _ _ _ _ _ _ c.in-Some-entry.is (w _ _ _ _ _ l c.entry.ensures)),
    )

pub returns : goal.returns
returns g c =
    λ step f S w.
    let F = listed-is _ _ _ _ _ _ c.in-Some.is (S _ _ _ c.step_0.ensures) in
    go-done step f _ _ _ F _ _ _ (c.loop-i.invariant.1 _ step f F w) _ (omega (arith, c.loop-i-test.false, c.loop-i.auto.i-end))
