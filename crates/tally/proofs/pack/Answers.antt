-- `tally::pack` meets its contract: the words before w are laid, and the list stays as it was. Assumes nothing.
use mathlib.Core.Path.{◌≡◌, ◌∙◌}
use mathlib.Core.Logic.{⊎_elim}
use Prim.Native.Nat.{◌+◌, ◌≤◌, ◌<◌}
use native.Mathlib.Omega.{arith}
use lib.ListN.{length-set}
use lib.Seq.{get_or-set_same, get_or-set_other}
use Rattle.journeys.proofs.Tests.{le-or-lt}
use Rattle.tally.specs.Laid.{packed, listed}
use Rattle.tally.proofs.Digits.{packed-same}
use Rattle.tally.proofs.pack.Goals as goal

pub loop-w-preserved : goal.loop-w-preserved
loop-w-preserved c =
    let loop = c.loop-w in
    let a = c.args in
    let own : c.word.result ≡ packed (listed a.scratch.now) a.size loop.w =
    c.word.ensures
    ∙ packed-same c.requires.width.0 (listed loop.scratch) (listed a.scratch.now) loop.w (omega arith) (λ i l. loop.invariant.4 (1984 + i) (omega arith) (omega arith)) in (
      omega arith,
      simp length-set (omega arith),
      λ v l.
          ⊎_elim (λ (h : loop.w ≤ v).
          let e : v ≡ loop.w = omega arith in
          rw e (get_or-set_same loop.scratch (a.at + loop.w) _ 0 (omega arith) ∙ own))
          (λ (h : v < loop.w). get_or-set_other loop.scratch (a.at + loop.w) (a.at + v) _ 0 (λ e. omega arith) ∙ loop.invariant.2 v h)
          (le-or-lt loop.w v),
      λ k l h. get_or-set_other loop.scratch (a.at + loop.w) k _ 0 (λ e. omega arith) ∙ loop.invariant.3 k l h,
      λ k l h. get_or-set_other loop.scratch (a.at + loop.w) k _ 0 (λ e. omega arith) ∙ loop.invariant.4 k l h,
    )
