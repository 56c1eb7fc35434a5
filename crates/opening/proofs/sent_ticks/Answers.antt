-- `opening::sent_ticks` meets its contract: who is at the end already waits for nothing. Assumes nothing.
use mathlib.Core.Path.{◌∙◌, ap₂}
use Prim.Native.Nat.{ℕ, ◌+◌}
use native.Mathlib.Omega.{arith}
use Rattle.opening.proofs.OpenEnds.{sent-none, sent-some}
use Rattle.opening.proofs.sent_ticks.Goals as goal

pub returns-then-left-eq0 : goal.returns-then-left-eq0
returns-then-left-eq0 c = sent-none _ _ _ _ c.if-left-eq0.true

pub overflow_add-result : goal.overflow_add-result
overflow_add-result c =
    let e = sent-some c.args.walks.now c.args.speed c.args.left.0 c.args.i c.if-left-eq0.false in
    omega (arith, c.requires.1, e, c.walked.ensures, c.wait_on.ensures)

pub returns : goal.returns
returns c = ap₂ (λ (x y : ℕ). x + y) c.walked.ensures c.wait_on.ensures ∙ sent-some _ _ _ _ c.if-left-eq0.false
