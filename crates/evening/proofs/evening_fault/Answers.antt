-- `patients::evening_fault` meets its contract: each return is the first test that fails. Assumes nothing.
use mathlib.Core.Path.{◌≡◌, sym, ap, ◌∙◌}
use Prim.Native.Nat.{ℕ, ◌+◌}
use lib.Dec.{leb}
use borrow.Author.Tests.{not-true, not-false}
use Rattle.journeys.specs.Bytes.{midnight}
use Rattle.records.specs.Asked.{query_of}
use Rattle.evening.proofs.AskedEvening.{gap-fault, many-fault, last-fault, evening-good, last_ok}
use Rattle.evening.proofs.evening_fault.Goals as goal
use Rattle.evening.proofs.evening_fault.Goals.{After-not_after}

-- the test of the last arrival
tested : (c : After-not_after) → c.not_after.result ≡ last_ok (query_of c.args.q) c.args.gap c.args.arrivals
tested c = c.not_after.ensures ∙ ap (λ (t : ℕ). leb t (midnight + 172800)) c.later-last.ensures

pub returns-then-not-gap : goal.returns-then-not-gap
returns-then-not-gap c = c.refused.ensures.told ∙ gap-fault _ _ _ (not-true _ c.if-not-gap.true-raw)

pub returns-then-not-arrivals : goal.returns-then-not-arrivals
returns-then-not-arrivals c = c.refused-then-not-arrivals.ensures.told ∙ many-fault _ _ _ (not-false _ c.if-not-gap.false-raw) (not-true _ c.if-not-arrivals.true-raw)

pub returns-then-not-not_after : goal.returns-then-not-not_after
returns-then-not-not_after c =
    c.refused-then-not-not_after.ensures.told ∙ last-fault _ _ _ (not-false _ c.if-not-gap.false-raw) (not-false _ c.if-not-arrivals.false-raw) (sym (tested (goal.at.returns-then-not-not_after c).After-not_after) ∙ not-true _ c.if-not-not_after.true-raw)

pub returns : goal.returns
returns c =
    evening-good _ _ _ (not-false _ c.if-not-gap.false-raw) (not-false _ c.if-not-arrivals.false-raw) (sym (tested (goal.at.returns c).After-not_after) ∙ not-false _ c.if-not-not_after.false-raw)
