-- `tally::empty` meets its contract: every word is zero, or one is not. Assumes nothing.
use mathlib.Core.Bool.{Bool, true, false}
use mathlib.Core.Path.{◌≡◌, refl, sym, ◌∙◌}
use mathlib.Core.Logic.{◌≢◌}
use mathlib.Core.List.{List}
use Prim.Native.Nat.{ℕ, ◌≤◌, ◌<◌}
use native.Mathlib.Omega.{arith}
use lib.Dec.{eqb}
use lib.ListN.{take, length}
use borrow.Author.Rules.{rules}
use borrow.Author.Tests.{eq-eqb, tests}
use Rattle.std.specs.Bool.{MatchBool}
use Rattle.std.specs.List.{AllWithin, HoldsAt}
use Rattle.std.proofs.lemmas.Iterator.{cases_from_all, YieldsList-from_slice}
use Rattle.std.proofs.lemmas.List.{get_or-take, length-take-le}
use Rattle.journeys.proofs.Tests.{never}
use Rattle.tally.specs.Laid.{filled, Met}
use Rattle.tally.proofs.Groups.{filled-none, filled-some, zeros-met}
use Rattle.tally.proofs.empty.Goals as goal

judged : (r : Bool) (n : ℕ) (s : List ℕ) → n ≤ length s
    → MatchBool r (AllWithin {X = ℕ} (λ x. x ≡ 0) (take n s) 0 (length (take n s))) ((k : ℕ) × (k < length (take n s)) × HoldsAt {X = ℕ} (λ x. x ≢ 0) (take n s) k)
    → (r ≡ true → Met n s) × (r ≡ eqb (filled s n) 0)
judged true n s h all =
    let e : filled s n ≡ 0 = filled-none n s (λ i l. sym (get_or-take n s i 0 l) ∙ all i 0 (omega arith) (omega (arith, length-take-le n s h))) in
    (λ t. zeros-met n s e, sym (eq-eqb (filled s n) 0 e))
judged false n s h (k, l, some) =
    let m : k < n = omega (arith, length-take-le n s h) in
    (λ t. never t refl, sym (filled-some s n k m (λ z. some 0 (get_or-take n s k 0 m ∙ z))))

pub returns : goal.returns
returns c =
    let a = c.args in
    judged c.all.result a.words a.scratch.now (omega (arith, c.requires))
    (cases_from_all _ _ _ (λ x. x ≡ 0) (λ x. x ≢ 0) c.all.ensures.ran (YieldsList-from_slice (take a.words a.scratch.now) cc) (λ x q k. search (rules, tests)) (λ x q k. search (rules, tests)))
