-- Laws of "one of 0 .. n - 1 passes a test", and of the lowest line among stops that fail one.
use mathlib.Core.Path.{◌≡◌, refl, sym, ap, ◌∙◌}
use mathlib.Core.Logic.{⊎_elim}
use mathlib.Core.Bool.{Bool, true, false, not, cond, ◌||◌}
use mathlib.Core.List.{List}
use Prim.Native.Nat.{ℕ, zero, suc, ◌+◌, ◌<◌, ◌≤◌, min}
use native.Mathlib.Omega.{arith}
use native.Mathlib.Numerals.{add-one}
use lib.ListN.{length}
use Rattle.journeys.specs.Counting.{none, least}
use Rattle.journeys.proofs.Tests.{never, or_cases, or_left, or_right, last-or-below, split, cond-true, cond-false}
use Rattle.journeys.proofs.Counting.{least-none}
use Rattle.feed.specs.Stops.{Stop}
use Rattle.feed.specs.Trips.{some, stop}
use Rattle.succession.specs.Entries.{lowest_bad}

pub some_at : (p : ℕ → Bool) (n i : ℕ) → i < n → p i ≡ true → some p n ≡ true
unfolding some
some_at p zero i h e = absurd (omega arith)
some_at p (suc n) i h e = ⊎_elim (λ (q : i ≡ n). or_right (some p n) (ap p (sym q) ∙ e)) (λ (q : i < n). or_left (p n) (some_at p n i q e)) (last-or-below h)

pub some_is : (p : ℕ → Bool) (n : ℕ) → some p n ≡ true → (i : ℕ) × (i < n) × (p i ≡ true)
unfolding some
some_is p zero e = never e refl
some_is p (suc n) e =
    ⊎_elim (λ (q : some p n ≡ true). let r = some_is p n q in (r.0, omega (arith, r.1), r.2)) (λ (q : p n ≡ true). (n, omega arith, q)) (or_cases (some p n) (p n) e)

pub some-none : (p : ℕ → Bool) (n : ℕ) → ((i : ℕ) → i < n → p i ≡ true → ⊥) → some p n ≡ false
some-none p n f = ⊎_elim (λ (q : some p n ≡ true). let r = some_is p n q in absurd (f r.0 r.1 r.2)) (λ (q : some p n ≡ false). q) (split (some p n))

pub not-not : (b : Bool) → not (not b) ≡ b
not-not true = refl
not-not false = refl

pub not_is : {b c : Bool} → b ≡ not c → b ≡ true → c ≡ false
not_is {b} {c} e q = sym (not-not c) ∙ ap not (sym e ∙ q)

pub not-isnt : {b c : Bool} → b ≡ not c → b ≡ false → c ≡ true
not-isnt {b} {c} e q = sym (not-not c) ∙ ap not (sym e ∙ q)

-- a pass over the stops
module _ (S : List Stop) (good : ℕ → Bool) where
  abbrev mark : ℕ → ℕ
  mark i = cond (good i) none (stop S i).line

  pub record Passed (i r : ℕ) : Type 0 where
    pub lowest : r ≡ least mark i

  pub passed_start : Passed 0 none
  unfolding least
  passed_start = record { lowest = refl }

  module _ {i r : ℕ} (p : Passed i r) where
    pub passed-bad : {x m : ℕ} → good i ≡ false → x ≡ (stop S i).line → m ≡ min r x → Passed (i + 1) m
    unfolding least
    passed-bad {x} {m} e l q = record { lowest = rw (add-one i) (q ∙ rw (p.lowest, l, e)) }

    pub passed-good : good i ≡ true → Passed (i + 1) r
    unfolding least
    passed-good e = record { lowest = rw (add-one i) (rw (p.lowest, e) (omega (arith, least-none mark i))) }

    pub passed-end : i ≡ length S → r ≡ lowest_bad S good
    unfolding lowest_bad
    passed-end e = p.lowest ∙ ap (least mark) e
