-- The first stop that is not good has the lowest line of those that are not. Assumes nothing.
use mathlib.Core.Path.{◌≡◌, refl, sym, ap, ap₂, subst, ◌∙◌}
use mathlib.Core.Logic.{⊎_elim}
use mathlib.Core.Bool.{Bool, true, false, cond}
use mathlib.Core.List.{List}
use Prim.Native.Nat.{ℕ, zero, suc, ◌+◌, ◌-◌, ◌<◌, ◌≤◌, min}
use native.Mathlib.Omega.{arith}
use lib.Dec.{eqb}
use native.Mathlib.Nat.{le_antisymm}
use native.Mathlib.Decide.{dec_lt}
use lib.ListN.{length}
use borrow.Author.Tests.{eq-eqb, ne_eqb}
use Rattle.journeys.specs.Counting.{none, least}
use Rattle.journeys.specs.Refusals.{Refusal, fine, unless, or_else, first_from}
use Rattle.journeys.proofs.Tests.{split, never, cond-true, cond-false, last-or-below}
use Rattle.journeys.proofs.Counting.{least-le, least-none}
use native.Mathlib.Numerals.{add-one}
use Rattle.feed.specs.Lines.{place}
use Rattle.feed.specs.Stops.{Stop}
use Rattle.feed.specs.Trips.{stop, first_bad_stop}
use Rattle.succession.specs.Entries.{lowest_bad}

-- what a lowest line tells as a refusal
abbrev pub refusal_at : ℕ → ℕ → Refusal
refusal_at number low = cond (eqb low none) fine (record { number = number; place = low })

least_above : (f : ℕ → ℕ) (m x : ℕ) → x ≤ none → ((k : ℕ) → k < m → x ≤ f k) → x ≤ least f m
unfolding least
least_above f zero x h g = h
least_above f (suc m) x h g = omega (arith, least_above f m x h (λ k l. g k (omega arith)), g m (omega arith))

module _ (S : List Stop) (good : ℕ → Bool) (number : ℕ) (z : eqb number 0 ≡ false) (up : (i j : ℕ) → i < j → j < length S → (stop S i).line < (stop S j).line) (small : (i : ℕ) → i < length S → (stop S i).line < none) where
  abbrev cost : ℕ → ℕ
  cost i = cond (good i) none (stop S i).line

  lowest-is : (k : ℕ) → k < length S → ((i : ℕ) → i < k → good i ≡ true) → good k ≡ false → least cost (length S) ≡ (stop S k).line
  lowest-is k h g b =
      let most = least-le cost (length S) k h in
      let own : cost k ≡ (stop S k).line = cond-false _ _ b in
      le_antisymm (subst (λ (x : ℕ). least cost (length S) ≤ x) own most) (least_above cost (length S) (stop S k).line (omega (arith, small k h)) above)
    where
      above : (i : ℕ) → i < length S → (stop S k).line ≤ cost i
      above i l =
          ⊎_elim (λ (t : good i ≡ true). subst (λ (x : ℕ). (stop S k).line ≤ x) (sym (cond-true _ _ t)) (omega (arith, small k h)))
          (λ (t : good i ≡ false). subst (λ (x : ℕ). (stop S k).line ≤ x) (sym (cond-false _ _ t)) (behind t (dec_lt i k) (dec_lt k i)))
          (split (good i))
        where
          behind : good i ≡ false → Dec (i < k) → Dec (k < i) → (stop S k).line ≤ (stop S i).line
          behind t (yes p) q = never (g i p) t
          behind t (no p) (yes q) = let r = up k i q l in omega (arith, r)
          behind t (no p) (no q) = let e : i ≡ k = omega arith in rw e (omega arith)

  none-bad : ((i : ℕ) → i < length S → good i ≡ true) → least cost (length S) ≡ none
  none-bad g = le_antisymm (least-none cost (length S)) (least_above cost (length S) none (omega arith) (λ i l. subst (λ (x : ℕ). none ≤ x) (sym (cond-true _ _ (g i l))) (omega arith)))

  first-is : (m k : ℕ) → k + m ≡ length S → ((i : ℕ) → i < k → good i ≡ true) → first_from (λ i. unless (good i) number (place (stop S i).line)) m k ≡ refusal_at number (least cost (length S))
  unfolding first_from unless or_else place
  first-is zero k e g = let n = none-bad (λ i l. g i (omega arith)) in rw n refl
  first-is (suc m) k e g = ⊎_elim (λ t. later t (first-is m (k + 1) (omega arith) (more t))) here (split (good k))
    where
      more : good k ≡ true → (i : ℕ) → i < k + 1 → good i ≡ true
      more t i l = ⊎_elim (λ (q : i ≡ k). ap good q ∙ t) (λ (q : i < k). g i q) (last-or-below (subst (λ (n : ℕ). i < n) (add-one k) l))

      later : good k ≡ true → first_from (λ i. unless (good i) number (place (stop S i).line)) m (k + 1) ≡ refusal_at number (least cost (length S)) → or_else (unless (good k) number (place (stop S k).line)) (first_from (λ i. unless (good i) number (place (stop S i).line)) m (k + 1)) ≡ refusal_at number (least cost (length S))
      later t r = rw t r

      here : good k ≡ false → or_else (unless (good k) number (place (stop S k).line)) (first_from (λ i. unless (good i) number (place (stop S i).line)) m (k + 1)) ≡ refusal_at number (least cost (length S))
      here t =
          let low = lowest-is k (omega arith) g t in
          let s = small k (omega arith) in
          let told : min (stop S k).line none ≡ (stop S k).line = omega (arith, s) in
          rw (t, z, low, ne_eqb (stop S k).line none (λ q. absurd (omega (arith, s, q))), told) refl

  -- The first bad stop is told by the lowest line of a bad one.
  pub first-bad : first_bad_stop S number good ≡ refusal_at number (lowest_bad S good)
  unfolding first_bad_stop lowest_bad
  first-bad = first-is (length S) 0 (omega arith) (λ i l. absurd (omega arith))
