-- A scan for the lowest record that is not good: one record more, where it stops, where it ends, and two scans one behind the other. Assumes nothing.
use mathlib.Core.Path.{◌≡◌, refl, sym, ap, ◌∙◌}
use mathlib.Core.Logic.{⊎_elim, ◌≢◌}
use mathlib.Core.Bool.{Bool, true, false}
use Prim.Native.Nat.{ℕ, zero, suc, ◌+◌, ◌≤◌, ◌<◌}
use native.Mathlib.Nat.{zero-add}
use native.Mathlib.Omega.{arith}
use lib.Dec.{eqb}
use borrow.Author.Tests.{eq-eqb, eqb-true}
use Rattle.journeys.specs.Refusals.{Refusal, fine, unless, or_else, first_from, first_bad}
use Rattle.journeys.proofs.Tests.{split, never, same-or-below}
use Rattle.journeys.proofs.Refusals.{or-first, or-next, unless-good, unless-bad}

abbrev pub refusing : ℕ → (ℕ → Bool) → ℕ → Refusal
refusing number good i = unless (good i) number i

pub same_number : {a b : Refusal} → a ≡ b → a.number ≡ b.number
same_number e = ap (λ (r : Refusal). r.number) e

-- ---- the first of two
or_assoc : (a b c : Refusal) → or_else (or_else a b) c ≡ or_else a (or_else b c)
or_assoc a b c =
    ⊎_elim (λ (t : eqb a.number 0 ≡ true). by-none (eqb-true a.number 0 t)) (λ (t : eqb a.number 0 ≡ false). by-some t) (split _)
  where
    by-none : a.number ≡ 0 → or_else (or_else a b) c ≡ or_else a (or_else b c)
    by-none e = ap (λ (x : Refusal). or_else x c) (or-next a b e) ∙ sym (or-next a (or_else b c) e)

    by-some : eqb a.number 0 ≡ false → or_else (or_else a b) c ≡ or_else a (or_else b c)
    by-some t =
        let n : a.number ≢ 0 = λ (e : a.number ≡ 0). never (eq-eqb a.number 0 e) t in
        ap (λ (x : Refusal). or_else x c) (or-first a b n) ∙ or-first a c n ∙ sym (or-first a (or_else b c) n)

or-none : (good : Bool) (number place : ℕ) → 0 < number → or_else (unless good number place) fine ≡ unless good number place
unfolding unless
or-none true number place p = or-next fine fine refl
or-none false number place p = or-first (record { number = number; place = place }) fine (λ z. omega arith)

-- ---- a scan
pub scan-append : (f : ℕ → Refusal) (m n i : ℕ) → first_from f (m + n) i ≡ or_else (first_from f m i) (first_from f n (i + m))
unfolding first_from
scan-append f zero n i =
    let e : 0 + n ≡ n = omega arith in
    let k : i + 0 ≡ i = omega arith in
    rw (e, k) (sym (or-next fine (first_from f n i) refl))
scan-append f (suc m) n i =
    let e : suc m + n ≡ suc (m + n) = omega arith in
    let k : i + 1 + m ≡ i + suc m = omega arith in
    ap (λ (x : ℕ). first_from f x i) e
    ∙ ap (or_else (f i)) (scan-append f m n (i + 1) ∙ ap (λ (x : ℕ). or_else (first_from f m (i + 1)) (first_from f n x)) k)
    ∙ sym (or_assoc (f i) (first_from f m (i + 1)) (first_from f n (i + suc m)))

pub none_more : (f : ℕ → Refusal) (i : ℕ) → ((k : ℕ) → k < i → (f k).number ≡ 0) → (f i).number ≡ 0 → (k : ℕ) → k < i + 1 → (f k).number ≡ 0
none_more f i before e k l =
    ⊎_elim (λ (q : k ≡ i). rw q e) (λ (q : k < i). before k q) (same-or-below (let m : k ≤ i = omega arith in m))

module _ (number : ℕ) (good : ℕ → Bool) where
  pub scan_step : (m n i : ℕ) → m ≡ suc n → good i ≡ true → first_from (refusing number good) m i ≡ first_from (refusing number good) n (i + 1)
  unfolding first_from
  scan_step m n i e g =
      ap (λ (x : ℕ). first_from (refusing number good) x i) e
      ∙ ap (λ (x : Refusal). or_else x (first_from (refusing number good) n (i + 1))) (unless-good (good i) number i g)
      ∙ or-next fine (first_from (refusing number good) n (i + 1)) refl

  pub scan-stop : (m n i : ℕ) → m ≡ suc n → 0 < number → good i ≡ false → first_from (refusing number good) m i ≡ record { number = number; place = i }
  unfolding first_from
  scan-stop m n i e p g =
      ap (λ (x : ℕ). first_from (refusing number good) x i) e
      ∙ ap (λ (x : Refusal). or_else x (first_from (refusing number good) n (i + 1))) (unless-bad (good i) number i g)
      ∙ or-first (record { number = number; place = i }) (first_from (refusing number good) n (i + 1)) (λ (z : number ≡ 0). omega arith)

  pub scan-end : (m i : ℕ) → m ≡ 0 → first_from (refusing number good) m i ≡ fine
  unfolding first_from
  scan-end m i e = ap (λ (x : ℕ). first_from (refusing number good) x i) e

  -- records scanned so far: none, and one more
  pub bad-none : first_bad number good 0 ≡ fine
  unfolding first_bad first_from
  bad-none = refl

  pub bad_more : (i : ℕ) → 0 < number → first_bad number good (i + 1) ≡ or_else (first_bad number good i) (unless (good i) number i)
  unfolding first_bad first_from
  bad_more i p = scan-append (refusing number good) i 1 0 ∙ ap (or_else (first_bad number good i)) (or-none (good (0 + i)) number (0 + i) p ∙ ap (refusing number good) (zero-add i))
