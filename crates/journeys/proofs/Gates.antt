-- Figures that stand behind a test, and are none where it fails: seeds and rides, in either direction. Assumes nothing.
use mathlib.Core.Path.{◌≡◌, ap}
use mathlib.Core.Logic.{◌⊎◌, inl, inr, ⊎_elim, ◌↔◌, ◌≢◌}
use mathlib.Core.Bool.{Bool, true, false, not, cond, ◌&&◌, ◌||◌}
use Prim.Native.Nat.{ℕ, ◌≤◌, ◌<◌, min}
use native.Mathlib.Omega.{arith}
use lib.Dec.{eqb, leb}
use borrow.Author.Tests.{eqb-true, eqb-false, leb-true, eq-eqb, ne_eqb, le-leb, not-true}
use Rattle.journeys.specs.Counting.{none}
use Rattle.journeys.proofs.Tests.{split, and_both, and-true, or_cases, or_left, or_right, cond-true, cond-false, le-or-lt}

pub gate-is : (t : Bool) (x b : ℕ) → b < none → cond t x none ≤ b → (t ≡ true) × (x ≤ b)
gate-is t x b l h =
    ⊎_elim (λ (e : t ≡ true). (e, omega (arith, cond-true x none e))) (λ (e : t ≡ false). absurd (let z : ⊥ = omega (arith, cond-false x none e) in z)) (split t)

pub is-gate : {t : Bool} (x b : ℕ) → t ≡ true → x ≤ b → cond t x none ≤ b
is-gate x b e h = omega (arith, cond-true x none e)

-- a twin, or two numbers that are equal
twin-or : (t a b : ℕ) → ((not (eqb t none) || eqb a b) ≡ true) ↔ ((t ≢ none) ⊎ (a ≡ b))
twin-or t a b = (λ e. ⊎_elim (λ p. inl (eqb-false t none (not-true _ p))) (λ p. inr (eqb-true a b p)) (or_cases (not (eqb t none)) _ e), back)
  where
    back : (t ≢ none) ⊎ (a ≡ b) → (not (eqb t none) || eqb a b) ≡ true
    back (inl n) = or_left (eqb a b) (ap not (ne_eqb t none n))
    back (inr e) = or_right (not (eqb t none)) (eq-eqb a b e)

-- The least of the two seeds of a query: at the first end, and at the second if there is a twin or the place is that end.
abbrev pub seed_over : ℕ → ℕ → ℕ → ℕ → ℕ → ℕ → ℕ → ℕ → ℕ
seed_over first second t a b x y v = min (cond (eqb first v) x none) (cond (eqb second v && (not (eqb t none) || eqb a b)) y none)

abbrev pub SeedWithin : ℕ → ℕ → ℕ → ℕ → ℕ → ℕ → ℕ → ℕ → ℕ → Type 0
SeedWithin first second t a b x y v c = ((first ≡ v) × (x ≤ c)) ⊎ ((second ≡ v) × ((t ≢ none) ⊎ (a ≡ b)) × (y ≤ c))

pub seeds-are : (first second t a b x y v c : ℕ) → c < none → SeedWithin first second t a b x y v c ↔ (seed_over first second t a b x y v ≤ c)
seeds-are first second t a b x y v c l = (there, λ h. back h (le-or-lt one c))
  where
    one : ℕ
    one = cond (eqb first v) x none

    two : ℕ
    two = cond (eqb second v && (not (eqb t none) || eqb a b)) y none

    there : SeedWithin first second t a b x y v c → min one two ≤ c
    there (inl p) = let h : one ≤ c = is-gate x c (eq-eqb first v p.0) p.1 in omega arith
    there (inr p) = let h : two ≤ c = is-gate y c (and-true (eq-eqb second v p.0) ((twin-or t a b).1 p.1)) p.2 in omega arith

    back : min one two ≤ c → (one ≤ c) ⊎ (c < one) → SeedWithin first second t a b x y v c
    back h (inl q) = let p = gate-is (eqb first v) x c l q in inl (eqb-true first v p.0, p.1)
    back h (inr q) =
        let p = gate-is (eqb second v && (not (eqb t none) || eqb a b)) y c l (let k : two ≤ c = omega arith in k) in
        let r = and_both (eqb second v) _ p.0 in
        inr (eqb-true second v r.0, (twin-or t a b).0 r.1, p.1)

-- A ride behind its two tests.
pub rides-are : (a b d e x c : ℕ) → c < none → ((a ≤ b) × (d ≤ e) × (x ≤ c)) ↔ (cond (leb a b && leb d e) x none ≤ c)
rides-are a b d e x c l = (
  λ p. is-gate x c (and-true (le-leb a b p.0) (le-leb d e p.1)) p.2,
  λ h. let p = gate-is (leb a b && leb d e) x c l h in let q = and_both (leb a b) _ p.0 in (leb-true a b q.0, leb-true d e q.1, p.1),
)
