-- A number read digit by digit. Assumes nothing.
use Prim.Native.Nat.{ℕ, ◌+◌, ◌-◌, ◌*◌, ◌≤◌, ◌<◌}
use native.Mathlib.Omega.{arith}
use native.Mathlib.Numerals.{add-one}
use mathlib.Core.Path.{◌≡◌, refl, ap, ◌∙◌}
use mathlib.Core.Bool.{Bool, true, false, cond, ◌&&◌}
use mathlib.Core.List.{List, [], ◌∷◌}
use lib.Dec.{leb}
use lib.ListN.{length, get_or, drop, drop_of_length-le}
use lib.Seq.{drop-cons}
use borrow.Author.Tests.{le-leb, lt-leb, leb-true}
use Rattle.journeys.proofs.Tests.{and_right, and_both}
use Rattle.feed.specs.Values.{digit, digits, value_from, value_of, number}
use Rattle.std.specs.Prelude.{Some, None}
use Rattle.std.specs.Char.{is_ascii_digit}
use Rattle.values.specs.Readings.{number_read, all_digits, rest_read}

and-true-right : (a : Bool) → a ≡ a && true
and-true-right true = refl
and-true-right false = refl

digits-all : (b : ℕ) (r : List ℕ) → digits (b ∷ r) ≡ all_digits (b ∷ r)
unfolding digits all_digits
digits-all b [] = and-true-right (digit b)
digits-all b (c ∷ r) = ap (λ t. digit b && t) (digits-all c r)

pub read_none : (most : ℕ) (f : List ℕ) → length f ≡ 0 → number_read most f ≡ None
unfolding number_read number digits
read_none most [] e = refl
read_none most (b ∷ r) e = absurd (omega arith)

pub read-begins : (most : ℕ) (f : List ℕ) → (length f ≡ 0 → ⊥) → rest_read most 0 (drop 0 f) ≡ number_read most f
unfolding number_read number rest_read value_of
read-begins most [] n = absurd (n refl)
read-begins most (b ∷ r) n = rw (digits-all b r) refl

grows : (v : ℕ) (f : List ℕ) → v ≤ value_from v f
unfolding value_from
grows v [] = omega arith
grows v (b ∷ r) = omega (arith, grows (10 * v + (b - 48)) r)

large : (most v : ℕ) (f : List ℕ) → most < v → rest_read most v f ≡ None
unfolding rest_read
large most v f h = rw (lt-leb (value_from v f) most (omega (arith, grows v f))) (ap (λ t. cond t (Some (value_from v f)) None) (and_right (all_digits f) refl))

module _ (most v : ℕ) (f : List ℕ) (i : ℕ) where
  pub rest_over : length f ≤ i → v ≤ most → rest_read most v (drop i f) ≡ Some v
  unfolding rest_read all_digits value_from
  rest_over h k = rw (drop_of_length-le f h, le-leb v most k) refl

  module _ (h : i < length f) where
    here : drop i f ≡ get_or f i 0 ∷ drop (i + 1) f
    here = rw (add-one, drop-cons f i 0)

    pub rest-bad : digit (get_or f i 0) ≡ false → rest_read most v (drop i f) ≡ None
    unfolding rest_read all_digits
    rest-bad e = rw (here, e) refl

    pub rest-on : digit (get_or f i 0) ≡ true → rest_read most v (drop i f) ≡ rest_read most (10 * v + (get_or f i 0 - 48)) (drop (i + 1) f)
    unfolding rest_read all_digits value_from
    rest-on e = rw (here, e) refl

    pub rest-large : digit (get_or f i 0) ≡ true → most < 10 * v + (get_or f i 0 - 48) → rest_read most v (drop i f) ≡ None
    rest-large e k = rest-on e ∙ large most _ (drop (i + 1) f) k

-- a digit as the library tells it
pub digit-is : (b : ℕ) → is_ascii_digit b ≡ digit b
unfolding digit
digit-is b = refl

pub digit-range : (b : ℕ) → digit b ≡ true → (48 ≤ b) × (b ≤ 57)
unfolding digit
digit-range b e = let two = and_both (leb 48 b) (leb b 57) e in (leb-true 48 b two.0, leb-true b 57 two.1)
