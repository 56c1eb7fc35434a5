-- The four values of an answer are finite, and their bits are the stored ones: bit for bit. Assumes nothing.
use mathlib.Core.Path.{◌≡◌, refl, ap, ◌∙◌}
use mathlib.Core.Bool.{Bool, true, false, cond}
use mathlib.Core.List.{List}
use Prim.Native.Nat.{ℕ, zero, suc, ◌+◌, ◌-◌, ◌*◌, ◌/◌, ◌≤◌, ◌<◌}
use native.Mathlib.Omega.{arith}
use native.Mathlib.Decide.{ℕ_discrete}
use lib.ListN.{length, get_or}
use Rattle.journeys.specs.Bytes.{be32}
use Rattle.journeys.proofs.Tests.{and_both}
use Rattle.journeys.specs.Refusals.{Refusal}
use Rattle.journeys.specs.Lists.{vertex_in}
use Rattle.frame.specs.declared.Framed.{Framed}
use Rattle.frame.specs.Frames.{finite_bits, point_ok, smaller, smallest, largest, listed_x, listed_y, Bounds, bounds_to, frame_refusal, frame_bounds, frame_bytes}
use Rattle.frame.specs.Floats.{answer_from, frame_from, bits_of, Numbers}
use Rattle.frame.proofs.Stored.{no_nan, same_bits}
use Rattle.frame.proofs.Fine.{some-entry, all_listed, bounds-none, bounds-are}

-- 32 bits of a finite number
pub record Kept (bits : ℕ) : Type 0 where
  pub fits : bits < 4294967296
  pub finite : finite_bits bits ≡ true

zero-kept : Kept 0
unfolding finite_bits
zero-kept = record { fits = omega arith; finite = refl }

-- ---- a property of every listed coordinate is one of the smallest and of the largest
module _ (P : ℕ → Type 0) (f : ℕ → ℕ) where
  chosen : (t : Bool) (a b : ℕ) → P a → P b → P (cond t a b)
  chosen true a b p q = p
  chosen false a b p q = q

  smallest-has : (n : ℕ) → ((i : ℕ) → i ≤ n → P (f i)) → P (smallest f n)
  unfolding smallest
  smallest-has zero h = h 0 (omega arith)
  smallest-has (suc n) h = chosen (smaller (f (suc n)) (smallest f n)) (f (suc n)) (smallest f n) (h (suc n) (omega arith)) (smallest-has n (λ i l. h i (omega arith)))

  largest-has : (n : ℕ) → ((i : ℕ) → i ≤ n → P (f i)) → P (largest f n)
  unfolding largest
  largest-has zero h = h 0 (omega arith)
  largest-has (suc n) h = chosen (smaller (largest f n) (f (suc n))) (f (suc n)) (largest f n) (h (suc n) (omega arith)) (largest-has n (λ i l. h i (omega arith)))

-- ---- what is read from bytes has 32 bits
word_fits : (b : List ℕ) → ((k : ℕ) → get_or b k 0 < 256) → (at : ℕ) → be32 b at < 4294967296
unfolding be32
word_fits b bytes at = omega (arith, bytes at, bytes (at + 1), bytes (at + 2), bytes (at + 3))

pub record AllKept (b : Bounds) : Type 0 where
  pub least_x : Kept b.least_x
  pub greatest_x : Kept b.greatest_x
  pub least_y : Kept b.least_y
  pub greatest_y : Kept b.greatest_y

module _ (vertices list coordinates : List ℕ) (bytes : (k : ℕ) → get_or coordinates k 0 < 256) where
  module _ (e : (frame_refusal vertices list coordinates).number ≡ 0) where
    x-kept : (i : ℕ) → i ≤ length list / 8 - 1 → Kept (listed_x list coordinates i)
    unfolding point_ok
    x-kept i h =
        let g = (all_listed vertices list coordinates e i (omega (arith, some-entry vertices list coordinates e))).1 in
        record {
          fits = word_fits coordinates bytes (8 * vertex_in 8 list i);
          finite = (and_both (finite_bits (listed_x list coordinates i)) (finite_bits (listed_y list coordinates i)) g).0;
        }

    y_kept : (i : ℕ) → i ≤ length list / 8 - 1 → Kept (listed_y list coordinates i)
    unfolding point_ok
    y_kept i h =
        let g = (all_listed vertices list coordinates e i (omega (arith, some-entry vertices list coordinates e))).1 in
        record {
          fits = word_fits coordinates bytes (8 * vertex_in 8 list i + 4);
          finite = (and_both (finite_bits (listed_x list coordinates i)) (finite_bits (listed_y list coordinates i)) g).1;
        }

    accepted-kept : AllKept (bounds_to list coordinates (length list / 8 - 1))
    unfolding bounds_to
    accepted-kept =
        record {
          least_x = smallest-has Kept (listed_x list coordinates) (length list / 8 - 1) x-kept;
          greatest_x = largest-has Kept (listed_x list coordinates) (length list / 8 - 1) x-kept;
          least_y = smallest-has Kept (listed_y list coordinates) (length list / 8 - 1) y_kept;
          greatest_y = largest-has Kept (listed_y list coordinates) (length list / 8 - 1) y_kept;
        }

  pub all-kept : AllKept (frame_bounds vertices list coordinates)
  all-kept = go (ℕ_discrete (frame_refusal vertices list coordinates).number 0)
    where
      go : Dec ((frame_refusal vertices list coordinates).number ≡ 0) → AllKept (frame_bounds vertices list coordinates)
      go (yes e) = rw (bounds-are vertices list coordinates e) (accepted-kept e)
      go (no n) = rw (bounds-none vertices list coordinates n) (record { least_x = zero-kept; greatest_x = zero-kept; least_y = zero-kept; greatest_y = zero-kept })

-- ---- so they are no NaNs, and come back bit for bit
module _ (b : Bounds) (k : AllKept b) where
  pub are-numbers : Numbers (frame_from b)
  are-numbers =
      record {
        least_x = no_nan b.least_x k.least_x.finite;
        greatest_x = no_nan b.greatest_x k.greatest_x.finite;
        least_y = no_nan b.least_y k.least_y.finite;
        greatest_y = no_nan b.greatest_y k.greatest_y.finite;
      }

  pub bits_back : bits_of (frame_from b) ≡ b
  bits_back =
      rw (same_bits b.least_x k.least_x.fits k.least_x.finite, same_bits b.greatest_x k.greatest_x.fits k.greatest_x.finite, same_bits b.least_y k.least_y.fits k.least_y.finite, same_bits b.greatest_y k.greatest_y.fits k.greatest_y.finite)

-- ---- the answer of the code, its numbers and its bytes
module _ (a : Framed) (r : Refusal) (b : Bounds) (e : a ≡ answer_from r (frame_from b)) (k : AllKept b) where
  pub answer-numbers : Numbers a.frame
  answer-numbers = rw e (are-numbers b k)

  pub answer-bytes : frame_bytes (record { number = a.number; place = a.place }) (bits_of a.frame) ≡ frame_bytes r b
  answer-bytes = ap (λ (x : Framed). frame_bytes (record { number = x.number; place = x.place }) (bits_of x.frame)) e ∙ ap (frame_bytes r) (bits_back b k)
