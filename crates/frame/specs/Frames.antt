-- The frame of a settled list, said of the stored bytes: the smallest and the largest of each coordinate. Assumes nothing.
-- The order is that of `lib.Ieee`, which compares the exact values of two patterns, -0.0 and 0.0 being equal.
use Rattle.std.specs.Prelude.{◌≡◌, Bool, true, false, cond, ◌&&◌, List, ◌++◌, ℕ, zero, suc, ◌+◌, ◌-◌, ◌*◌, ◌/◌, ◌%◌, ◌<◌, ◌≤◌, eqb, ltb, Float, length}
use Rattle.std.specs.Float.Ieee.{of_bits, lt}
use Rattle.std.specs.Float.{binary32}
use Rattle.journeys.specs.Counting.{none}
use Rattle.journeys.specs.Bytes.{be32, word}
use Rattle.journeys.specs.Refusals.{Refusal, unless, or_else, first_bad, whole_of, table_of}
use Rattle.journeys.specs.Lists.{vertex_in, list_refusal}

-- the 32 stored bits of the two coordinates of a vertex
abbrev pub x_bits : List ℕ → ℕ → ℕ
x_bits coordinates v = be32 coordinates (8 * v)

abbrev pub y_bits : List ℕ → ℕ → ℕ
y_bits coordinates v = be32 coordinates (8 * v + 4)

-- a finite number: the eight bits of the exponent are not all ones
unfoldable pub finite_bits : ℕ → Bool
finite_bits bits = ltb (bits % 2147483648) 2139095040

unfoldable pub point_ok : List ℕ → ℕ → Bool
point_ok coordinates v = finite_bits (x_bits coordinates v) && finite_bits (y_bits coordinates v)

-- the number that bits stand for, and the order of those numbers
abbrev pub value : ℕ → Float
value bits = of_bits binary32 bits

unfoldable pub smaller : ℕ → ℕ → Bool
smaller a b = lt (value a) (value b)

-- of the coordinates f 0 .. f n of a list the smallest and the largest; a later one takes the place of an earlier one only if it is smaller, or larger
unfoldable pub smallest : (ℕ → ℕ) → ℕ → ℕ
smallest f zero = f 0
smallest f (suc n) = cond (smaller (f (suc n)) (smallest f n)) (f (suc n)) (smallest f n)

unfoldable pub largest : (ℕ → ℕ) → ℕ → ℕ
largest f zero = f 0
largest f (suc n) = cond (smaller (largest f n) (f (suc n))) (f (suc n)) (largest f n)

-- the coordinates of the entry i of a list
abbrev pub listed_x : List ℕ → List ℕ → ℕ → ℕ
listed_x list coordinates i = x_bits coordinates (vertex_in 8 list i)

abbrev pub listed_y : List ℕ → List ℕ → ℕ → ℕ
listed_y list coordinates i = y_bits coordinates (vertex_in 8 list i)

-- four patterns of bits
pub record Bounds : Type 0 where
  pub least_x : ℕ
  pub greatest_x : ℕ
  pub least_y : ℕ
  pub greatest_y : ℕ

abbrev pub no_bounds : Bounds
no_bounds = record { least_x = 0; greatest_x = 0; least_y = 0; greatest_y = 0 }

-- the frame of the entries 0 .. n
unfoldable pub bounds_to : List ℕ → List ℕ → ℕ → Bounds
bounds_to list coordinates n =
    record {
      least_x = smallest (listed_x list coordinates) n;
      greatest_x = largest (listed_x list coordinates) n;
      least_y = smallest (listed_y list coordinates) n;
      greatest_y = largest (listed_y list coordinates) n;
    }

-- 1 (vertex table, list, coordinate table), 21, 23, 24: the first reason in this order
unfoldable pub frame_lengths : List ℕ → List ℕ → List ℕ → Refusal
frame_lengths vertices list coordinates =
    or_else (unless (table_of 12 1 65536 vertices) 1 0)
    (or_else (unless (whole_of 8 list) 1 4) (unless (eqb (length coordinates) (8 * (length vertices / 12))) 1 6))

unfoldable pub frame_refusal : List ℕ → List ℕ → List ℕ → Refusal
frame_refusal vertices list coordinates =
    or_else (frame_lengths vertices list coordinates)
    (or_else (list_refusal 8 (length vertices / 12) none list)
    (or_else (first_bad 23 (point_ok coordinates) (length vertices / 12)) (unless (ltb 0 (length list / 8)) 24 0)))

-- a refusal comes with a frame of zeros
unfoldable pub frame_bounds : List ℕ → List ℕ → List ℕ → Bounds
frame_bounds vertices list coordinates =
    cond (eqb (frame_refusal vertices list coordinates).number 0) (bounds_to list coordinates (length list / 8 - 1)) no_bounds

-- the 24 bytes: refusal, place, the four stored values
unfoldable pub frame_bytes : Refusal → Bounds → List ℕ
frame_bytes r b = word r.number ++ word r.place ++ word b.least_x ++ word b.greatest_x ++ word b.least_y ++ word b.greatest_y

-- every entry of a list names a vertex that has a finite point
abbrev pub Listed : List ℕ → List ℕ → Type 0
Listed list coordinates =
    (i : ℕ) → i < length list / 8 → (8 * vertex_in 8 list i + 8 ≤ length coordinates) × (point_ok coordinates (vertex_in 8 list i) ≡ true)

-- what stays of the coordinates f 0 .. f (n - 1), in an order: that of a listed vertex, which none comes before, and the earliest of its equals
pub record Stays (before : ℕ → ℕ → Bool) (f : ℕ → ℕ) (n b : ℕ) : Type 0 where
  pub entry : ℕ
  pub within : entry < n
  pub stored : b ≡ f entry
  pub first : (j : ℕ) → j < n → before (f j) b ≡ false
  pub earliest : (j : ℕ) → j < entry → before b (f j) ≡ true

unfoldable pub larger : ℕ → ℕ → Bool
larger a b = smaller b a
