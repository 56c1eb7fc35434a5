-- A frame with one point more is the frame of one entry more. Assumes nothing.
use mathlib.Core.Path.{◌≡◌, refl}
use mathlib.Core.Bool.{Bool, true, false, cond}
use mathlib.Core.List.{List}
use Prim.Native.Nat.{ℕ, suc}
use Rattle.journeys.specs.Lists.{vertex_in}
use Rattle.frame.specs.Frames.{value, smaller, smallest, largest, listed_x, listed_y, bounds_to}
use Rattle.frame.specs.Floats.{lesser_of, greater_of, point_at, widened_by, frame_from}

chosen : (t : Bool) (a b : ℕ) → cond t (value a) (value b) ≡ value (cond t a b)
chosen true a b = refl
chosen false a b = refl

module _ (f : ℕ → ℕ) (n : ℕ) where
  smallest-more : lesser_of (value (smallest f n)) (value (f (suc n))) ≡ value (smallest f (suc n))
  unfolding lesser_of smallest smaller
  smallest-more = chosen (smaller (f (suc n)) (smallest f n)) (f (suc n)) (smallest f n)

  largest-more : greater_of (value (largest f n)) (value (f (suc n))) ≡ value (largest f (suc n))
  unfolding greater_of largest smaller
  largest-more = chosen (smaller (largest f n) (f (suc n))) (f (suc n)) (largest f n)

module _ (list coordinates : List ℕ) where
  pub first-point : {p : _} → p ≡ point_at coordinates (vertex_in 8 list 0)
      → record { least_x = p.x; greatest_x = p.x; least_y = p.y; greatest_y = p.y } ≡ frame_from (bounds_to list coordinates 0)
  unfolding bounds_to smallest largest
  first-point e = rw e

  pub one_more : (n : ℕ) → widened_by (frame_from (bounds_to list coordinates n)) (point_at coordinates (vertex_in 8 list (suc n))) ≡ frame_from (bounds_to list coordinates (suc n))
  unfolding bounds_to
  one_more n = rw (smallest-more (listed_x list coordinates) n, largest-more (listed_x list coordinates) n, smallest-more (listed_y list coordinates) n, largest-more (listed_y list coordinates) n)
