-- The rest of a buffer becomes zero. Assumes nothing.
use mathlib.Core.Path.{◌≡◌, ap, ap₂, ◌∙◌}
use mathlib.Core.List.{List, [], ◌++◌, append-nil}
use Prim.Native.Nat.{ℕ, ◌-◌, ◌≤◌}
use native.Mathlib.Omega.{arith}
use lib.ListN.{length, take, drop, replicate, length-drop, drop_of_length-le}
use lib.Seq.{length-take-le}
use borrow.Rule.Slice.PartMut.{mid_of, put_mid, mid_len}
use Rattle.journeys.specs.Bytes.{filled}

pub rest-cleared : (d z : List ℕ) (n k : ℕ) → n ≤ length d → k ≡ length d - n → z ≡ replicate (length (mid_of n k d)) 0 → put_mid n k d z ≡ filled d (take n d)
unfolding filled
rest-cleared d z n k h e q =
    let none : drop k (drop n d) ≡ [] = drop_of_length-le (drop n d) {i = k} (simp length-drop (omega arith)) in
    let left : length d - n ≡ length d - length (take n d) = omega (arith, length-take-le n d h) in
    let long : length (mid_of n k d) ≡ length d - length (take n d) = ap (λ (x : ℕ). length (mid_of n x d)) e ∙ mid_len n (length d) d (omega arith) ∙ left in
    ap (λ (x : List ℕ). take n d ++ x) (ap₂ (λ (x y : List ℕ). x ++ y) (q ∙ ap (λ (x : ℕ). replicate x 0) long) none ∙ append-nil (replicate (length d - length (take n d)) 0))
