-- What the bits are as a set: a number put, and none in an array of zeros. Assumes nothing.
use mathlib.Core.Path.{◌≡◌, refl, sym, ap, fun_ext, ◌∙◌}
use mathlib.Core.Bool.{Bool, true, false, cond, ◌||◌}
use mathlib.Core.List.{List}
use Prim.Native.Nat.{ℕ, ◌/◌, ◌%◌, ◌<◌}
use native.Mathlib.Nat.{zero-div}
use lib.Dec.{eqb}
use lib.ListN.{replicate, get_or-replicate}
use borrow.Author.Tests.{eq-eqb, ne_eqb}
use Rattle.journeys.proofs.Tests.{Test, same, other, test}
use Rattle.marks.specs.Marks.{power, bit}
use Rattle.bitset.specs.Joined.{joined}

or-joined : (a : Bool) (k i : ℕ) → (a || eqb k i) ≡ cond (eqb i k) true a
or-joined a k i = go a (test i k)
  where
    go : (a : Bool) {t : Bool} → Test i k t → (a || eqb k i) ≡ cond t true a
    go true (same e) = refl
    go false (same e) = eq-eqb k i (sym e)
    go true (other n) = refl
    go false (other n) = ne_eqb k i (λ z. n (sym z))

-- pointwise, as the bits are told, to the set
pub bits-joined : (s s' : List ℕ) (k : ℕ) → ((i : ℕ) → bit s' i ≡ (bit s i || eqb k i)) → bit s' ≡ joined (bit s) k
bits-joined s s' k h = fun_ext (λ i. h i ∙ or-joined (bit s i) k i)

-- no number is in an array of zeros
pub none-joined : (n i : ℕ) → i / 16 < n → bit (replicate n 0) i ≡ false
unfolding bit
none-joined n i h =
    ap (λ (x : ℕ). eqb (x / power (i % 16) % 2) 1) (get_or-replicate n (i / 16) 0 0 h)
    ∙ ap (λ (x : ℕ). eqb (x % 2) 1) (zero-div (power (i % 16)))
