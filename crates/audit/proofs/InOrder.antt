-- A record is in order by one comparison, with "to" of the record before it. Assumes nothing.
use mathlib.Core.Path.{◌≡◌, ap}
use mathlib.Core.Bool.{Bool, ◌||◌}
use mathlib.Core.List.{List}
use Prim.Native.Nat.{ℕ, ◌-◌, ◌<◌}
use native.Mathlib.Omega.{arith}
use lib.Dec.{leb}
use borrow.Author.Tests.{le-leb}
use Rattle.journeys.proofs.Tests.{Test, same, other, test}
use Rattle.records.specs.Columns.{to_at, ascends_at}

-- `b` is "to" of the record before, or 0 before the first
pub ascends-is : (size : ℕ) (t : List ℕ) (i b : ℕ) → (i ≡ 0 → b ≡ 0) → (0 < i → b ≡ to_at size t (i - 1)) → leb b (to_at size t i) ≡ ascends_at size t i
unfolding ascends_at
ascends-is size t i b first later = go _ (test i 0)
  where
    go : (x : Bool) → Test i 0 x → leb b (to_at size t i) ≡ x || leb (to_at size t (i - 1)) (to_at size t i)
    go _ (same e) = le-leb b (to_at size t i) (omega (arith, first e))
    go _ (other e) = ap (λ (k : ℕ). leb k (to_at size t i)) (later (omega arith))
