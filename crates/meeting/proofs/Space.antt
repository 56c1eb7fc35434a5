-- When a slot is free for each record that brings an entry: where those that may bring one are no more than the free slots, and where there is a slot for every vertex. Assumes nothing.
use mathlib.Core.Path.{◌≡◌, ◌∙◌}
use Prim.Native.Nat.{ℕ, zero, suc, ◌+◌, ◌-◌, ◌≤◌, ◌<◌}
use native.Mathlib.Omega.{arith}
use Rattle.passing.specs.Row.{Row}
use Rattle.worktable.specs.Map.{Entry, absent, known, Map, put, one, size_to, size}
use Rattle.worktable.proofs.MapLaws.{put_other}
use Rattle.meeting.specs.Passing.{goes, meets, passed, comers, Inside, Spacious}
use Rattle.meeting.proofs.Entries.{one-most, one-absent}
use Rattle.meeting.proofs.Sizes.{put-size, passed-size, one-comer}

-- no more records may bring an entry than there are free slots
pub few-comers : (R : Row) (n slots : ℕ) (m : Map) → ((i : ℕ) → i < n → R.from i < 65536) → size m + comers R n ≤ slots → Spacious R n slots m
few-comers R n slots m low h j l z f = omega (arith, passed-size R m j (λ i k. low i (omega arith)), one-comer R n j l f)

-- ---- a map whose entries are those of the first n vertices has at most n
put-inside : (n : ℕ) (m : Map) (u : ℕ) (e : Entry) → u < n → Inside n m → Inside n (put m u e)
put-inside n m u e l h v k = put_other m u e v (λ q. let z : ⊥ = omega arith in z) ∙ h v k

size_below : (n : ℕ) (m : Map) → size_to n m ≤ n
unfolding size_to
size_below zero m = omega arith
size_below (suc n) m = omega (arith, size_below n m, one-most (m n))

size-beyond : (n k : ℕ) (m : Map) → Inside n m → size_to (k + n) m ≤ n
unfolding size_to
size-beyond n zero m h = let e : 0 + n ≡ n = omega arith in rw e (size_below n m)
size-beyond n (suc k) m h = let e : suc k + n ≡ suc (k + n) = omega arith in rw e (more (size-beyond n k m h))
  where
    more : size_to (k + n) m ≤ n → size_to (suc (k + n)) m ≤ n
    more ih = omega (arith, ih, one-absent (m (k + n)) (h (k + n) (omega arith)))

pub inside-size : (n : ℕ) (m : Map) → n ≤ 65536 → Inside n m → size m ≤ n
unfolding size
inside-size n m l h = let e : 65536 ≡ (65536 - n) + n = omega arith in rw e (size-beyond n (65536 - n) m h)

-- and fewer where one of them has none
inside-fewer : (n : ℕ) (m : Map) (u : ℕ) → n ≤ 65536 → u < n → Inside n m → m u ≡ absent → size m < n
unfolding one
inside-fewer n m u l k h z = omega (arith, inside-size n (put m u (known 0 0 0)) l (put-inside n m u (known 0 0 0) k h), put-size m u (known 0 0 0) (omega arith), one-absent (m u) z)

passed-inside : (R : Row) (n : ℕ) (m : Map) (j : ℕ) → ((i : ℕ) → i < j → R.from i < n) → Inside n m → Inside n (passed R j m)
unfolding goes
passed-inside R n m zero low h = h
passed-inside R n m (suc j) low h = put-inside n (passed R j m) (R.from j) (meets R j (passed R j m (R.from j))) (low j (omega arith)) (passed-inside R n m j (λ i k. low i (omega arith)) h)

-- there is a slot for every vertex
pub every-vertex : (R : Row) (n vertices slots : ℕ) (m : Map) → vertices ≤ 65536 → ((i : ℕ) → i < n → R.from i < vertices) → Inside vertices m → vertices ≤ slots → Spacious R n slots m
every-vertex R n vertices slots m small low h enough j l z f =
    omega (arith, inside-fewer vertices (passed R j m) (R.from j) small (low j l) (passed-inside R vertices m j (λ i k. low i (omega arith)) h) z)
