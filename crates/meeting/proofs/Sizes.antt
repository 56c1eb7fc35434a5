-- How many entries a map has: after a record, and in each part of the vertices. Assumes nothing.
use mathlib.Core.Path.{◌≡◌, refl, ap}
use mathlib.Core.Bool.{Bool, false, not}
use Prim.Native.Nat.{ℕ, zero, suc, ◌+◌, ◌≤◌, ◌<◌}
use native.Mathlib.Numerals.{add-one}
use native.Mathlib.Omega.{arith}
use Rattle.worktable.specs.Map.{Entry, Map, put, one, size_to, size}
use Rattle.worktable.proofs.MapLaws.{put_other, size_same, size-put}
use Rattle.journeys.specs.Counting as counting
use Rattle.journeys.specs.Counting.{count}
use Rattle.journeys.proofs.Counting.{count-grows}
use Rattle.passing.specs.Row.{Row}
use Rattle.meeting.specs.Passing.{goes, meets, passed, futile, comers}
use Rattle.meeting.proofs.Entries.{met-one}

pub size-le : (n : ℕ) (a b : Map) → ((u : ℕ) → u < n → one (a u) ≤ one (b u)) → size_to n a ≤ size_to n b
unfolding size_to
size-le zero a b h = omega arith
size-le (suc n) a b h = omega (arith, size-le n a b (λ u l. h u (omega arith)), h n (omega arith))

pub size-eq : (n : ℕ) (a b : Map) → ((u : ℕ) → one (a u) ≡ one (b u)) → size_to n a ≡ size_to n b
unfolding size_to
size-eq zero a b h = refl
size-eq (suc n) a b h = omega (arith, size-eq n a b h, h n)

pub size-eq-below : (n : ℕ) (a b : Map) → ((u : ℕ) → u < n → one (a u) ≡ one (b u)) → size_to n a ≡ size_to n b
unfolding size_to
size-eq-below zero a b h = refl
size-eq-below (suc n) a b h = omega (arith, size-eq-below n a b (λ u l. h u (omega arith)), h n (omega arith))

pub size-other : (n : ℕ) (m : Map) (u : ℕ) (e : Entry) → n ≤ u → size_to n (put m u e) ≡ size_to n m
size-other n m u e h = size_same n (put m u e) m (λ v l. put_other m u e v (λ q. let z : ⊥ = omega arith in z))

size-suc : (n : ℕ) (m : Map) → size_to (suc n) m ≡ size_to n m + one (m n)
unfolding size_to
size-suc n m = refl

-- two maps that agree from k on differ by what they have below k
pub size-upper : (k i : ℕ) (a b : Map) → ((u : ℕ) → k ≤ u → one (a u) ≡ one (b u)) → size_to (i + k) a + size_to k b ≡ size_to (i + k) b + size_to k a
size-upper k zero a b h = let e : 0 + k ≡ k = omega arith in rw e (omega arith)
size-upper k (suc i) a b h = let e : suc i + k ≡ suc (i + k) = omega arith in rw e (more (size-upper k i a b h))
  where
    more : size_to (i + k) a + size_to k b ≡ size_to (i + k) b + size_to k a → size_to (suc (i + k)) a + size_to k b ≡ size_to (suc (i + k)) b + size_to k a
    more ih = omega (arith, size-suc (i + k) a, size-suc (i + k) b, h (i + k) (omega arith))

pub put-size : (m : Map) (u : ℕ) (e : Entry) → u < 65536 → size (put m u e) + one (m u) ≡ size m + one e
unfolding size
put-size m u e l = size-put 65536 m u e l

-- each record adds one entry at most, and a futile one none
pub passed-size : (R : Row) (m : Map) (j : ℕ) → ((i : ℕ) → i < j → R.from i < 65536) → size (passed R j m) ≤ size m + comers R j
unfolding goes count
passed-size R m zero h = omega arith
passed-size R m (suc j) h =
    omega (
      arith,
      passed-size R m j (λ i l. h i (omega arith)),
      put-size (passed R j m) (R.from j) (meets R j (passed R j m (R.from j))) (h j (omega arith)),
      met-one R.allowed (R.offer j) (R.departing (R.from j)) (passed R j m (R.from j)),
    )

-- a record that is not futile is one comer more
pub one-comer : (R : Row) (n j : ℕ) → j < n → futile R.allowed (R.offer j) (R.departing (R.from j)) ≡ false → comers R j + 1 ≤ comers R n
unfolding count
one-comer R n j l f =
    let p : ℕ → Bool = λ i. not (futile R.allowed (R.offer i) (R.departing (R.from i))) in
    let e : counting.one (not (futile R.allowed (R.offer j) (R.departing (R.from j)))) ≡ 1 = ap (λ (t : Bool). counting.one (not t)) f in
    omega (arith, count-grows p (suc j) n (omega arith), e)

-- a pass over the records counts them
pub comers-more : (R : Row) (j : ℕ) {k u x d r : ℕ} → k ≡ comers R j → u ≡ R.from j → x ≡ R.offer j → d ≡ R.departing u → r ≡ counting.one (not (futile R.allowed x d)) → k + r ≡ comers R (j + 1)
unfolding count
comers-more R j e q p o z = rw (add-one j, e, z, o, q, p)
