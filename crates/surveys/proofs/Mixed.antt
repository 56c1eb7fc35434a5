-- How many entries a map has that is one map on some vertices and another elsewhere. Assumes nothing.
use mathlib.Core.Path.{◌≡◌, refl}
use mathlib.Core.Logic.{⊎_elim}
use Prim.Native.Nat.{ℕ, zero, suc, ◌+◌, ◌≤◌, ◌<◌}
use native.Mathlib.Omega.{arith}
use Rattle.journeys.proofs.Tests.{same-or-below}
use Rattle.worktable.specs.Map.{Map, one, size_to, size}
use Rattle.meeting.proofs.Entries.{one-most}
use Rattle.meeting.proofs.Sizes.{size-eq-below}

size-suc : (n : ℕ) (m : Map) → size_to (suc n) m ≡ size_to n m + one (m n)
unfolding size_to
size-suc n m = refl

pub size-most : (k : ℕ) (m : Map) → size_to k m ≤ k
unfolding size_to
size-most zero m = omega arith
size-most (suc k) m = omega (arith, size-most k m, one-most (m k))

pub size_small : (m : Map) → size m ≤ 65536
unfolding size
size_small m = size-most 65536 m

-- two maps that agree from k up to i differ by what they have below k
pub size-range : (k i : ℕ) (a b : Map) → k ≤ i → ((u : ℕ) → k ≤ u → u < i → one (a u) ≡ one (b u)) → size_to i a + size_to k b ≡ size_to i b + size_to k a
size-range k zero a b h e = let q : k ≡ 0 = omega arith in rw q (omega arith)
size-range k (suc i) a b h e =
    ⊎_elim (λ (q : k ≡ suc i). rw q (omega arith))
    (λ (l : k < suc i). omega (arith, size-range k i a b (omega arith) (λ u p r. e u p (omega arith)), size-suc i a, size-suc i b, e i (omega arith) (omega arith)))
    (same-or-below h)

-- x is a from lo up to hi, and b elsewhere
pub size-mixed : (lo hi : ℕ) (x a b : Map) → lo ≤ hi → hi ≤ 65536 → ((u : ℕ) → u < lo → one (x u) ≡ one (b u)) → ((u : ℕ) → lo ≤ u → u < hi → one (x u) ≡ one (a u))
    → ((u : ℕ) → hi ≤ u → u < 65536 → one (x u) ≡ one (b u)) → size x + size_to hi b + size_to lo a ≡ size b + size_to hi a + size_to lo b
unfolding size
size-mixed lo hi x a b l h below inside above =
    omega (arith, size-range hi 65536 x b h above, size-range lo hi x a l inside, size-eq-below lo x b below)
