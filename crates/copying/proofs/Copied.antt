-- Bytes copied into a buffer: one run behind the other, and into its front. Assumes nothing.
use mathlib.Core.Path.{◌≡◌, refl, ap, ◌∙◌}
use mathlib.Core.List.{List, [], ◌++◌, append-nil}
use Prim.Native.Nat.{ℕ, ◌+◌, ◌*◌, ◌≤◌, ◌<◌}
use native.Mathlib.Nat.{add-zero, zero-add, mul-le-mul_left, mul-add, mul-one}
use native.Mathlib.Omega.{arith}
use lib.ListN.{length, length-append, take-append-drop}
use lib.Seq.{paste, take-length}
use Rattle.words.specs.Written.{written}
use Rattle.words.proofs.Written.{written_next}
use Rattle.copying.specs.Write.{over, Wrote}

pub nothing : (d : List ℕ) (at : ℕ) → Wrote d at [] d at
unfolding written
nothing d at = record { exit = rw (append-nil, add-zero, take-append-drop); next = omega arith }

-- one run and then another
pub both : {d : List ℕ} {at : ℕ} {p d1 : List ℕ} {r1 : ℕ} {q d2 : List ℕ} {r2 : ℕ}
    → r1 ≤ length d → Wrote d at p d1 r1 → Wrote d1 r1 q d2 r2 → Wrote d at (p ++ q) d2 r2
both {d} {at} {p} {d1} {r1} {q} {d2} {r2} fits a b =
    record {
      exit = b.exit ∙ ap (λ (x : ℕ). written d1 x q) a.next ∙ ap (λ (l : List ℕ). written l (at + length p) q) a.exit ∙ written_next d at p (omega (arith, a.next)) q;
      next = simp length-append (omega (arith, a.next, b.next));
    }

-- at the front
pub in-front : {d p d' : List ℕ} {r : ℕ} → Wrote d 0 p d' r → d' ≡ over p d
unfolding over written
in-front a = a.exit ∙ rw zero-add

pub over_none : (d : List ℕ) → d ≡ over [] d
unfolding over
over_none d = refl

-- a copy byte by byte
pub all-bytes : (d : List ℕ) (at : ℕ) (s d' : List ℕ) (i : ℕ) → i ≡ length s → d' ≡ paste d at s i → Wrote d at s d' (at + i)
unfolding written
all-bytes d at s d' i q e = record { exit = e ∙ rw (q, take-length); next = omega arith }

-- one more of so many still fits
pub one-fits : (k i n m : ℕ) → i < n → k * n ≤ m → k * i + k ≤ m
one-fits k i n m l h = let le : i + 1 ≤ n = omega arith in omega (arith, mul-le-mul_left k le, mul-add k i 1, mul-one k)
