-- Where each number that passes one test leads to a number of its own that passes another, the other passes at least as often. Assumes nothing.
use mathlib.Core.Path.{◌≡◌, refl, sym, ap, ◌∙◌}
use mathlib.Core.Logic.{⊎_elim}
use mathlib.Core.Bool.{Bool, true, false, not, ◌&&◌}
use Prim.Native.Nat.{ℕ, zero, suc, ◌+◌, ◌≤◌, ◌<◌}
use native.Mathlib.Omega.{arith}
use lib.Dec.{eqb}
use borrow.Author.Tests.{ne_eqb}
use Rattle.journeys.specs.Counting.{one, count}
use Rattle.journeys.proofs.Tests.{split, and-true, never, Test, same, other, test}
use Rattle.journeys.proofs.Counting.{is_one, is_zero, count-join, none-count}

-- a number is itself once
pub count-itself : (k n : ℕ) → k < n → count (λ j. eqb j k) n ≡ 1
unfolding count
count-itself k zero l = absurd (omega arith)
count-itself k (suc n) l = go (λ q. count-itself k n q) (eqb n k) (test n k)
  where
    go : (k < n → count (λ j. eqb j k) n ≡ 1) → (t : Bool) → Test n k t → count (λ j. eqb j k) n + one t ≡ 1
    go before true (same e) = omega (arith, none-count (λ j. eqb j k) n (λ i b. ne_eqb i k (λ q. omega arith)))
    go before false (other d) = omega (arith, before (omega arith))

-- the test q for all but k
abbrev but : (ℕ → Bool) → ℕ → ℕ → Bool
but q k j = q j && not (eqb j k)

-- which passes once less where k passes
count-but : (q : ℕ → Bool) (k n : ℕ) → k < n → q k ≡ true → count q n ≡ count (but q k) n + 1
count-but q k n l e = count-join q (but q k) (λ j. eqb j k) n (λ j b. go j (eqb j k) (test j k) (q j) refl) ∙ ap (λ x. count (but q k) n + x) (count-itself k n l)
  where
    go : (j : ℕ) (t : Bool) → Test j k t → (p : Bool) → q j ≡ p → one p ≡ one (p && not t) + one t
    go j true (same i) true h = refl
    go j true (same i) false h = never e (ap q (sym i) ∙ h)
    go j false (other d) true h = refl
    go j false (other d) false h = refl

-- t leads from what passes p to what passes q, below m, and from no two to one
pub record Leads (p q : ℕ → Bool) (n m : ℕ) (t : ℕ → ℕ) : Type 0 where
  pub within : (i : ℕ) → i < n → p i ≡ true → t i < m
  pub passes : (i : ℕ) → i < n → p i ≡ true → q (t i) ≡ true
  pub apart : (i j : ℕ) → i < n → j < n → p i ≡ true → p j ≡ true → t i ≡ t j → i ≡ j

pub count-leads : (p q : ℕ → Bool) (n m : ℕ) (t : ℕ → ℕ) → Leads p q n m t → count p n ≤ count q m
unfolding count
count-leads p q zero m t h = omega arith
count-leads p q (suc n) m t h =
    ⊎_elim
    (λ (e : p n ≡ true).
    omega (arith, is_one e, count-but q (t n) m (h.within n (omega arith) e) (h.passes n (omega arith) e), count-leads p (but q (t n)) n m t (rest e)))
    (λ (e : p n ≡ false).
    omega (
      arith,
      is_zero e,
      count-leads p q n m t
          (record {
            within = λ i l. h.within i (omega arith);
            passes = λ i l. h.passes i (omega arith);
            apart = λ i j l k. h.apart i j (omega arith) (omega arith);
          }),
    ))
    (split (p n))
  where
    rest : p n ≡ true → Leads p (but q (t n)) n m t
    rest e =
        record {
          within = λ i l. h.within i (omega arith);
          passes = λ i l a.
              and-true (h.passes i (omega arith) a)
              (ap not (ne_eqb (t i) (t n) (λ s. let z : i ≡ n = h.apart i n (omega arith) (omega arith) a e s in omega arith)));
          apart = λ i j l k. h.apart i j (omega arith) (omega arith);
        }
