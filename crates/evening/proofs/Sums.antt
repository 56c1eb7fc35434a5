-- Sums: over the entries of a list and over the vertices they name. Assumes nothing.
use mathlib.Core.Path.{◌≡◌, refl, sym, ap, ap₂, ◌∙◌}
use mathlib.Core.Logic.{◌⊎◌, inl, inr}
use mathlib.Core.Bool.{Bool, true, false, cond}
use Prim.Native.Nat.{ℕ, zero, suc, ◌+◌, ◌*◌, ◌≤◌, ◌<◌}
use native.Mathlib.Omega.{arith}
use native.Mathlib.Nat.{mul-one, mul-zero, mul-add}
use lib.Dec.{eqb, ltb}
use borrow.Author.Tests.{eqb-true, eqb-false, lt-ltb, le-ltb, ltb-true, ltb-false}
use Rattle.journeys.specs.Counting.{one, count}
use Rattle.journeys.proofs.Tests.{split}
use Rattle.evening.specs.Patients.{sum}

pub sum-next : (f : ℕ → ℕ) (n : ℕ) → sum f (n + 1) ≡ sum f n + f n
unfolding sum
sum-next f n = let e : n + 1 ≡ suc n = omega arith in ap (sum f) e

pub sum_same : (f g : ℕ → ℕ) (n : ℕ) → ((i : ℕ) → i < n → f i ≡ g i) → sum f n ≡ sum g n
unfolding sum
sum_same f g zero h = refl
sum_same f g (suc n) h = ap₂ (λ (x y : ℕ). x + y) (sum_same f g n (λ i l. h i (omega arith))) (h n (omega arith))

pub sum-most : (f : ℕ → ℕ) (n : ℕ) → ((i : ℕ) → i < n → f i ≤ 65535) → sum f n ≤ 65535 * n
unfolding sum
sum-most f zero h = omega arith
sum-most f (suc n) h = omega (arith, sum-most f n (λ i l. h i (omega arith)), h n (omega arith))

pub sum-plus : (f g : ℕ → ℕ) (n : ℕ) → sum (λ i. f i + g i) n ≡ sum f n + sum g n
unfolding sum
sum-plus f g zero = refl
sum-plus f g (suc n) = omega (arith, sum-plus f g n)

pub sum-none : (n : ℕ) → sum (λ i. 0) n ≡ 0
unfolding sum
sum-none zero = refl
sum-none (suc n) = omega (arith, sum-none n)

pub sum_ones : (n : ℕ) → sum (λ i. 1) n ≡ n
unfolding sum
sum_ones zero = refl
sum_ones (suc n) = omega (arith, sum_ones n)

pub count-sum : (p : ℕ → Bool) (n : ℕ) → count p n ≡ sum (λ i. one (p i)) n
unfolding count sum
count-sum p zero = refl
count-sum p (suc n) = ap (λ (x : ℕ). x + one (p n)) (count-sum p n)

-- the sums of rows and of columns
pub sum-swap : (r : ℕ → ℕ → ℕ) (n m : ℕ) → sum (λ v. sum (λ j. r j v) n) m ≡ sum (λ j. sum (λ v. r j v) m) n
unfolding sum
sum-swap r zero m = sum-none m
sum-swap r (suc n) m = sum-plus (λ v. sum (λ j. r j v) n) (λ v. r n v) m ∙ ap (λ (x : ℕ). x + sum (λ v. r n v) m) (sum-swap r n m)

-- the only vertex a that is meant
pub sum-pick : (p : ℕ → ℕ) (a n : ℕ) → sum (λ v. p v * one (eqb a v)) n ≡ cond (ltb a n) (p a) 0
unfolding sum
sum-pick p a zero = rw (le-ltb a 0 (omega arith))
sum-pick p a (suc n) = go (sum-pick p a n) (split (eqb a n)) (split (ltb a n))
  where
    go : sum (λ v. p v * one (eqb a v)) n ≡ cond (ltb a n) (p a) 0 → (eqb a n ≡ true) ⊎ (eqb a n ≡ false) → (ltb a n ≡ true) ⊎ (ltb a n ≡ false)
        → sum (λ v. p v * one (eqb a v)) n + p n * one (eqb a n) ≡ cond (ltb a (suc n)) (p a) 0
    go ih (inl t) (inl u) = absurd (let z : ⊥ = omega (arith, eqb-true a n t, ltb-true a n u) in z)
    go ih (inl t) (inr u) = let e = eqb-true a n t in rw (ih, t, u, lt-ltb a (suc n) (omega arith)) (omega (arith, mul-one (p n), ap p e))
    go ih (inr t) (inl u) = rw (ih, t, u, lt-ltb a (suc n) (omega (arith, ltb-true a n u))) (omega (arith, mul-zero (p n)))
    go ih (inr t) (inr u) = rw (ih, t, u, le-ltb a (suc n) (omega (arith, ltb-false a n u, eqb-false a n t))) (omega (arith, mul-zero (p n)))

-- Of entries below m: the sum over the entries is the sum over all numbers below m, each as often as it is named.
pub sum-by-name : (p e : ℕ → ℕ) (i m : ℕ) → ((k : ℕ) → k < i → e k < m) → sum (λ k. p (e k)) i ≡ sum (λ v. p v * count (λ k. eqb (e k) v) i) m
unfolding sum count
sum-by-name p e zero m h = sym (sum_same (λ v. p v * 0) (λ v. 0) m (λ v l. mul-zero (p v)) ∙ sum-none m)
sum-by-name p e (suc i) m h =
    let c : ℕ → ℕ = λ v. count (λ k. eqb (e k) v) i in
    let ih = sum-by-name p e i m (λ k l. h k (omega arith)) in
    let pick : sum (λ v. p v * one (eqb (e i) v)) m ≡ p (e i) = sum-pick p (e i) m ∙ rw (lt-ltb (e i) m (h i (omega arith))) in
    ap₂ (λ (x y : ℕ). x + y) ih (sym pick)
    ∙ sym (sum-plus (λ v. p v * c v) (λ v. p v * one (eqb (e i) v)) m)
    ∙ sum_same (λ v. p v * c v + p v * one (eqb (e i) v)) (λ v. p v * (c v + one (eqb (e i) v))) m (λ v l. sym (mul-add (p v) (c v) (one (eqb (e i) v))))
