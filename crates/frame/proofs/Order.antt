-- The order of finite floats is a weak order: what is not below is at least as great, and equals are not told apart. Assumes nothing.
use mathlib.Core.Path.{◌≡◌, refl, sym, ap, ◌∙◌}
use mathlib.Core.Logic.{⊎_elim}
use mathlib.Core.Bool.{Bool, true, false, ◌||◌}
use Prim.Native.Nat.{ℕ, zero, suc, ◌+◌, ◌*◌, ◌<◌, ◌≤◌}
use native.Mathlib.Nat.{mul_assoc, mul_comm, mul_left_comm, mul-le-mul_left, mul-lt-mul_of_pos_left, lt_of_mul-lt-mul_left, mul-pos, zero-mul}
use native.Mathlib.Omega.{arith}
use lib.Dec.{eqb, ltb}
use lib.Ieee.{Float, up, down, below, level, lt, le, eq}
use lib.Ieee.Fits.{down_pos}
use borrow.Author.Tests.{lt-ltb, le-ltb, ltb-true, ltb-false, eq-eqb, ne_eqb}
use Rattle.journeys.proofs.Tests.{never, le-or-lt, same-or-below, and_left, and_right, or_left, or_right, and-true}
use Rattle.frame.proofs.Stored.{Finite}

-- ---- what is not zero
some-above : (x y : ℕ) → x < y → 0 < y
some-above x y l = omega arith

some-most : (x y : ℕ) → 0 < x → x ≤ y → 0 < y
some-most x y l m = omega arith

none_left : (x : ℕ) → x ≤ 0 → 0 < x → ⊥
none_left x m l = omega arith

sum-zero : (x y : ℕ) → x + y ≤ 0 → (x ≤ 0) × (y ≤ 0)
sum-zero x y m = (omega arith, omega arith)

sum_left : (x y : ℕ) → 0 < x → 0 < x + y
sum_left x y l = omega arith

sum-right : (x y : ℕ) → 0 < y → 0 < x + y
sum-right x y l = omega arith

sum-other : (x y : ℕ) → x ≤ 0 → 0 < x + y → 0 < y
sum-other x y z l = omega arith

sum_first : (x y : ℕ) → y ≡ 0 → 0 < x + y → 0 < x
sum_first x y z l = omega arith

zero_of : (x y : ℕ) → 0 < y → x * y ≤ 0 → x ≡ 0
zero_of zero y l m = refl
zero_of (suc x) y l m = absurd (none_left (suc x * y) m (mul-pos {m = suc x} {n = y} (omega arith) l))

-- ---- fractions a / p, b / q, c / r
some_left : (a q : ℕ) → 0 < a * q → 0 < a
some_left zero q h = omega (arith, zero-mul q)
some_left (suc a) q h = omega arith

module _ (a p b q c r : ℕ) where
  turn : (x y z : ℕ) → z * (x * y) ≡ y * (x * z)
  turn x y z = simp (mul_assoc, mul_comm, mul_left_comm)

  chain : {u v w x y z : ℕ} → u ≡ v → v < w → w ≡ x → x ≤ y → y ≡ z → u < z
  chain e l f m g = omega arith

  chain' : {u v w x y z : ℕ} → u ≡ v → v ≤ w → w ≡ x → x < y → y ≡ z → u < z
  chain' e l f m g = omega arith

  -- a / p < b / q ≤ c / r
  below-then-most : 0 < r → a * q < b * p → b * r ≤ c * q → a * r < c * p
  below-then-most R h k =
      lt_of_mul-lt-mul_left q (chain (turn a r q) (mul-lt-mul_of_pos_left h R) (turn b p r) (mul-le-mul_left p k) (turn c q p))

  -- c / r ≤ b / q < a / p
  most-then-below : 0 < r → c * q ≤ b * r → b * p < a * q → c * p < a * r
  most-then-below R k h =
      lt_of_mul-lt-mul_left q (chain' (turn c p q) (mul-le-mul_left p k) (turn b r p) (mul-lt-mul_of_pos_left h R) (turn a q r))

  -- x is below y or not below z, by their signs
  signed : (s t u : Bool) → 0 < p → 0 < q → 0 < r → below s (a * q) t (b * p) ≡ true → below u (c * q) t (b * r) ≡ false → below s (a * r) u (c * p) ≡ true
  signed false false false P Q R h k = lt-ltb (a * r) (c * p) (below-then-most R (ltb-true (a * q) (b * p) h) (ltb-false (c * q) (b * r) k))
  signed false false true P Q R h k =
      let B = mul-pos (some_left b p (some-above (a * q) (b * p) (ltb-true (a * q) (b * p) h))) R in
      absurd (none_left (b * r) (sum-zero (c * q) (b * r) (ltb-false 0 (c * q + b * r) k)).1 B)
  signed false true u P Q R h k = never h refl
  signed true false false P Q R h k =
      lt-ltb 0 (a * r + c * p) (⊎_elim (λ (z : a * q ≤ 0). right z) (λ (z : 0 < a * q). sum_left (a * r) (c * p) (mul-pos (some_left a q z) R)) (le-or-lt (a * q) 0))
    where
      right : a * q ≤ 0 → 0 < a * r + c * p
      right z =
          let B = some_left b p (sum-other (a * q) (b * p) z (ltb-true 0 (a * q + b * p) h)) in
          let C = some_left c q (some-most (b * r) (c * q) (mul-pos B R) (ltb-false (c * q) (b * r) k)) in
          sum-right (a * r) (c * p) (mul-pos C P)
  signed true false true P Q R h k =
      let m = sum-zero (c * q) (b * r) (ltb-false 0 (c * q + b * r) k) in
      lt-ltb (c * p) (a * r) (bare (zero_of c q Q m.0) (mul-pos (some_left a q (only (zero_of b r R m.1) (ltb-true 0 (a * q + b * p) h))) R))
    where
      only : b ≡ 0 → 0 < a * q + b * p → 0 < a * q
      only e l = sum_first (a * q) (b * p) (ap (λ (x : ℕ). x * p) e ∙ zero-mul p) l

      bare : c ≡ 0 → 0 < a * r → c * p < a * r
      bare e l = rw (e, zero-mul p) l
  signed true true false P Q R h k = lt-ltb 0 (a * r + c * p) (sum_left (a * r) (c * p) (mul-pos (some_left a q (some-above (b * p) (a * q) (ltb-true (b * p) (a * q) h))) R))
  signed true true true P Q R h k = lt-ltb (c * p) (a * r) (most-then-below R (ltb-false (b * r) (c * q) k) (ltb-true (b * p) (a * q) h))

-- ---- two signed numbers over one denominator
below-once : (s t : Bool) (a b : ℕ) → below s a t b ≡ true → below t b s a ≡ false
below-once false false a b h = le-ltb b a (let l = ltb-true a b h in omega arith)
below-once false true a b h = never h refl
below-once true false a b h = refl
below-once true true a b h = le-ltb a b (let l = ltb-true b a h in omega arith)

below_apart : (s t : Bool) (a b : ℕ) → below s a t b ≡ true → level t b s a ≡ false
below_apart false false a b h = and_left _ (ne_eqb b a (λ e. let l = ltb-true a b h in let z : ⊥ = omega arith in z))
below_apart false true a b h = never h refl
below_apart true false a b h =
    ⊎_elim (λ (z : b ≤ 0). and_left _ (ne_eqb b a (λ e. let l = ltb-true 0 (a + b) h in let y : ⊥ = omega arith in y)))
    (λ (z : 0 < b). and_right (eqb b a) (ne_eqb b 0 (λ e. let y : ⊥ = omega arith in y)))
    (le-or-lt b 0)
below_apart true true a b h = and_left _ (ne_eqb b a (λ e. let l = ltb-true b a h in let z : ⊥ = omega arith in z))

below-or-level : (s t : Bool) (a b : ℕ) → below s a t b ≡ false → (below t b s a || level t b s a) ≡ true
below-or-level false false a b h =
    ⊎_elim (λ (e : b ≡ a). or_right (ltb b a) (and-true (eq-eqb b a e) refl)) (λ (l : b < a). or_left _ (lt-ltb b a l)) (same-or-below (ltb-false a b h))
below-or-level false true a b h =
    ⊎_elim (λ (z : b + a ≤ 0). or_right (ltb 0 (b + a)) (and-true (eq-eqb b a (omega arith)) (eq-eqb b 0 (omega arith)))) (λ (z : 0 < b + a). or_left _ (lt-ltb 0 (b + a) z)) (le-or-lt (b + a) 0)
below-or-level true false a b h =
    let m = ltb-false 0 (a + b) h in and-true (eq-eqb b a (omega arith)) (eq-eqb b 0 (omega arith))
below-or-level true true a b h =
    ⊎_elim (λ (e : a ≡ b). or_right (ltb a b) (and-true (eq-eqb b a (sym e)) refl)) (λ (l : a < b). or_left _ (lt-ltb a b l)) (same-or-below (ltb-false b a h))

-- ---- finite floats
pub below-through : (x y z : Float) → Finite x → Finite y → Finite z → lt x y ≡ true → lt z y ≡ false → lt x z ≡ true
unfolding lt
below-through x y z (s, m, e, i) (t, n, d, j) (u, k, g, l) h f =
    rw (i, l)
    (signed (m * up e) (down e) (n * up d) (down d) (k * up g) (down g) s t u (down_pos e) (down_pos d) (down_pos g) (rw (i, j) at h) (rw (l, j) at f))

pub not-both : (x y : Float) → Finite x → Finite y → lt x y ≡ true → lt y x ≡ false
unfolding lt
not-both x y (s, m, e, i) (t, n, d, j) h = rw (i, j) (below-once s t (m * up e * down d) (n * up d * down e) (rw (i, j) at h))

pub not_equal : (x y : Float) → Finite x → Finite y → lt x y ≡ true → eq y x ≡ false
unfolding lt eq
not_equal x y (s, m, e, i) (t, n, d, j) h = rw (i, j) (below_apart s t (m * up e * down d) (n * up d * down e) (rw (i, j) at h))

-- what is not below is at least as great
pub at_least : (x y : Float) → Finite x → Finite y → lt x y ≡ false → le y x ≡ true
unfolding lt eq le
at_least x y (s, m, e, i) (t, n, d, j) h = rw (i, j) (below-or-level s t (m * up e * down d) (n * up d * down e) (rw (i, j) at h))
