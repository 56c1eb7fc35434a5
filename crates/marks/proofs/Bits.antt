-- The bits of the lent array: one more set, all the others as they were. Assumes nothing.
use mathlib.Core.Path.{◌≡◌, refl, sym, ap, ◌∙◌}
use mathlib.Core.Logic.{◌≢◌, ⊎_elim}
use mathlib.Core.Bool.{Bool, true, false, ◌||◌}
use mathlib.Core.List.{List}
use Prim.Native.Nat.{ℕ, zero, suc, ◌+◌, ◌-◌, ◌*◌, ◌/◌, ◌%◌, ◌≤◌, ◌<◌, ◌^◌}
use native.Mathlib.Nat.{div-div-eq-div-mul, add-div_right, add-mul-div_left, div-lt_iff_lt-mul, mul_comm, mul_left_comm, zero-div, mod-eq_of_lt, pow-zero, pow-suc}
use native.Mathlib.Decide.{ℕ_discrete}
use native.Mathlib.Omega.{arith}
use lib.Dec.{eqb}
use lib.ListN.{length, get_or, set, replicate, get_or-replicate}
use lib.Seq.{get_or-set_same, get_or-set_other}
use borrow.Author.Tests.{eq-eqb, ne_eqb}
use Rattle.journeys.proofs.Tests.{le-or-lt}
use Rattle.marks.specs.Marks.{power, bit}

pub power-some : (k : ℕ) → 0 < power k
unfolding power
power-some zero = omega arith
power-some (suc k) = omega (arith, power-some k)

power-more : (i r : ℕ) → power (r + i) ≡ power i * power r
unfolding power
power-more i zero = let e : 0 + i ≡ i = omega arith in rw e (omega arith)
power-more i (suc r) =
    let e : suc r + i ≡ suc (r + i) = omega arith in
    ap power e ∙ ap (λ (x : ℕ). 2 * x) (power-more i r) ∙ mul_left_comm 2 (power i) (power r)

sixteen : 65536 ≡ power 16
unfolding power
sixteen = refl

-- a power above another is an even multiple of it
power-above : (i l : ℕ) → i < l → power l ≡ power i * (2 * power (l - suc i))
unfolding power
power-above i l h = let e : l ≡ suc (l - suc i) + i = omega arith in ap power e ∙ power-more i (suc (l - suc i))

module _ (w i : ℕ) (clear : w / power i % 2 ≡ 0) where
  set_same : (w + power i) / power i % 2 ≡ 1
  set_same = rw (add-div_right w (power-some i)) (omega arith)

  set-high : (l : ℕ) → i < l → (w + power i) / power l ≡ w / power l
  set-high l h =
      let r = power (l - suc i) in
      let half : (w / power i + 1) / 2 ≡ w / power i / 2 = omega arith in
      ap (λ (x : ℕ). (w + power i) / x) (power-above i l h)
      ∙ sym (div-div-eq-div-mul (w + power i) (power i) (2 * r))
      ∙ sym (div-div-eq-div-mul ((w + power i) / power i) 2 r)
      ∙ ap (λ (x : ℕ). x / 2 / r) (add-div_right w (power-some i))
      ∙ ap (λ (x : ℕ). x / r) half
      ∙ div-div-eq-div-mul (w / power i) 2 r
      ∙ div-div-eq-div-mul w (power i) (2 * r)
      ∙ ap (λ (x : ℕ). w / x) (sym (power-above i l h))

  set-low : (l : ℕ) → l < i → (w + power i) / power l % 2 ≡ w / power l % 2
  set-low l h =
      let r = power (i - suc l) in
      ap (λ (x : ℕ). (w + x) / power l % 2) (power-above l i h)
      ∙ ap (λ (x : ℕ). x % 2) (add-mul-div_left w (2 * r) (power-some l))
      ∙ omega arith

  set_other : (l : ℕ) → l ≢ i → (w + power i) / power l % 2 ≡ w / power l % 2
  set_other l n =
      ⊎_elim (λ (h : l ≤ i). set-low l (let d : l ≢ i = n in omega (arith, differ l i d h)))
      (λ (h : i < l). ap (λ (x : ℕ). x % 2) (set-high l h))
      (le-or-lt l i)
    where
      differ : (a b : ℕ) → a ≢ b → a ≤ b → a < b
      differ a b n h = ⊎_elim (λ (q : b ≤ a). absurd (n (omega arith))) (λ (q : a < b). q) (le-or-lt b a)

  pub set-fits : i < 16 → w < 65536 → w + power i < 65536
  set-fits h l =
      let r = power (15 - i) in
      let e : power 16 ≡ power i * (2 * power (16 - suc i)) = power-above i 16 (omega arith) in
      let k : 16 - suc i ≡ 15 - i = omega arith in
      let big : 65536 ≡ 2 * r * power i = sixteen ∙ e ∙ ap (λ (x : ℕ). power i * (2 * power x)) k ∙ mul_comm (power i) (2 * r) in
      let below : w / power i < 2 * r = (div-lt_iff_lt-mul (power-some i)).1 (rw (← big) l) in
      rw big ((div-lt_iff_lt-mul {x = w + power i} {y = 2 * r} (power-some i)).0 (rw (add-div_right w (power-some i)) (omega arith)))

or-other : (a : Bool) {k i : ℕ} → k ≢ i → a ≡ (a || eqb k i)
or-other true n = refl
or-other false {k} {i} n = sym (ne_eqb k i n)

or_same : (a : Bool) {k i : ℕ} → k ≡ i → true ≡ (a || eqb k i)
or_same true e = refl
or_same false {k} {i} e = sym (eq-eqb k i e)

-- a bit that is set already
pub marked-again : (s : List ℕ) (k : ℕ) → bit s k ≡ true → (i : ℕ) → bit s i ≡ (bit s i || eqb k i)
marked-again s k h i = go (ℕ_discrete k i)
  where
    go : Dec (k ≡ i) → bit s i ≡ (bit s i || eqb k i)
    go (yes e) = ap (bit s) (sym e) ∙ h ∙ or_same (bit s i) e
    go (no n) = or-other (bit s i) n

-- a bit that is set now
module _ (s : List ℕ) (k : ℕ) (inside : k / 16 < length s) (clear : get_or s (k / 16) 0 / power (k % 16) % 2 ≡ 0) where
  abbrev marked : List ℕ
  marked = set s (k / 16) (get_or s (k / 16) 0 + power (k % 16))

  pub newly-marked : (i : ℕ) → bit marked i ≡ (bit s i || eqb k i)
  unfolding bit
  newly-marked i = go (ℕ_discrete (i / 16) (k / 16)) (ℕ_discrete (i % 16) (k % 16))
    where
      go : Dec (i / 16 ≡ k / 16) → Dec (i % 16 ≡ k % 16) → eqb (get_or marked (i / 16) 0 / power (i % 16) % 2) 1 ≡ (eqb (get_or s (i / 16) 0 / power (i % 16) % 2) 1 || eqb k i)
      go (no n) d =
          ap (λ (x : ℕ). eqb (x / power (i % 16) % 2) 1) (get_or-set_other s (k / 16) (i / 16) (get_or s (k / 16) 0 + power (k % 16)) 0 n)
          ∙ or-other (eqb (get_or s (i / 16) 0 / power (i % 16) % 2) 1) (λ e. n (ap (λ (x : ℕ). x / 16) (sym e)))
      go (yes e) (no n) =
          ap (λ (x : ℕ). eqb (get_or marked x 0 / power (i % 16) % 2) 1) e
          ∙ ap (λ (x : ℕ). eqb (x / power (i % 16) % 2) 1) (get_or-set_same s (k / 16) (get_or s (k / 16) 0 + power (k % 16)) 0 inside)
          ∙ ap (λ (x : ℕ). eqb x 1) (set_other (get_or s (k / 16) 0) (k % 16) clear (i % 16) n)
          ∙ ap (λ (x : ℕ). eqb (get_or s x 0 / power (i % 16) % 2) 1) (sym e)
          ∙ or-other (eqb (get_or s (i / 16) 0 / power (i % 16) % 2) 1) (λ q. n (ap (λ (x : ℕ). x % 16) (sym q)))
      go (yes e) (yes q) =
          ap (λ (x : ℕ). eqb (get_or marked x 0 / power (i % 16) % 2) 1) e
          ∙ ap (λ (x : ℕ). eqb (x / power (i % 16) % 2) 1) (get_or-set_same s (k / 16) (get_or s (k / 16) 0 + power (k % 16)) 0 inside)
          ∙ ap (λ (x : ℕ). eqb ((get_or s (k / 16) 0 + power (k % 16)) / power x % 2) 1) q
          ∙ ap (λ (x : ℕ). eqb x 1) (set_same (get_or s (k / 16) 0) (k % 16) clear)
          ∙ or_same (eqb (get_or s (i / 16) 0 / power (i % 16) % 2) 1) {k = k} {i = i} (omega arith)

pub zero_bit : (s : List ℕ) → s ≡ replicate 2048 0 → (i : ℕ) → i < 32768 → bit s i ≡ false
unfolding bit
zero_bit s e i h =
    ap (λ (l : List ℕ). eqb (get_or l (i / 16) 0 / power (i % 16) % 2) 1) e
    ∙ ap (λ (x : ℕ). eqb (x / power (i % 16) % 2) 1) (get_or-replicate 2048 (i / 16) 0 0 (omega arith))
    ∙ ap (λ (x : ℕ). eqb (x % 2) 1) (zero-div (power (i % 16)))

-- the shift that the code makes
two_to : (k : ℕ) → 2 ^ k ≡ power k
unfolding power
two_to zero = pow-zero 2
two_to (suc k) = pow-suc 2 k ∙ omega (arith, two_to k)

pub shifted : (k : ℕ) → k < 16 → 1 * 2 ^ k % 65536 ≡ power k
shifted k h =
    let one : 1 * 2 ^ k ≡ power k = omega (arith, two_to k) in
    let fits : power k < 65536 = omega (arith, set-fits 0 k (ap (λ (x : ℕ). x % 2) (zero-div (power k))) h (omega arith)) in
    ap (λ (x : ℕ). x % 65536) one ∙ mod-eq_of_lt fits

-- the code's test of a bit; p is the power
module _ (s : List ℕ) (k p : ℕ) (e : p ≡ power (k % 16)) where
  pub is-marked : get_or s (k / 16) 0 / p % 2 ≡ 1 → bit s k ≡ true
  unfolding bit
  is-marked h = eq-eqb (get_or s (k / 16) 0 / power (k % 16) % 2) 1 (rw (← e) h)

  pub not-marked : (get_or s (k / 16) 0 / p % 2 ≡ 1 → ⊥) → bit s k ≡ false
  unfolding bit
  not-marked h = ne_eqb (get_or s (k / 16) 0 / power (k % 16) % 2) 1 (λ q. h (rw e q))

  pub bit-clear : (get_or s (k / 16) 0 / p % 2 ≡ 1 → ⊥) → get_or s (k / 16) 0 / power (k % 16) % 2 ≡ 0
  bit-clear h =
      ⊎_elim (λ (q : get_or s (k / 16) 0 / power (k % 16) % 2 ≤ 0). omega arith)
      (λ (q : 0 < get_or s (k / 16) 0 / power (k % 16) % 2). absurd (h (rw e (omega arith))))
      (le-or-lt (get_or s (k / 16) 0 / power (k % 16) % 2) 0)

  pub mark-fits : (get_or s (k / 16) 0 / p % 2 ≡ 1 → ⊥) → get_or s (k / 16) 0 < 65536 → get_or s (k / 16) 0 + p < 65536
  mark-fits h l = rw e (set-fits (get_or s (k / 16) 0) (k % 16) (bit-clear h) (omega arith) l)

  pub mark-sets : (get_or s (k / 16) 0 / p % 2 ≡ 1 → ⊥) → k / 16 < length s → (i : ℕ) → bit (set s (k / 16) (get_or s (k / 16) 0 + p)) i ≡ (bit s i || eqb k i)
  mark-sets h l i = rw e (newly-marked s k l (bit-clear h) i)

  pub power-above-zero : 0 < p
  power-above-zero = rw e (power-some (k % 16))

  pub test-is : eqb (get_or s (k / 16) 0 / p % 2) 1 ≡ bit s k
  unfolding bit
  test-is = rw e
