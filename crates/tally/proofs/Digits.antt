-- The digits of a word: one taken off one of them leaves the others as they were. Assumes nothing.
use mathlib.Core.Path.{◌≡◌, refl, sym, ap, ◌∙◌}
use mathlib.Core.Logic.{◌⊎◌, inl, inr, ◌≢◌, ⊎_elim}
use Prim.Native.Nat.{ℕ, zero, suc, ◌+◌, ◌-◌, ◌*◌, ◌/◌, ◌%◌, ◌≤◌, ◌<◌, ◌^◌, max}
use native.Mathlib.Nat.{div-eq_of_lt, div-eq-sub-div, div-div-eq-div-mul, add-mul-div_left, add-mul-mod_self_left, mul-add-mod_self_left, mod-eq_of_lt, mod-lt, div-add-mod, mul-add, mul-suc, mul_assoc, mul-one, mul-le-mul_left, le-mul_of_pos_right, one-le-pow, pow-zero, pow-suc}
use native.Mathlib.Omega.{arith}
use Rattle.journeys.proofs.Tests.{le-or-lt, last-or-below}
use Rattle.tally.specs.Laid.{Width, narrow, middle, wide, packed, greatest}

pub power-some : (r : ℕ) → 0 < 16 ^ r
power-some r = one-le-pow r 16 (omega arith)

power-more : (q t : ℕ) → 16 ^ (q + t) ≡ 16 ^ q * 16 ^ t
power-more q zero =
    let e : q + 0 ≡ q = omega arith in
    ap (λ (n : ℕ). 16 ^ n) e ∙ sym (mul-one (16 ^ q)) ∙ ap (λ (n : ℕ). 16 ^ q * n) (sym (pow-zero 16))
power-more q (suc t) =
    let e : q + suc t ≡ suc (q + t) = omega arith in
    ap (λ (n : ℕ). 16 ^ n) e
    ∙ pow-suc 16 (q + t)
    ∙ ap (λ (n : ℕ). n * 16) (power-more q t)
    ∙ mul_assoc (16 ^ q) (16 ^ t) 16
    ∙ ap (λ (n : ℕ). 16 ^ q * n) (sym (pow-suc 16 t))

-- the shift that the code makes
pub shifted : (r : ℕ) → r ≤ 4 → 1 * 2 ^ (4 * r) % 4294967296 ≡ 16 ^ r
shifted zero h = refl
shifted (suc zero) h = refl
shifted (suc (suc zero)) h = refl
shifted (suc (suc (suc zero))) h = refl
shifted (suc (suc (suc (suc zero)))) h = refl
shifted (suc (suc (suc (suc (suc r))))) h = absurd (omega arith)

-- a number less one, whose lowest digit is not zero
some-whole : {m : ℕ} → Width m → (y : ℕ) → 0 < y % 16 ^ m → 0 < y
some-whole narrow y h = omega arith
some-whole middle y h = omega arith
some-whole wide y h = omega arith

less-low : {m : ℕ} → Width m → (y : ℕ) → 0 < (y + 1) % 16 ^ m → y % 16 ^ m + 1 ≡ (y + 1) % 16 ^ m
less-low narrow y h = omega arith
less-low middle y h = omega arith
less-low wide y h = omega arith

less-rest : {m : ℕ} → Width m → (y : ℕ) → 0 < (y + 1) % 16 ^ m → y / 16 ^ m ≡ (y + 1) / 16 ^ m
less-rest narrow y h = omega arith
less-rest middle y h = omega arith
less-rest wide y h = omega arith

module _ {m : ℕ} (width : Width m) (x r : ℕ) (some : 0 < x / 16 ^ r % 16 ^ m) where
  unit-within : 16 ^ r ≤ x
  unit-within =
      ⊎_elim (λ (l : 16 ^ r ≤ x). l) (λ (l : x < 16 ^ r). absurd (let z : ⊥ = omega (arith, some-whole width (x / 16 ^ r) some, div-eq_of_lt l) in z)) (le-or-lt (16 ^ r) x)

  one_less : x / 16 ^ r ≡ (x - 16 ^ r) / 16 ^ r + 1
  one_less = div-eq-sub-div (power-some r) unit-within

  still-some : 0 < ((x - 16 ^ r) / 16 ^ r + 1) % 16 ^ m
  still-some = rw one_less at some

  -- the digit itself, one above it, and one below it
  pub digit-less : (x - 16 ^ r) / 16 ^ r % 16 ^ m + 1 ≡ x / 16 ^ r % 16 ^ m
  digit-less = less-low width ((x - 16 ^ r) / 16 ^ r) still-some ∙ ap (λ (y : ℕ). y % 16 ^ m) (sym one_less)

  digit-above : (t : ℕ) → (x - 16 ^ r) / 16 ^ (r + (m + t)) ≡ x / 16 ^ (r + (m + t))
  digit-above t =
      parted (x - 16 ^ r)
      ∙ ap (λ (y : ℕ). y / 16 ^ t) (less-rest width ((x - 16 ^ r) / 16 ^ r) still-some)
      ∙ ap (λ (y : ℕ). y / 16 ^ m / 16 ^ t) (sym one_less)
      ∙ sym (parted x)
    where
      parted : (y : ℕ) → y / 16 ^ (r + (m + t)) ≡ y / 16 ^ r / 16 ^ m / 16 ^ t
      parted y =
          ap (λ (n : ℕ). y / n) (power-more r (m + t))
          ∙ sym (div-div-eq-div-mul y (16 ^ r) (16 ^ (m + t)))
          ∙ ap (λ (n : ℕ). y / 16 ^ r / n) (power-more m t)
          ∙ sym (div-div-eq-div-mul (y / 16 ^ r) (16 ^ m) (16 ^ t))

  digit-below : (q t : ℕ) → r ≡ q + (m + t) → (x - 16 ^ r) / 16 ^ q % 16 ^ m ≡ x / 16 ^ q % 16 ^ m
  digit-below q t e =
      sym (add-mul-mod_self_left ((x - 16 ^ r) / 16 ^ q) (16 ^ m) (16 ^ t))
      ∙ ap (λ (y : ℕ). ((x - 16 ^ r) / 16 ^ q + y) % 16 ^ m) (sym (power-more m t))
      ∙ ap (λ (y : ℕ). y % 16 ^ m) (sym (add-mul-div_left (x - 16 ^ r) (16 ^ (m + t)) (power-some q)))
      ∙ ap (λ (y : ℕ). y / 16 ^ q % 16 ^ m) back
    where
      back : x - 16 ^ r + 16 ^ q * 16 ^ (m + t) ≡ x
      back = omega (arith, unit-within, ap (λ (n : ℕ). 16 ^ n) e, power-more q (m + t))

  pub digit-other : (q : ℕ) → (q + m ≤ r) ⊎ (r + m ≤ q) → (x - 16 ^ r) / 16 ^ q % 16 ^ m ≡ x / 16 ^ q % 16 ^ m
  digit-other q (inl l) = digit-below q (r - (q + m)) (omega arith)
  digit-other q (inr l) =
      let e : q ≡ r + (m + (q - (r + m))) = omega arith in
      ap (λ (n : ℕ). (x - 16 ^ r) / 16 ^ n % 16 ^ m) e
      ∙ ap (λ (y : ℕ). y % 16 ^ m) (digit-above (q - (r + m)))
      ∙ ap (λ (n : ℕ). x / 16 ^ n % 16 ^ m) (sym e)

-- whether there is a digit, by what stands below the digit above it
module _ (x r m : ℕ) where
  below-above : x % 16 ^ (r + m) ≡ 16 ^ r * (x / 16 ^ r % 16 ^ m) + x % 16 ^ r
  below-above =
      ap (λ (n : ℕ). x % n) (power-more r m)
      ∙ ap (λ (n : ℕ). n % (16 ^ r * 16 ^ m)) whole
      ∙ mul-add-mod_self_left (16 ^ r * 16 ^ m) (x / 16 ^ r / 16 ^ m) (16 ^ r * (x / 16 ^ r % 16 ^ m) + x % 16 ^ r)
      ∙ mod-eq_of_lt small
    where
      whole : x ≡ 16 ^ r * 16 ^ m * (x / 16 ^ r / 16 ^ m) + (16 ^ r * (x / 16 ^ r % 16 ^ m) + x % 16 ^ r)
      whole =
          omega (
            arith,
            div-add-mod x (16 ^ r),
            ap (λ (n : ℕ). 16 ^ r * n) (div-add-mod (x / 16 ^ r) (16 ^ m)),
            mul-add (16 ^ r) (16 ^ m * (x / 16 ^ r / 16 ^ m)) (x / 16 ^ r % 16 ^ m),
            mul_assoc (16 ^ r) (16 ^ m) (x / 16 ^ r / 16 ^ m),
          )

      small : 16 ^ r * (x / 16 ^ r % 16 ^ m) + x % 16 ^ r < 16 ^ r * 16 ^ m
      small = omega (arith, mul-le-mul_left (16 ^ r) (mod-lt (x / 16 ^ r) (power-some m)), mul-suc (16 ^ r) (x / 16 ^ r % 16 ^ m), mod-lt x (power-some r))

  pub no_digit : x % 16 ^ (r + m) < 16 ^ r → x / 16 ^ r % 16 ^ m ≡ 0
  no_digit l =
      ⊎_elim (λ (h : x / 16 ^ r % 16 ^ m ≤ 0). omega arith)
      (λ (h : 0 < x / 16 ^ r % 16 ^ m). absurd (let z : ⊥ = omega (arith, below-above, le-mul_of_pos_right (16 ^ r) h) in z))
      (le-or-lt (x / 16 ^ r % 16 ^ m) 0)

  pub some-digit : 16 ^ r ≤ x % 16 ^ (r + m) → 0 < x / 16 ^ r % 16 ^ m
  some-digit l =
      ⊎_elim (λ (h : x / 16 ^ r % 16 ^ m ≤ 0).
      let e : x / 16 ^ r % 16 ^ m ≡ 0 = omega arith in
      absurd (let z : ⊥ = omega (arith, below-above, ap (λ (n : ℕ). 16 ^ r * n) e, mod-lt x (power-some r)) in z))
      (λ (h : 0 < x / 16 ^ r % 16 ^ m). h)
      (le-or-lt (x / 16 ^ r % 16 ^ m) 0)

pub digit-within : {m : ℕ} → Width m → (j : ℕ) → j * m % 4 + m ≤ 4
digit-within narrow j = omega arith
digit-within middle j = omega arith
digit-within wide j = omega arith

-- two counters of one word
pub apart-in-word : {m : ℕ} → Width m → (i j : ℕ) → i ≢ j → i * m / 4 ≡ j * m / 4 → (i * m % 4 + m ≤ j * m % 4) ⊎ (j * m % 4 + m ≤ i * m % 4)
apart-in-word width i j n e = ⊎_elim (λ (l : i ≤ j). inl (less width i j l n e)) (λ (l : j < i). inr (less width j i (omega arith) (λ q. n (sym q)) (sym e))) (le-or-lt i j)
  where
    less : {m : ℕ} → Width m → (i j : ℕ) → i ≤ j → i ≢ j → i * m / 4 ≡ j * m / 4 → i * m % 4 + m ≤ j * m % 4
    less narrow i j l n e = omega arith
    less middle i j l n e = omega arith
    less wide i j l n e = omega arith

-- the greatest claim
pub greatest-most : (c : ℕ → ℕ) (n i : ℕ) → i < n → c i ≤ greatest c n
unfolding greatest
greatest-most c zero i l = absurd (omega arith)
greatest-most c (suc n) i l = ⊎_elim (λ (e : i ≡ n). rw e (omega arith)) (λ (h : i < n). omega (arith, greatest-most c n i h)) (last-or-below l)

pub greatest-more : (c : ℕ → ℕ) (n : ℕ) → max (greatest c n) (c n) ≡ greatest c (n + 1)
unfolding greatest
greatest-more c n = let e : n + 1 ≡ suc n = omega arith in rw e refl

-- the claims of a group in its words
module _ (c : ℕ → ℕ) where
  of_four : ((i : ℕ) → i < 64 → c i < 16) → (w r : ℕ) → w < 16 → r < 4 → (c (4 * w) + 16 * c (4 * w + 1) + 256 * c (4 * w + 2) + 4096 * c (4 * w + 3)) / 16 ^ r % 16 ≡ c (4 * w + r)
  of_four h w r l m = go r m
    where
      a : c (4 * w) < 16
      a = h (4 * w) (omega arith)

      b : c (4 * w + 1) < 16
      b = h (4 * w + 1) (omega arith)

      d : c (4 * w + 2) < 16
      d = h (4 * w + 2) (omega arith)

      e : c (4 * w + 3) < 16
      e = h (4 * w + 3) (omega arith)

      go : (r : ℕ) → r < 4 → (c (4 * w) + 16 * c (4 * w + 1) + 256 * c (4 * w + 2) + 4096 * c (4 * w + 3)) / 16 ^ r % 16 ≡ c (4 * w + r)
      go zero l = let z : 4 * w + 0 ≡ 4 * w = omega arith in rw z (omega (arith, a, b, d, e))
      go (suc zero) l = omega (arith, a, b, d, e)
      go (suc (suc zero)) l = omega (arith, a, b, d, e)
      go (suc (suc (suc zero))) l = omega (arith, a, b, d, e)
      go (suc (suc (suc (suc r)))) l = absurd (omega arith)

  of_two : ((i : ℕ) → i < 64 → c i < 256) → (w r : ℕ) → w < 32 → r < 2 → (c (2 * w) + 256 * c (2 * w + 1)) / 16 ^ (r * 2) % 256 ≡ c (2 * w + r)
  of_two h w zero l m = let z : 2 * w + 0 ≡ 2 * w = omega arith in rw z (omega (arith, h (2 * w) (omega arith), h (2 * w + 1) (omega arith)))
  of_two h w (suc zero) l m = omega (arith, h (2 * w) (omega arith), h (2 * w + 1) (omega arith))
  of_two h w (suc (suc r)) l m = absurd (omega arith)

  pub packed-digit : {m : ℕ} → Width m → ((i : ℕ) → i < 64 → c i < 16 ^ m) → (i : ℕ) → i < 64 → packed c m (i * m / 4) / 16 ^ (i * m % 4) % 16 ^ m ≡ c i
  unfolding packed
  packed-digit narrow h i l =
      let e : i * 1 ≡ i = omega arith in
      let f : 4 * (i / 4) + i % 4 ≡ i = omega arith in
      rw e (of_four h (i / 4) (i % 4) (omega arith) (omega arith) ∙ ap c f)
  packed-digit middle h i l =
      let w : i * 2 / 4 ≡ i / 2 = omega arith in
      let r : i * 2 % 4 ≡ i % 2 * 2 = omega arith in
      let f : 2 * (i / 2) + i % 2 ≡ i = omega arith in
      rw (w, r) (of_two h (i / 2) (i % 2) (omega arith) (omega arith) ∙ ap c f)
  packed-digit wide h i l =
      let w : i * 4 / 4 ≡ i = omega arith in
      let r : i * 4 % 4 ≡ 0 = omega arith in
      rw (w, r) (omega (arith, h i l))

-- what the code reads of the list for a word, and the word it makes
pub packed-same : {m : ℕ} → Width m → (c d : ℕ → ℕ) (w : ℕ) → w < 16 * m → ((i : ℕ) → i < 64 → c i ≡ d i) → packed c m w ≡ packed d m w
unfolding packed
packed-same narrow c d w l h = rw (h (4 * w) (omega arith), h (4 * w + 1) (omega arith), h (4 * w + 2) (omega arith), h (4 * w + 3) (omega arith)) refl
packed-same middle c d w l h = rw (h (2 * w) (omega arith), h (2 * w + 1) (omega arith)) refl
packed-same wide c d w l h = h w (omega arith)

module _ (c : ℕ → ℕ) (size w : ℕ) where
  pub word-four : size ≡ 1 → packed c size w ≡ c (4 * w) + 16 * c (4 * w + 1) + 256 * c (4 * w + 2) + 4096 * c (4 * w + 3)
  unfolding packed
  word-four e = rw e refl

  pub word_two : size ≡ 2 → packed c size w ≡ c (2 * w) + 256 * c (2 * w + 1)
  unfolding packed
  word_two e = rw e refl

  pub word-one : size ≡ 4 → packed c size w ≡ c w
  unfolding packed
  word-one e = rw e refl

pub width_four : {m : ℕ} → Width m → m ≢ 1 → m ≢ 2 → m ≡ 4
width_four narrow a b = absurd (a refl)
width_four middle a b = absurd (b refl)
width_four wide a b = refl
