-- Signed seconds: what the bits of a number say, the range of a difference, and seconds by `clock`. Assumes nothing.
use mathlib.Core.Path.{◌≡◌, refl, ap, ◌∙◌}
use mathlib.Core.Logic.{⊎_elim}
use mathlib.Core.Bool.{Bool, true, false, cond}
use Prim.Native.Nat.{ℕ, zero, suc, ◌+◌, ◌-◌, ◌%◌, ◌≤◌, ◌<◌}
use native.Mathlib.Omega.{arith}
use lib.Dec.{leb, ltb, le→leb}
use lib.IntN.{ℤ, pos, negsuc, sub_ℕ, ◌-ℤ◌}
use lib.Signed.{mag, le_z, ◌≤ℤ◌}
use mir.Syntax.{w32}
use mir.Val.{SFits, to_z, of_z}
use mir.ValLaws.{to_z-of_z, to_z_pos}
use borrow.Author.Tests.{lt-ltb, le-ltb, ltb-true, ltb-false}
use Rattle.journeys.specs.Bytes.{clock, midnight, clocked}
use Rattle.journeys.specs.Query.{Query, before}
use Rattle.journeys.proofs.Tests.{split}
use Rattle.journeys.proofs.Seconds.{clocked-le, clocked-less}
use Rattle.words.specs.Quantities.{DayTime, ticks_before}

-- `clock` and signed seconds are each other's reading
pub clocked-signed : (second : ℕ) → clocked (sub_ℕ second midnight) ≡ second
clocked-signed second =
    ⊎_elim (λ (t : ltb second 2147483648 ≡ true). ap (λ (b : Bool). clocked (cond b (negsuc (2147483648 - suc second)) (pos (second - 2147483648)))) t ∙ omega (arith, ltb-true))
    (λ (t : ltb second 2147483648 ≡ false). ap (λ (b : Bool). clocked (cond b (negsuc (2147483648 - suc second)) (pos (second - 2147483648)))) t ∙ omega (arith, ltb-false))
    (split _)

pub bits-low : (bits : ℕ) → bits < 2147483648 → sub_ℕ (clock bits) midnight ≡ pos bits
unfolding clock
bits-low bits h =
    let e : (bits + 2147483648) % 4294967296 ≡ bits + 2147483648 = omega arith in
    rw (e, le-ltb (bits + 2147483648) 2147483648 (omega arith)) (ap pos (omega arith))

pub bits-high : (bits : ℕ) → 2147483648 ≤ bits → bits < 4294967296 → sub_ℕ (clock bits) midnight ≡ negsuc (4294967295 - bits)
unfolding clock
bits-high bits h k =
    let e : (bits + 2147483648) % 4294967296 ≡ bits - 2147483648 = omega arith in
    rw (e, lt-ltb (bits - 2147483648) 2147483648 (omega arith)) (ap negsuc (omega arith))

-- what the machine computes of a negative number's bits
minus-one-less : (n : ℕ) → negsuc 0 -ℤ pos n ≡ negsuc n
minus-one-less zero = refl
minus-one-less (suc n) = ap (λ (k : ℕ). negsuc (suc k)) (omega arith)

pub less : (n : ℕ) → n < 2147483648 → negsuc 0 -ℤ to_z w32 n ≡ negsuc n
less n h = rw (to_z_pos w32 n h) (minus-one-less n)

pub less-fits : (n : ℕ) → n < 2147483648 → SFits w32 (negsuc 0 -ℤ to_z w32 n)
less-fits n h = rw (less n h) (record { sfits = h })

-- a number of the machine, and the comparison of two
abbrev pub held : ℤ → ℤ
held z = to_z w32 (of_z w32 z)

module _ (a b : ℤ) (fa : mag a < 2147483648) (fb : mag b < 2147483648) where
  pub le-clocked : le_z (held a) (held b) ≡ leb (clocked a) (clocked b)
  le-clocked = rw (to_z-of_z w32 a (record { sfits = fa }), to_z-of_z w32 b (record { sfits = fb })) (clocked-le a b fa fb)

-- a difference
mag-sub-by : (a b : ℕ) (t : Bool) → ltb a b ≡ t → mag (cond t (negsuc (b - suc a)) (pos (a - b))) ≤ a + b
mag-sub-by a b true h = omega arith
mag-sub-by a b false h = omega arith

mag-subℕ : (a b : ℕ) → mag (sub_ℕ a b) ≤ a + b
mag-subℕ a b = mag-sub-by a b (ltb a b) refl

mag-diff : (a b : ℤ) → mag (a -ℤ b) ≤ suc (suc (mag a + mag b))
mag-diff (pos a) (pos zero) = omega arith
mag-diff (pos a) (pos (suc b)) = omega (arith, mag-subℕ a (suc b))
mag-diff (pos a) (negsuc b) = omega arith
mag-diff (negsuc a) (pos zero) = omega (arith, mag-subℕ 0 (suc a))
mag-diff (negsuc a) (pos (suc b)) = omega arith
mag-diff (negsuc a) (negsuc b) = omega (arith, mag-subℕ (suc b) (suc a))

pub day-small : (z : ℤ) → DayTime (clocked z) → mag z ≤ 172800
day-small (pos n) d = omega (arith, d.high)
day-small (negsuc n) d = omega (arith, d.low)

module _ (a b : ℤ) (da : DayTime (clocked a)) (db : DayTime (clocked b)) where
  fits : SFits w32 (a -ℤ b)
  fits = record { sfits = omega (arith, mag-diff a b, day-small a da, day-small b db) }

  back_a : held a ≡ a
  back_a = to_z-of_z w32 a (record { sfits = omega (arith, day-small a da) })

  back-b : held b ≡ b
  back-b = to_z-of_z w32 b (record { sfits = omega (arith, day-small b db) })

  pub diff-fits : SFits w32 (held a -ℤ held b)
  diff-fits = rw (back_a, back-b) fits

  pub diff_is : held (held a -ℤ held b) ≡ a -ℤ b
  diff_is = rw (back_a, back-b) (to_z-of_z w32 (a -ℤ b) fits)

  -- not below zero where b is not after a, and at most three days
  pub span-is : clocked b ≤ clocked a → a -ℤ b ≡ pos (clocked a - clocked b)
  span-is h = clocked-less b a (omega (arith, day-small b db)) (omega (arith, day-small a da)) h

  pub span-low : clocked b ≤ clocked a → pos 0 ≤ℤ (a -ℤ b)
  span-low h = rw (span-is h) (record { le = le→leb 0 (clocked a - clocked b) (omega arith) })

  pub span-high : clocked b ≤ clocked a → (a -ℤ b) ≤ℤ pos 259200
  span-high h = rw (span-is h) (record { le = le→leb (clocked a - clocked b) 259200 (omega (arith, da.high, db.low)) })

-- the conversion is `before` of the query
pub before-is : (Q : Query) (second : ℕ) → ticks_before Q.arrival second Q.speed ≡ before Q second
before-is Q second = refl
