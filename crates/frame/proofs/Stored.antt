-- The bits of a finite number are no NaN's: they stand for one number, and are read back as they were. Assumes nothing.
use mathlib.Core.Path.{◌≡◌, refl}
use mathlib.Core.Bool.{Bool, true, not}
use Prim.Native.Nat.{ℕ, zero, suc, ◌+◌, ◌%◌, ◌/◌, ◌<◌}
use native.Mathlib.Nat.{le_of_lt}
use native.Mathlib.Omega.{arith}
use lib.Dec.{T, leb}
use lib.IntN.{ℤ}
use lib.Ieee.{Float, fin, binary32, nan_bits, is_nan, of_bits, of_fields, odd, to_bits}
use lib.Ieee.Bits.{nan_bits_above, nan_bits_is, to_bits-of_bits}
use borrow.Author.Tests.{le-ltb, ltb-true, ne_eqb}
use Rattle.frame.specs.Frames.{value, finite_bits}

pub below : (bits : ℕ) → finite_bits bits ≡ true → bits % 2147483648 < 2139095040
unfolding finite_bits
below bits e = ltb-true (bits % 2147483648) 2139095040 e

pub no-nan-bits : (bits : ℕ) → finite_bits bits ≡ true → T (not (nan_bits binary32 bits))
no-nan-bits bits e = rw (nan_bits_above binary32 bits, le-ltb 2139095040 (bits % 2147483648) (le_of_lt (below bits e))) tt

pub no_nan : (bits : ℕ) → finite_bits bits ≡ true → T (not (is_nan (value bits)))
no_nan bits e = rw (← nan_bits_is binary32 bits) (no-nan-bits bits e)

-- bit for bit
pub same_bits : (bits : ℕ) → bits < 4294967296 → finite_bits bits ≡ true → to_bits binary32 (value bits) ≡ bits
same_bits bits f e = to_bits-of_bits binary32 bits f (no_nan bits e)

-- a sign, a number and an exponent
abbrev pub Finite : Float → Type 0
Finite x = (s : Bool) × (m : ℕ) × (e : ℤ) × (x ≡ fin s m e)

odd-finite : (d : ℕ) (s : Bool) (q k l : ℕ) → Finite (odd d s q k l)
unfolding odd
odd-finite d s zero k l = (s, _, _, refl)
odd-finite d s (suc q) k l = (s, _, _, refl)

fields-finite : (s : Bool) (x t : ℕ) → x < 255 → Finite (of_fields binary32 s x t)
unfolding of_fields
fields-finite s zero t h = odd-finite 24 s t 0 149
fields-finite s (suc x) t h = rw (ne_eqb (suc x) 255 (λ q. let z : ⊥ = omega arith in z)) (odd-finite 24 s (8388608 + t) x 149)

pub is_finite : (bits : ℕ) → finite_bits bits ≡ true → Finite (value bits)
unfolding of_bits
is_finite bits e = fields-finite (leb 2147483648 bits) (bits % 2147483648 / 8388608) (bits % 8388608) (omega (arith, below bits e))
