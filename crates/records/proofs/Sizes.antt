-- A record of any size, and a run of them, stands inside its table: products of two numbers, which are seen through these laws alone. Assumes nothing.
use mathlib.Core.Path.{◌≡◌}
use Prim.Native.Nat.{ℕ, suc, ◌+◌, ◌*◌, ◌/◌, ◌≤◌, ◌<◌}
use native.Mathlib.Nat.{le-div_iff_mul-le, suc-mul, mul_comm, mul-le-mul_left, mul-le-mul_right, mul-div_cancel_left}
use native.Mathlib.Omega.{arith}

pub start_fits : (s i n : ℕ) → 0 < s → i < n / s → s * i + s ≤ n
start_fits s i n h l = omega (arith, (le-div_iff_mul-le {k = s} {x = suc i} {y = n} h).0 l, suc-mul i s, mul_comm i s)

-- a run of records
pub run_fits : (s first end n : ℕ) → 0 < s → first ≤ end → end ≤ n / s → (s * first ≤ s * end) × (s * end ≤ n)
run_fits s first end n h o l = (mul-le-mul_left s o, omega (arith, (le-div_iff_mul-le {k = s} {x = end} {y = n} h).0 l, mul_comm end s))

-- the bytes of m records are m records
pub as_many : (s m : ℕ) → 0 < s → s * m / s ≡ m
as_many s m h = mul-div_cancel_left m h

-- as many records of 16 bytes, at least
pub as-small : (s i n : ℕ) → 16 ≤ s → i < n / s → i < n / 16
as-small s i n h l = omega (arith, start_fits s i n (omega arith) l, mul-le-mul_right i h)
