-- No table holds more than 65,536 entries. Assumes nothing.
use Prim.Native.Nat.{ℕ, zero, suc, ◌+◌, ◌≤◌}
use native.Mathlib.Omega.{arith}
use Rattle.worktable.specs.Map.{Map, Entry, absent, known, one, size_to, size}

pub size_low : (m : Map) → size m ≤ 65536
unfolding size size_to one
size_low m = go 65536
  where
    low : (e : Entry) → one e ≤ 1
    low absent = omega arith
    low (known d s n) = omega arith

    go : (n : ℕ) → size_to n m ≤ n
    go zero = omega arith
    go (suc n) = omega (arith, go n, low (m n))
