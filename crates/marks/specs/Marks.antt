-- The lent array as 32,768 bits, for the vertices of one half. Assumes nothing.
use Rattle.std.specs.Prelude.{Bool, List, ℕ, zero, suc, ◌*◌, ◌/◌, ◌%◌, eqb, get_or}

unfoldable pub power : ℕ → ℕ
power zero = 1
power (suc k) = 2 * power k

-- bit k stands in word k / 16
unfoldable pub bit : List ℕ → ℕ → Bool
bit s k = eqb (get_or s (k / 16) 0 / power (k % 16) % 2) 1
