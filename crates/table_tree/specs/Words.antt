-- What a word of a slot tells: state (1 bit), distance (27), vertex (16), remaining (20); all ones in a vacant slot.
use Rattle.std.specs.Prelude.{◌≡◌, List, ℕ, ◌*◌, ◌/◌, ◌%◌, ◌≤◌, min, length}
use Rattle.std.specs.Int.Bits.{bit_and}

abbrev pub vacant : ℕ
vacant = 18446744073709551615

unfoldable pub vertex_in : ℕ → ℕ
vertex_in w = w / 1048576 % 65536

-- what the tree compares: distance and vertex; settled words and vacant ones come last, all alike
unfoldable pub key : ℕ → ℕ
key w = min (w / 1048576) 8796093022208

unfoldable pub bucket_of : ℕ → ℕ → ℕ
bucket_of m u = bit_and u m

-- a buffer of r slots, of which the first cap are used
pub record Slotted (r cap : ℕ) (b : List ℕ) : Type 0 where
  pub len : length b ≡ 16 * r
  pub fits : cap ≤ r
  pub small : cap ≤ 65536
