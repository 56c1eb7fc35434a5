-- What the count of a line's fields tells. Assumes nothing.
use Rattle.std.specs.Prelude.{◌≡◌, List, ℕ, ◌+◌, ◌≤◌, length}
use Rattle.feed.specs.Fields.{row_of}
use Rattle.header.specs.declared.Fields.{Fields}

-- no line has more fields than bytes, but for one
pub record Counted (s : List ℕ) (r : Fields) : Type 0 where
  pub many : r.count ≡ length (row_of s).fields
  pub sound : r.sound ≡ (row_of s).sound
  pub few : r.count ≤ length s + 1
