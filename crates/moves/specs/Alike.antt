-- Hop tables that say the same hops, each in records of its own size. Trips are no part of it. Assumes nothing.
use Rattle.std.specs.Prelude.{◌≡◌, ◌&&◌, List, ℕ, ◌/◌, ◌<◌, length}
use Rattle.journeys.specs.Refusals.{hop_size_ok, table_of}
use Rattle.moves.specs.Moved.{common}

-- as many records, each with the same first 16 bytes, and both or neither of a length that is good
pub record Alike (s s' : ℕ) (h h' : List ℕ) : Type 0 where
  pub many : length h / s ≡ length h' / s'
  pub each : (i : ℕ) → i < length h / s → common s h i ≡ common s' h' i
  pub good : hop_size_ok s && table_of s 0 262144 h ≡ hop_size_ok s' && table_of s' 0 262144 h'
