-- Two lists of stops that differ in how trips are told apart, and in their numbers, alone. Assumes nothing.
use Rattle.std.specs.Prelude.{◌≡◌, List, ℕ, eqb, length}
use Rattle.feed.specs.Stops.{Stop}
use Rattle.feed.specs.Trips.{stop}

pub record Alike (S E : List Stop) : Type 0 where
  pub size : length S ≡ length E
  pub line : (i : ℕ) → (stop S i).line ≡ (stop E i).line
  pub sequence : (i : ℕ) → (stop S i).sequence ≡ (stop E i).sequence
  pub vertex : (i : ℕ) → (stop S i).vertex ≡ (stop E i).vertex
  pub timed : (i : ℕ) → (stop S i).timed ≡ (stop E i).timed
  pub arrival : (i : ℕ) → (stop S i).arrival ≡ (stop E i).arrival
  pub departure : (i : ℕ) → (stop S i).departure ≡ (stop E i).departure
  pub trips : (i j : ℕ) → eqb (stop S i).trip (stop S j).trip ≡ eqb (stop E i).trip (stop E j).trip
