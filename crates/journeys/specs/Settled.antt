-- An entry of the settled list. Assumes nothing.
use Rattle.std.specs.Prelude.{ℕ}

pub record Settled : Type 0 where
  pub vertex : ℕ
  pub distance : ℕ

abbrev pub settled : ℕ → ℕ → Settled
settled v d = record { vertex = v; distance = d }
