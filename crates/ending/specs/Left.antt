-- What the end of a run leaves in the lent buffers. Assumes nothing.
use Rattle.std.specs.Prelude.{◌≡◌, ℕ, ◌*◌, take}
use mathlib.Core.List.{List, flat_map}
use Rattle.journeys.specs.Bytes.{filled, cleared}
use Rattle.journeys.specs.Answers.{held_bytes}
use Rattle.records.specs.Meaning.{refusal_of}
use Rattle.records.specs.declared.Answer.{Answer}
use Rattle.worktable.specs.Map.{size, rows}
use Rattle.worktable.specs.Table.{map_of}
use Rattle.stepping.specs.declared.Progress.{Progress}

-- The table becomes its records, and what stands at the front of the list stays, with zero behind it.
pub record Concluded (p : Progress) (finished : ℕ) (held settled held' settled' : List ℕ) (r : Answer) : Type 0 where
  pub answer : r ≡ record { refusal = 0; place = 0; settled = p.settled; parts = 0; held = size (map_of p.table held); finished = finished }
  pub held_is : held' ≡ filled held (flat_map held_bytes (rows (map_of p.table held)))
  pub settled_is : settled' ≡ filled settled (take (8 * p.settled) settled)

-- A step lacks room: nothing is listed, and no byte is left.
pub record GivenUp (number step : ℕ) (held settled held' settled' : List ℕ) (r : Answer) : Type 0 where
  pub answer : r ≡ refusal_of number step
  pub held_is : held' ≡ cleared held
  pub settled_is : settled' ≡ cleared settled
