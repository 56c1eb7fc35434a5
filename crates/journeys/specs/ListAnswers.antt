-- What a parts operation answers for a settled list, and what it leaves in the part buffer, by the parts that the list gives. Assumes nothing.
-- It is said here once, for either direction: `PartAnswers` takes it for the ordinary parts, `CourierPartAnswers` for the courier's.
use Rattle.std.specs.Prelude.{cond, ℕ, ◌+◌, ◌/◌, ◌≤◌, eqb, leb, length, take}
use mathlib.Core.List.{List, flat_map}
use Rattle.journeys.specs.Bytes.{filled, cleared}
use Rattle.journeys.specs.Order.{Settled}
use Rattle.journeys.specs.Parts.{Part, part_bytes}
use Rattle.journeys.specs.Lists.{settled_in}
use Rattle.journeys.specs.Refusals.{Refusal, unless, first_from}

-- the three answers, and the part buffer afterwards
pub record PartsAnswer : Type 0 where
  pub refusal : ℕ
  pub place : ℕ
  pub part_count : ℕ
  pub parts : List ℕ

-- a refusal, with the part buffer that it leaves
unfoldable pub parts_refused_for : Refusal → List ℕ → PartsAnswer
parts_refused_for r parts = record { refusal = r.number; place = r.place; part_count = 0; parts = parts }

-- the parts of step 0 and of the first k entries; `parts_of` gives the parts of a settled list
abbrev pub parts_to_for : (List Settled → List Part) → List ℕ → ℕ → List Part
parts_to_for parts_of list k = parts_of (take k (settled_in list))

module _ (parts_of : List Settled → List Part) (list parts : List ℕ) where
  -- they are no more than the part buffer takes
  abbrev pub PartsRoomFor : ℕ → Type 0
  PartsRoomFor k = length (parts_to_for parts_of list k) ≤ length parts / 12

  -- 10 where they are more: at entry k, counted from 1; at 0 for the parts of step 0
  unfoldable pub parts_room_at_for : ℕ → Refusal
  parts_room_at_for k = unless (leb (length (parts_to_for parts_of list k)) (length parts / 12)) 10 k

  -- 10 at the first entry whose parts do not fit
  unfoldable pub parts_room_for : Refusal
  parts_room_for = first_from parts_room_at_for (length (settled_in list) + 1) 0

  -- every part, in order, with zero behind them
  unfoldable pub parts_accepted_for : PartsAnswer
  parts_accepted_for =
      let ps = parts_of (settled_in list) in
      record { refusal = 0; place = 0; part_count = length ps; parts = filled parts (flat_map part_bytes ps) }

  -- THE ANSWER, where `early` is what is refused before the parts, which changes no lent byte
  unfoldable pub parts_answer_for : Refusal → PartsAnswer
  parts_answer_for early =
      cond (eqb early.number 0)
      (cond (eqb parts_room_for.number 0) parts_accepted_for (parts_refused_for parts_room_for (cleared parts)))
      (parts_refused_for early parts)
