-- What a run over any network answers for its steps, and what it leaves in its two buffers: RULES 11 and 12.8 to 12.11. Assumes nothing.
-- It is said here once, for either direction: `Answers` takes it for the ordinary network, `CourierAnswers` for the courier's.
use Rattle.std.specs.Prelude.{cond, ℕ, ◌+◌, ◌/◌, ◌≤◌, min, eqb, leb, length, take}
use mathlib.Core.List.{List, ◌++◌, flat_map}
use Rattle.journeys.specs.Bytes.{word, filled, cleared}
use Rattle.journeys.specs.Order.{Settled}
use Rattle.journeys.specs.Network.{Network, Held, distance_in, held_list}
use Rattle.journeys.specs.Refusals.{Refusal, unless, or_else, first_from}

-- the answers, and the two buffers afterwards
pub record Answer : Type 0 where
  pub refusal : ℕ
  pub place : ℕ
  pub settled_count : ℕ
  pub held_count : ℕ
  pub finished : ℕ
  pub held : List ℕ
  pub settled : List ℕ

-- a record of the working table, 16 bytes
abbrev pub held_bytes : Held → List ℕ
held_bytes x = word x.vertex ++ word x.distance ++ word x.state ++ word x.remaining

-- a record of the settled list, 8 bytes
abbrev pub settled_bytes : Settled → List ℕ
settled_bytes x = word x.vertex ++ word x.distance

-- refusals 8 and 9, which leave both buffers zero
unfoldable pub late_for : List ℕ → List ℕ → Refusal → Answer
late_for held settled r =
    record {
      refusal = r.number;
      place = r.place;
      settled_count = 0;
      held_count = 0;
      finished = 0;
      held = cleared held;
      settled = cleared settled;
    }

-- the working table after k steps of the whole order of settling l
abbrev pub held_for : Network → List Settled → ℕ → List Held
held_for G l k = held_list G (distance_in (take k l))

-- with these two buffers, as they are at the call
module _ (G : Network) (held settled : List ℕ) (l : List Settled) where
  -- after the whole step k the table and the list are no larger than lent
  abbrev pub RoomFor : ℕ → Type 0
  RoomFor k = (length (held_for G l k) ≤ length held / 16) × (length (take k l) ≤ length settled / 8)

  -- and if not, which of them is larger
  unfoldable pub room_for : ℕ → Refusal
  room_for k = or_else (unless (leb (length (held_for G l k)) (length held / 16)) 8 k) (unless (leb (length (take k l)) (length settled / 8)) 9 k)

  -- the earliest of the steps 0 to k that lacks room
  unfoldable pub room_up_to_for : ℕ → Refusal
  room_up_to_for k = first_from room_for (k + 1) 0

  -- after k steps with room for all; finished is 1 exactly if nothing of the order is left
  unfoldable pub accepted_for : ℕ → Answer
  accepted_for k =
      record {
        refusal = 0;
        place = 0;
        settled_count = length (take k l);
        held_count = length (held_for G l k);
        finished = cond (leb (length l) k) 1 0;
        held = filled held (flat_map held_bytes (held_for G l k));
        settled = filled settled (flat_map settled_bytes (take k l));
      }

  -- one step settles one vertex: the run makes as many steps as its limit and the order allow
  unfoldable pub answer_for : ℕ → Answer
  answer_for limit =
      let k = min limit (length l) in
      cond (eqb (room_up_to_for k).number 0) (accepted_for k) (late_for held settled (room_up_to_for k))
