-- What a run answers and what it leaves in every lent byte: RULES 11 and 12.8 to 12.11. Assumes nothing.
-- The refusals of the input stand here. What the steps answer stands in `RunAnswers`, once for any network.
use Rattle.std.specs.Prelude.{◌≡◌, ◌≢◌, List, [], ◌∷◌, ℕ}
use Rattle.journeys.specs.Tables.{Tables, tables_of}
use Rattle.journeys.specs.Query.{Query}
use Rattle.journeys.specs.Order.{Settled, IsOrder}
use Rattle.journeys.specs.Network.{Held}
use Rattle.journeys.specs.Records.{network}
use Rattle.journeys.specs.Refusals.{Refusal, chain, table_lengths, buffer_lengths, contents, query_refusal}
pub use Rattle.journeys.specs.RunAnswers.{Answer, held_bytes, settled_bytes, held_for, RoomFor}
unfoldable pub use Rattle.journeys.specs.RunAnswers.{late_for, room_for, room_up_to_for, accepted_for, answer_for}

-- what is lent: three tables, the size of a hop, and two buffers as they are at the call
pub record Lent : Type 0 where
  pub vertices : List ℕ
  pub walks : List ℕ
  pub hops : List ℕ
  pub hop_size : ℕ
  pub held : List ℕ
  pub settled : List ℕ

abbrev pub tables : Lent → Tables
tables b = tables_of b.hop_size b.vertices b.walks b.hops

-- refusals 1 to 7, which change no lent byte
unfoldable pub early : Lent → Query → Refusal
early b Q =
    chain
    (table_lengths b.hop_size b.vertices b.walks b.hops
    ∷ buffer_lengths b.held b.settled
    ∷ contents (tables b)
    ∷ query_refusal (tables b) Q
    ∷ [])

unfoldable pub refused_early : Lent → Refusal → Answer
refused_early b r =
    record {
      refusal = r.number;
      place = r.place;
      settled_count = 0;
      held_count = 0;
      finished = 0;
      held = b.held;
      settled = b.settled;
    }

-- refusals 8 and 9, which leave both buffers zero
abbrev pub refused_late : Lent → Refusal → Answer
refused_late b r = late_for b.held b.settled r

-- The network is that of the tables and the query, and l is the whole order of settling. Each name stands for what `RunAnswers` says of this network and the two buffers.
module _ (b : Lent) (Q : Query) (l : List Settled) where
  -- the working table after k steps
  abbrev pub held_after : ℕ → List Held
  held_after k = held_for (network (tables b) Q) l k

  -- after the whole step k the table and the list are no larger than lent
  abbrev pub Room : ℕ → Type 0
  Room k = RoomFor (network (tables b) Q) b.held b.settled l k

  -- and if not, which of them is larger
  abbrev pub room_at : ℕ → Refusal
  room_at k = room_for (network (tables b) Q) b.held b.settled l k

  -- the earliest of the steps 0 to k that lacks room
  abbrev pub room_up_to : ℕ → Refusal
  room_up_to k = room_up_to_for (network (tables b) Q) b.held b.settled l k

  -- after k steps with room for all; finished is 1 exactly if nothing of the order is left
  abbrev pub accepted_after : ℕ → Answer
  accepted_after k = accepted_for (network (tables b) Q) b.held b.settled l k

  -- one step settles one vertex: the run makes as many steps as its limit and the order allow
  abbrev pub answer_over : ℕ → Answer
  answer_over limit = answer_for (network (tables b) Q) b.held b.settled l limit

-- The answer that a run may give, for any bytes, query and limit: the refusal of the input, or what the order by the journeys' distances gives.
pub record Allowed (b : Lent) (Q : Query) (limit : ℕ) (a : Answer) : Type 0 where
  pub refused : (early b Q).number ≢ 0 → a ≡ refused_early b (early b Q)
  pub accepted : (early b Q).number ≡ 0 → (l : List Settled) × IsOrder (tables b) Q l × (a ≡ answer_over b Q l limit)
