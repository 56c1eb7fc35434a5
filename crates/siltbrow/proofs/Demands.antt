-- The first demand, of `siltbrow_run` itself, and what an accepted run leaves in the lent bytes. The other two demands rest on it: `VerticesInBytes`,
-- `PlacesInBytes`, `HeldInBytes`. All is said of a call that has completed as its contract says, with an answer slice of 24 bytes (`Completed`), and each theorem says in
-- one sentence what it means; it is the theorem of `answered` for the ordinary network. That the call ends is part of what the toolchain proves of every function. Assumes nothing.
use mathlib.Core.Path.{◌≡◌}
use mathlib.Core.Logic.{◌↔◌, ◌≢◌}
use mathlib.Core.List.{List, flat_map}
use Prim.Native.Nat.{ℕ, ◌≤◌, ◌<◌}
use lib.ListN.{length}
use Rattle.journeys.specs.Bytes.{filled, cleared}
use Rattle.journeys.specs.Query.{Query}
use Rattle.journeys.specs.Journeys.{Distance}
use Rattle.journeys.specs.Order.{Settled}
use Rattle.journeys.specs.Network.{distance_in, held_list}
use Rattle.journeys.specs.Records.{network}
use Rattle.journeys.specs.Answers.{Lent, early, refused_early, held_bytes, settled_bytes, room_at, Room}
use Rattle.journeys.specs.Valid.{Valid}
use Rattle.journeys.proofs.Valid.{early-valid}
use Rattle.journeys.proofs.Document.{ways, told}
use Rattle.journeys.proofs.OrderLaws.{order_of, order_is}
use Rattle.answered.specs.Search.{Search}
use Rattle.answered.proofs.Answers as answered
use Rattle.answered.proofs.Answers.{Complete}
use Rattle.siltbrow.specs.Call.{Call, Completed, refusal, place, settled_count, part_count, held_count, finished, read, Orders, steps, S}

-- the call as a search over the ordinary network, which `answered` speaks of
abbrev pub search_of : Call → Search
search_of c =
    record {
      network = network (read c) c.query;
      distance = Distance (read c) c.query;
      early = early c.lent c.query;
      limit = c.limit;
      held = c.lent.held;
      settled = c.lent.settled;
      held_after = c.held;
      settled_after = c.settled;
      answer = c.answer;
    }

pub complete : (c : Call) → Completed c → Complete (search_of c)
unfolding refused_early
complete c E =
    let x = (E.0.answered E.1).1 in
    record {
      ways = ways (read c) c.query;
      told = λ e. told (read c) c.query (early-valid c.lent c.query e);
      given = x.0;
      ruled = record { refused = x.1.refused; accepted = x.1.accepted };
      held_is = x.2;
      settled_is = x.3;
      answer-is = x.4;
    }

module _ (c : Call) (E : Completed c) where
  abbrev b : Lent
  b = c.lent

  abbrev Q : Query
  Q = c.query

  -- ---- demand 1
  -- Every call with an answer slice of 24 bytes is answered.
  pub answered-always : c.returned ≡ 0
  answered-always = (E.0.answered E.1).0

  -- Bad input is refused by number and place, for the first reason in the fixed order, and no byte of the two buffers is changed.
  pub refused-first : (early b Q).number ≢ 0
      → (refusal c ≡ (early b Q).number) × (place c ≡ (early b Q).place) × (c.held ≡ b.held) × (c.settled ≡ b.settled)
  refused-first = answered.refused-first (search_of c) (complete c E)

  -- Sound input that lacks room is refused at the earliest step after which a table or list would be larger than lent, with the lowest number there, and both
  -- buffers are zero.
  pub room-refused : (early b Q).number ≡ 0 → (l : List Settled) → Orders c l → (j : ℕ) → j ≤ steps c l → ¬ Room b Q l j → ((i : ℕ) → i < j → Room b Q l i)
      → (refusal c ≡ (room_at b Q l j).number) × (place c ≡ (room_at b Q l j).place) × (c.held ≡ cleared b.held) × (c.settled ≡ cleared b.settled)
  room-refused = answered.room-refused (search_of c) (complete c E)

  -- Sound input with room after every step made is accepted.
  pub room-accepted : (early b Q).number ≡ 0 → (l : List Settled) → Orders c l → ((j : ℕ) → j ≤ steps c l → Room b Q l j) → refusal c ≡ 0
  room-accepted = answered.room-accepted (search_of c) (complete c E)

  -- A run counts no parts.
  pub parts_none : part_count c ≡ 0
  parts_none = answered.parts_none (search_of c) (complete c E)

  -- In every refusal, 1 to 9, nothing is counted: the settled, part and held counts are 0, and finished is 0.
  pub refused-counts : refusal c ≢ 0 → (settled_count c ≡ 0) × (part_count c ≡ 0) × (held_count c ≡ 0) × (finished c ≡ 0)
  refused-counts = answered.refused-counts (search_of c) (complete c E)

  -- A call is accepted exactly if its input is sound and has room after every step made.
  pub accepted-exactly : (refusal c ≡ 0) ↔ (((early b Q).number ≡ 0) × ((l : List Settled) → Orders c l → (j : ℕ) → j ≤ steps c l → Room b Q l j))
  accepted-exactly = answered.accepted-exactly (search_of c) (complete c E)

  -- ---- what an accepted run leaves; l is the order of settling
  module _ (accepted : refusal c ≡ 0) where
    pub valid : Valid (read c) Q
    valid = early-valid b Q (answered.accepted-sound (search_of c) (complete c E) accepted)

    -- there is an order
    abbrev pub the_order : List Settled
    the_order = order_of (read c) Q valid

    pub is_order : Orders c the_order
    is_order = order_is (read c) Q valid

    module _ (l : List Settled) (O : Orders c l) where
      -- The settled bytes are S in its order, with zero behind it.
      pub settled-are : (settled_count c ≡ length (S c l)) × (c.settled ≡ filled b.settled (flat_map settled_bytes (S c l)))
      settled-are = answered.settled-are (search_of c) (complete c E) accepted l O

      -- The held bytes are the working table ascending by vertex, with zero behind it.
      pub held-are :
          (held_count c ≡ length (held_list (network (read c) Q) (distance_in (S c l))))
          × (c.held ≡ filled b.held (flat_map held_bytes (held_list (network (read c) Q) (distance_in (S c l)))))
      held-are = answered.held-are (search_of c) (complete c E) accepted l O

      -- A finished run has settled the whole order.
      pub finished-whole : finished c ≡ 1 → S c l ≡ l
      finished-whole = answered.finished-whole (search_of c) (complete c E) accepted l O
