-- The three demands of `siltbrow_courier` itself, with start and end exchanged: each is the theorem of `answered` for the courier's network. All is said of a call that has
-- completed as its contract says, with an answer slice of 24 bytes (`CourierCompleted`). Assumes nothing.
use mathlib.Core.Path.{◌≡◌, ap₂, subst, ◌∙◌}
use mathlib.Core.Logic.{◌⊎◌, ◌↔◌, ◌≢◌}
use mathlib.Core.Bool.{true, cond}
use mathlib.Core.List.{List, flat_map}
use Prim.Native.Nat.{ℕ, ◌+◌, ◌*◌, ◌≤◌, ◌<◌}
use lib.ListN.{length}
use Rattle.journeys.specs.Counting.{In}
use Rattle.journeys.specs.Bytes.{be32, filled, cleared}
use Rattle.journeys.specs.Tables.{Tables, vertex_count}
use Rattle.journeys.specs.Query.{Query, allowed}
use Rattle.journeys.specs.Order as order
use Rattle.journeys.specs.Order.{Settled}
use Rattle.journeys.specs.Network.{Network, distance_in, within, known, remaining, met, held_list, Dropped, Forgotten}
use Rattle.journeys.specs.Answers.{refused_early, held_bytes, settled_bytes}
use Rattle.journeys.specs.RunAnswers.{RoomFor, room_for}
use Rattle.journeys.specs.CourierJourneys.{Reached, CourierDistance}
use Rattle.journeys.specs.CourierRecords.{network}
use Rattle.journeys.specs.CourierOrder.{IsCourierOrder}
use Rattle.journeys.specs.CourierAnswers.{courier_early}
use Rattle.journeys.specs.Valid.{Valid}
use Rattle.journeys.proofs.CourierDocument.{ways, told}
use Rattle.journeys.proofs.CourierOrder.{order_of, order_is}
use Rattle.journeys.proofs.CourierAnswers.{courier-links}
use Rattle.journeys.proofs.CourierDemands.{listed-exactly}
use Rattle.answered.specs.Search as search
use Rattle.answered.specs.Search.{Search}
use Rattle.answered.proofs.Answers as answers
use Rattle.answered.proofs.Answers.{Complete}
use Rattle.answered.proofs.Vertices as vertices
use Rattle.answered.proofs.Held as holds
use Rattle.siltbrow.specs.CourierRun.{CourierCall, CourierCompleted, refusal, place, settled_count, part_count, held_count, finished, read, Orders, steps, S}

-- the call as a search over the courier's network
abbrev pub search_of : CourierCall → Search
search_of c =
    record {
      network = network (read c) c.query;
      distance = CourierDistance (read c) c.query;
      early = courier_early c.lent c.query;
      limit = c.limit;
      held = c.lent.lent.held;
      settled = c.lent.lent.settled;
      held_after = c.held;
      settled_after = c.settled;
      answer = c.answer;
    }

pub complete : (c : CourierCall) → CourierCompleted c → Complete (search_of c)
unfolding refused_early
complete c E =
    let x = (E.0.answered E.1).1 in
    record {
      ways = ways (read c) c.query;
      told = λ e. told (read c) c.query (courier-links c.lent c.query e).0;
      given = x.0;
      ruled = record { refused = x.1.refused; accepted = x.1.accepted };
      held_is = x.2;
      settled_is = x.3;
      answer-is = x.4;
    }

-- some counted record of the settled bytes, or of the held bytes, names v
abbrev pub SettledNames : CourierCall → ℕ → Type 0
SettledNames c v = search.SettledNames (search_of c) v

abbrev pub HeldNames : CourierCall → ℕ → Type 0
HeldNames c v = search.HeldNames (search_of c) v

module _ (c : CourierCall) (E : CourierCompleted c) where
  abbrev Q : Query
  Q = c.query

  abbrev G : Network
  G = network (read c) Q

  abbrev before : List ℕ
  before = c.lent.lent.held

  abbrev list : List ℕ
  list = c.lent.lent.settled

  -- ---- demand 1
  -- Every call with an answer slice of 24 bytes is answered.
  pub answered-always : c.returned ≡ 0
  answered-always = (E.0.answered E.1).0

  -- Bad input is refused by number and place, for the first reason in the fixed order, 22 between 6 and 7, and no byte of the two buffers is changed.
  pub refused-first : (courier_early c.lent Q).number ≢ 0
      → (refusal c ≡ (courier_early c.lent Q).number) × (place c ≡ (courier_early c.lent Q).place) × (c.held ≡ before) × (c.settled ≡ list)
  refused-first = answers.refused-first (search_of c) (complete c E)

  -- Sound input that lacks room is refused at the earliest step after which a table or list would be larger than lent, with the lowest number there, and both
  -- buffers are zero.
  pub room-refused : (courier_early c.lent Q).number ≡ 0 → (l : List Settled) → Orders c l → (j : ℕ) → j ≤ steps c l → ¬ RoomFor G before list l j
      → ((i : ℕ) → i < j → RoomFor G before list l i)
      → (refusal c ≡ (room_for G before list l j).number) × (place c ≡ (room_for G before list l j).place) × (c.held ≡ cleared before) × (c.settled ≡ cleared list)
  room-refused = answers.room-refused (search_of c) (complete c E)

  -- A call is accepted exactly if its input is sound and has room after every step made.
  pub accepted-exactly : (refusal c ≡ 0) ↔ (((courier_early c.lent Q).number ≡ 0) × ((l : List Settled) → Orders c l → (j : ℕ) → j ≤ steps c l → RoomFor G before list l j))
  accepted-exactly = answers.accepted-exactly (search_of c) (complete c E)

  -- In every refusal nothing is counted; a run counts no parts.
  pub refused-counts : refusal c ≢ 0 → (settled_count c ≡ 0) × (part_count c ≡ 0) × (held_count c ≡ 0) × (finished c ≡ 0)
  refused-counts = answers.refused-counts (search_of c) (complete c E)

  pub parts_none : part_count c ≡ 0
  parts_none = answers.parts_none (search_of c) (complete c E)

  -- ---- an accepted run
  module _ (accepted : refusal c ≡ 0) where
    pub valid : Valid (read c) Q
    valid = (courier-links c.lent Q (answers.accepted-sound (search_of c) (complete c E) accepted)).0

    abbrev pub the_order : List Settled
    the_order = order_of (read c) Q valid

    pub is_order : Orders c the_order
    is_order = order_is (read c) Q valid

    -- ---- demand 2
    -- The second word of a counted record of the settled bytes is the figure of the vertex in its first word: the earliest arrival there less the departure.
    pub vertex-figure : (i : ℕ) → i < settled_count c → CourierDistance (read c) Q (be32 c.settled (8 * i)) (be32 c.settled (8 * i + 4))
    vertex-figure = vertices.vertex-figure (search_of c) (complete c E) accepted

    -- In a finished run a counted record names a vertex exactly if the courier can be there within the allowed time.
    pub vertex-listed : finished c ≡ 1 → (v : ℕ) → SettledNames c v ↔ ((d : ℕ) × (d ≤ allowed Q) × Reached (read c) Q v d)
    vertex-listed f v =
        let names = vertices.names-listed (search_of c) (complete c E) accepted the_order is_order f v in
        let exactly = listed-exactly (read c) Q valid is_order v in
        (λ p. exactly.0 (names.0 p), λ p. names.1 (exactly.1 p))

    -- ---- demand 3; l is the order of settling, and G counts of each vertex the records that arrive at it
    module _ (l : List Settled) (O : Orders c l) where
      abbrev far : ℕ → ℕ
      far = distance_in (S c l)

      -- The settled bytes are S in its order, the held bytes the working table ascending by vertex, each with zero behind it; a finished run has settled the whole order.
      pub settled-are : (settled_count c ≡ length (S c l)) × (c.settled ≡ filled list (flat_map settled_bytes (S c l)))
      settled-are = answers.settled-are (search_of c) (complete c E) accepted l O

      pub held-are : (held_count c ≡ length (held_list G far)) × (c.held ≡ filled before (flat_map held_bytes (held_list G far)))
      held-are = answers.held-are (search_of c) (complete c E) accepted l O

      pub finished-whole : finished c ≡ 1 → S c l ≡ l
      finished-whole = answers.finished-whole (search_of c) (complete c E) accepted l O

      -- A vertex and a distance stand in a counted settled record exactly if they are in S.
      pub settled-record : (v d : ℕ)
          → ((i : ℕ) × (i < settled_count c) × (be32 c.settled (8 * i) ≡ v) × (be32 c.settled (8 * i + 4) ≡ d)) ↔ In (order.settled v d) (S c l)
      settled-record = vertices.settled-record (search_of c) (complete c E) accepted l O

      -- At any limit that fits the room some counted record of the held bytes names a vertex exactly if it is one of the table's, has been met, and is neither settled with
      -- all its arriving records coming from S nor unsettled with all of them coming from S and known above D.
      pub held-named : (v : ℕ) → HeldNames c v ↔ ((v < vertex_count (read c)) × (met G far v ≡ true) × ¬ Dropped G far v × ¬ Forgotten G far v)
      held-named = holds.held-named (search_of c) (complete c E) accepted l O

      -- A counted record that names a vertex says what is known of it, 1 if it is settled and 0 if not, and how many of its arriving records do not come from S.
      pub held-record : (i v : ℕ) → i < held_count c → be32 c.held (16 * i) ≡ v
          → (be32 c.held (16 * i + 4) ≡ known G far v) × (be32 c.held (16 * i + 8) ≡ cond (within far v) 1 0) × (be32 c.held (16 * i + 12) ≡ remaining G far v)
      held-record = holds.held-record (search_of c) (complete c E) accepted l O

      pub held-state : (i v : ℕ) → i < held_count c → be32 c.held (16 * i) ≡ v
          → ((be32 c.held (16 * i + 8) ≡ 1) × SettledNames c v) ⊎ ((be32 c.held (16 * i + 8) ≡ 0) × ¬ SettledNames c v)
      held-state = holds.held-state (search_of c) (complete c E) accepted l O

      -- A vertex has been dropped exactly if the settled bytes name it and the held bytes do not; one that has been met is forgotten exactly if neither does.
      pub dropped-exactly : (v : ℕ) → Dropped G far v ↔ (SettledNames c v × ¬ HeldNames c v)
      dropped-exactly = holds.dropped-exactly (search_of c) (complete c E) accepted l O

      pub forgotten-exactly : (v : ℕ) → v < vertex_count (read c) → met G far v ≡ true → Forgotten G far v ↔ (¬ SettledNames c v × ¬ HeldNames c v)
      forgotten-exactly = holds.forgotten-exactly (search_of c) (complete c E) accepted l O

-- Two accepted calls over the same tables and query, the second of which may go at least as far, with whatever room: what is dropped or forgotten stays so.
module _ (c c₂ : CourierCall) (E : CourierCompleted c) (E₂ : CourierCompleted c₂) (a : refusal c ≡ 0) (a₂ : refusal c₂ ≡ 0) (same : read c ≡ read c₂) (asked : c.query ≡ c₂.query) (more : c.limit ≤ c₂.limit) where
  other : Orders c₂ (the_order c E a)
  other = subst (λ (q : Query). IsCourierOrder (read c₂) q (the_order c E a)) asked (subst (λ (n : Tables). IsCourierOrder n c.query (the_order c E a)) same (is_order c E a))

  pub forgotten-for-good : (v : ℕ) → v < vertex_count (read c) → met (network (read c) c.query) (distance_in (S c (the_order c E a))) v ≡ true → ¬ SettledNames c v → ¬ HeldNames c v
      → ¬ SettledNames c₂ v × ¬ HeldNames c₂ v
  forgotten-for-good =
      holds.forgotten-for-good (search_of c) (search_of c₂) (complete c E) (complete c₂ E₂) a a₂ (ap₂ network same asked) more (the_order c E a) (is_order c E a) other

  pub dropped-for-good : (v : ℕ) → SettledNames c v → ¬ HeldNames c v → ¬ HeldNames c₂ v
  dropped-for-good =
      holds.dropped-for-good (search_of c) (search_of c₂) (complete c E) (complete c₂ E₂) a a₂ (ap₂ network same asked) more (the_order c E a) (is_order c E a) other
