-- The rules that waits have changed, as they stood before: a walk's length was all four bytes, and no walk had a wait. They are kept only to be compared.
-- Assumes nothing.
use Rattle.std.specs.Prelude.{◌≡◌, ◌≢◌, Bool, not, cond, ◌&&◌, ◌||◌, ℕ, ◌+◌, ◌-◌, ◌*◌, ◌/◌, ◌≤◌, ◌<◌, min, max, eqb, leb, length, take}
use mathlib.Core.List.{List, [], ◌∷◌, ◌++◌, flat_map}
use Rattle.journeys.specs.Counting.{none, joined}
use Rattle.journeys.specs.Bytes.{be32, filled, cleared}
use Rattle.journeys.specs.Tables.{Tables, Walk, vertex_at, hop_at, walk, hop, vertex_count, walk_count, hop_count}
use Rattle.journeys.specs.Query.{Query, before, asked, allowed}
use Rattle.journeys.specs.Settled.{Settled}
use Rattle.journeys.specs.Order.{Order}
use Rattle.journeys.specs.Network.{Network, Held, distance_in, held_list}
use Rattle.journeys.specs.Records as records
use Rattle.journeys.specs.Records.{Record, walked, ridden, record_at, record_count}
use Rattle.journeys.specs.Parts.{Part, part, part_bytes, near}
use Rattle.journeys.specs.Refusals.{Refusal, unless, or_else, chain, first_from, first_bad, table_lengths, buffer_lengths, ends_ok, length_ok, twin_ok, hop_ok, walk_ascends, hop_ascends, vertex_ok, query_refusal}
use Rattle.journeys.specs.Lists.{list_refusal, settled_in}
use Rattle.journeys.specs.Answers.{Lent, Answer, refused_early, refused_late, held_bytes, settled_bytes}
use Rattle.journeys.specs.PartAnswers.{PartsLent, PartsAnswer, list_lengths, parts_refused}

-- ---- the tables: a walk with the wait that it did not have, 0
unfoldable pub whole_walk_at : List ℕ → ℕ → Walk
whole_walk_at b i = record { from = be32 b (16 * i); to = be32 b (16 * i + 4); len = be32 b (16 * i + 8); wait = 0; twin = be32 b (16 * i + 12) }

unfoldable pub whole_tables_of : ℕ → List ℕ → List ℕ → List ℕ → Tables
whole_tables_of size v w h =
    record {
      vertices = joined (λ i. vertex_at v i ∷ []) (length v / 12);
      walks = joined (λ i. whole_walk_at w i ∷ []) (length w / 16);
      hops = joined (λ j. hop_at size h j ∷ []) (length h / size);
    }

module _ (N : Tables) where
  -- ---- refusal 2 asked nothing of a wait
  unfoldable pub walk_ok_before : ℕ → Bool
  walk_ok_before i = let w = walk N i in ends_ok (vertex_count N) w.from w.to && length_ok w.len && twin_ok N i w

  unfoldable pub contents_before : Refusal
  contents_before =
      chain
      (first_bad 2 walk_ok_before (walk_count N)
      ∷ first_bad 3 (hop_ok N) (hop_count N)
      ∷ first_bad 4 (walk_ascends N) (walk_count N)
      ∷ first_bad 5 (hop_ascends N) (hop_count N)
      ∷ first_bad 6 (vertex_ok N) (vertex_count N)
      ∷ [])

  module _ (Q : Query) where
    -- ---- a walk took its length; the seeds were the offset, and the length less the offset
    pub data JourneyBefore : ℕ → ℕ → Type 0 where
      from_end : JourneyBefore (asked N Q).from Q.offset
      to_end : (asked N Q).twin ≢ none → JourneyBefore (asked N Q).to ((asked N Q).len - Q.offset)
      at_to : Q.offset ≡ (asked N Q).len → JourneyBefore (asked N Q).to 0
      by_walk : (i : ℕ) → i < walk_count N → {d : ℕ} → JourneyBefore (walk N i).to d → JourneyBefore (walk N i).from (d + (walk N i).len)
      by_hop : (j : ℕ) → j < hop_count N → (hop N j).arrival ≤ Q.arrival
          → JourneyBefore (hop N j).to (before Q (hop N j).arrival) → JourneyBefore (hop N j).from (before Q (hop N j).departure)
      wait : {v d d' : ℕ} → d ≤ d' → JourneyBefore v d → JourneyBefore v d'

    pub record DistanceBefore (v d : ℕ) : Type 0 where
      pub starts : JourneyBefore v d
      pub latest : (d' : ℕ) → JourneyBefore v d' → d ≤ d'

    unfoldable pub offer_before : Record → ℕ → ℕ
    offer_before (walked w) d = d + w.len
    offer_before (ridden h) d = cond (leb h.arrival Q.arrival && leb d (before Q h.arrival)) (before Q h.departure) none

    unfoldable pub seed_before : ℕ → ℕ
    seed_before v =
        let e = asked N Q in
        min (cond (eqb e.from v) Q.offset none)
        (cond (eqb e.to v && (not (eqb e.twin none) || eqb Q.offset e.len)) (e.len - Q.offset) none)

    abbrev pub network_before : Network
    network_before =
        record {
          vertices = vertex_count N;
          records = record_count N;
          allowed = allowed Q;
          from = λ r. records.from (record_at N r);
          to = λ r. records.to (record_at N r);
          seed = seed_before;
          offer = λ r. offer_before (record_at N r);
        }

    -- ---- parts were D long, or what was left of it
    unfoldable pub first_part_before : ℕ → List Part
    first_part_before i = part i (near N Q i - allowed Q) (near N Q i)

    unfoldable pub part_at_before : ℕ → ℕ → List Part
    part_at_before d i = part i (max ((walk N i).len - (allowed Q - d)) (near N Q i)) (walk N i).len

    unfoldable pub part_list_before : List Settled → List Part
    part_list_before S =
        (first_part_before Q.walk ++ cond (eqb (asked N Q).twin none) [] (first_part_before (asked N Q).twin))
        ++ flat_map (λ x. joined (λ i. cond (eqb (walk N i).to x.vertex) (part_at_before x.distance i) []) (walk_count N)) S

-- ---- the check alone
unfoldable pub check_before : ℕ → List ℕ → List ℕ → List ℕ → Refusal
check_before size v w h = or_else (table_lengths size v w h) (contents_before (whole_tables_of size v w h))

-- ---- the run: what it answers by a network and its order l of settling, and with these rules
module _ (b : Lent) (G : Network) (l : List Settled) where
  abbrev pub held_over : ℕ → List Held
  held_over k = held_list G (distance_in (take k l))

  unfoldable pub room_over : ℕ → Refusal
  room_over k =
      or_else (unless (leb (length (held_over k)) (length b.held / 16)) 8 k) (unless (leb (length (take k l)) (length b.settled / 8)) 9 k)

  unfoldable pub accepted_over : ℕ → Answer
  accepted_over k =
      record {
        refusal = 0;
        place = 0;
        settled_count = length (take k l);
        held_count = length (held_over k);
        finished = cond (leb (length l) k) 1 0;
        held = filled b.held (flat_map held_bytes (held_over k));
        settled = filled b.settled (flat_map settled_bytes (take k l));
      }

  unfoldable pub answered_over : ℕ → Answer
  answered_over limit =
      let k = min limit (length l) in
      let room = first_from room_over (k + 1) 0 in
      cond (eqb room.number 0) (accepted_over k) (refused_late b room)

abbrev pub whole_tables : Lent → Tables
whole_tables b = whole_tables_of b.hop_size b.vertices b.walks b.hops

unfoldable pub early_before : Lent → Query → Refusal
early_before b Q =
    let N = whole_tables b in
    chain
    (table_lengths b.hop_size b.vertices b.walks b.hops
    ∷ buffer_lengths b.held b.settled
    ∷ contents_before N
    ∷ query_refusal N Q
    ∷ [])

pub record AllowedBefore (b : Lent) (Q : Query) (limit : ℕ) (a : Answer) : Type 0 where
  pub refused : (early_before b Q).number ≢ 0 → a ≡ refused_early b (early_before b Q)
  pub accepted : (early_before b Q).number ≡ 0
      → (l : List Settled) × Order (network_before (whole_tables b) Q) (DistanceBefore (whole_tables b) Q) (allowed Q) l × (a ≡ answered_over b (network_before (whole_tables b) Q) l limit)

-- ---- the parts
module _ (b : PartsLent) (Q : Query) where
  abbrev N : Tables
  N = whole_tables_of b.hop_size b.vertices b.walks b.hops

  unfoldable pub parts_early_before : Refusal
  parts_early_before =
      chain
      (table_lengths b.hop_size b.vertices b.walks b.hops
      ∷ list_lengths b.list b.parts
      ∷ contents_before N
      ∷ query_refusal N Q
      ∷ list_refusal 8 (vertex_count N) (allowed Q) b.list
      ∷ [])

  unfoldable pub parts_room_before : Refusal
  parts_room_before =
      first_from (λ k. unless (leb (length (part_list_before N Q (take k (settled_in b.list)))) (length b.parts / 12)) 10 k) (length (settled_in b.list) + 1) 0

  unfoldable pub parts_answer_before : PartsAnswer
  parts_answer_before =
      let ps = part_list_before N Q (settled_in b.list) in
      cond (eqb parts_early_before.number 0)
      (cond (eqb parts_room_before.number 0) (record { refusal = 0; place = 0; part_count = length ps; parts = filled b.parts (flat_map part_bytes ps) })
      (parts_refused b Q parts_room_before (cleared b.parts)))
      (parts_refused b Q parts_early_before b.parts)
