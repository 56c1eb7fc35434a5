-- The hops of an accepted timetable, read as a hop table of 20-byte records: theorems for whoever reads the demands. Assumes nothing.
use mathlib.Core.Path.{◌≡◌, refl, sym, ap, subst, ◌∙◌}
use mathlib.Core.Logic.{◌⊎◌, ⊎_elim, ◌≢◌}
use mathlib.Core.Bool.{Bool, true, false, not, cond, ◌&&◌}
use mathlib.Core.List.{List, [], ◌∷◌, ◌++◌, flat_map, append-nil}
use Prim.Native.Nat.{ℕ, zero, suc, ◌+◌, ◌-◌, ◌*◌, ◌/◌, ◌%◌, ◌≤◌, ◌<◌}
use native.Mathlib.Omega.{arith}
use lib.Dec.{eqb, leb, ltb}
use lib.ListN.{length, get_or, take, drop}
use lib.Seq.{take_at, length-take-le}
use borrow.Author.Tests.{eqb-true, eq-eqb, ne_eqb, leb-true, le-leb, lt-ltb, ltb-false, not-true}
use Rattle.journeys.specs.Counting.{none, In}
use Rattle.journeys.specs.Bytes.{be32, midnight, filled, cleared}
use Rattle.journeys.specs.Tables as tables
use Rattle.journeys.specs.Tables.{Hop, Tables, hop_at, tables_of, vertex_count}
use Rattle.journeys.specs.Refusals.{Refusal, fine, unless, or_else, first_bad, table_of, whole_of, ends_ok, times_ok, hop_ok, hop_ascends}
use Rattle.journeys.proofs.Decoding.{vertex-count, hop-count, hop-at}
use Rattle.journeys.proofs.Refusals.{or-fine, unless-fine, from-fine, bad-none}
use Rattle.journeys.proofs.Tests.{split, never, and_both, and-true, or_right, cond-true, cond-false}
use Rattle.feed.specs.Lines.{place, lines_of, first_bad_line}
use Rattle.feed.specs.Ids.{ids_refusal, known, number_of}
use Rattle.feed.specs.Stops.{Stop, header, header_refusal, stop_line, ids_known, below, lines_refusal, known_refusal, stops_of}
use Rattle.feed.specs.Trips.{stop, some, earlier, between, next, once, too_soon, in_time, first_bad_stop, hop, hops_of}
use Rattle.feed.specs.Answers.{Feed, stops_in, feed_hops, feed_refusal, hop_count, target_after}
use Rattle.succession.proofs.SomeLaws.{some_at, not-not}
use Rattle.timetable_laws.specs.Pairs.{Pair, hop_between, Stands, Accepted, hop_table}
use Rattle.timetable_laws.proofs.HopLists.{get_d-in, in-get_d, hop-known, hop-there, bytes-long, hops_ascend, word-is, stands}
use Rattle.timetable_laws.proofs.StopLimits.{Limits, all-limits}

module _ (F : Feed) (ok : Accepted F) where
  abbrev S : List Stop
  S = stops_in F

  -- ---- what was judged
  record Parts : Type 0 where
    target : (unless (table_of 20 0 262144 F.target) 1 2).number ≡ 0
    lines : (lines_refusal F.stop_times).number ≡ 0
    known : (known_refusal F.stop_times F.stops F.trips).number ≡ 0
    times : (first_bad_stop S 16 (in_time S)).number ≡ 0
    room : (unless (leb (length (hops_of S)) (length F.target / 20)) 17 0).number ≡ 0

  parts : Parts
  unfolding feed_refusal feed_hops
  parts =
      let p1 = or-fine (unless (table_of 20 0 262144 F.target) 1 2) _ ok in
      let p2 = or-fine (ids_refusal 65535 F.stops) _ p1.1 in
      let p3 = or-fine (ids_refusal none F.trips) _ p2.1 in
      let p4 = or-fine (header_refusal F.stop_times) _ p3.1 in
      let p5 = or-fine (lines_refusal F.stop_times) _ p4.1 in
      let p6 = or-fine (known_refusal F.stop_times F.stops F.trips) _ p5.1 in
      let p7 = or-fine (first_bad_stop S 15 (once S)) _ p6.1 in
      let p8 = or-fine (first_bad_stop S 16 (in_time S)) _ p7.1 in
      record { target = p1.0; lines = p5.0; known = p6.0; times = p8.0; room = p8.1 }

  limits : (k : ℕ) → k < length S → Limits F.stops (stop S k)
  unfolding lines_refusal known_refusal stops_of
  limits k h = all-limits (header F.stop_times) F.stops F.trips 2 (below F.stop_times) (or-fine (unless (header F.stop_times).sound 13 1) _ parts.lines).1 parts.known k h

  count-is : hop_count F ≡ length (hops_of S)
  unfolding hop_count feed_hops
  count-is = cond-true _ _ (eq-eqb (feed_refusal F).number 0 ok)

  target_is : target_after F ≡ filled F.target (flat_map (λ h. h) (hops_of S))
  unfolding target_after feed_hops
  target_is = cond-false _ _ (ne_eqb (feed_refusal F).number 1 (λ e. absurd (omega (arith, ok, e)))) ∙ cond-true _ _ (eq-eqb (feed_refusal F).number 0 ok)

  table_is : hop_table F ≡ flat_map (λ h. h) (hops_of S) ++ []
  unfolding filled
  table_is = ap (take (20 * hop_count F)) target_is ∙ take_at (flat_map (λ h. h) (hops_of S)) _ (20 * hop_count F) (bytes-long S ∙ ap (λ (n : ℕ). 20 * n) (sym count-is)) ∙ sym (append-nil _)

  pair-stands : (rest : List ℕ) (j p i : ℕ) → j < length (hops_of S) → get_or (hops_of S) j [] ≡ hop S p i → Pair S p i → Stands (flat_map (λ h. h) (hops_of S) ++ rest) j S p i
  pair-stands rest j p i h e q =
      let a = (limits p q.departs).departure in
      let b = (limits i q.arrives).arrival in
      stands S rest j p i h e (omega (arith, a)) (omega (arith, b))

  -- Each hop of the target has its pair of consecutive timed stops of one trip, at different vertices.
  pub hop-has-pair : (j : ℕ) → j < hop_count F → (p : ℕ) × (i : ℕ) × Pair S p i × Stands (target_after F) j S p i
  unfolding filled
  hop-has-pair j h =
      let l : j < length (hops_of S) = omega (arith, h, count-is) in
      let k = hop-known S (get_or (hops_of S) j []) (get_d-in [] (hops_of S) j l) in
      (k.0, k.1, k.2, subst (λ (b : List ℕ). Stands b j S k.0 k.1) (sym target_is) (pair-stands _ j k.0 k.1 l k.3 k.2))

  -- Each such pair has its hop.
  pub pair-has-hop : (p i : ℕ) → Pair S p i → (j : ℕ) × (j < hop_count F) × Stands (target_after F) j S p i
  unfolding filled
  pair-has-hop p i q =
      let k = in-get_d [] (hops_of S) (hop S p i) (hop-there S p i q) in
      (k.0, omega (arith, k.1, count-is), subst (λ (b : List ℕ). Stands b k.0 S p i) (sym target_is) (pair-stands _ k.0 p i k.1 k.2 q))

  -- no arrival before the departure that it follows
  in_time_lem : (p i : ℕ) → Pair S p i → (stop S p).departure ≤ (stop S i).arrival
  unfolding first_bad_stop in_time too_soon next
  in_time_lem p i q =
      let n = some (between S p i) (length S) in
      let timed = (and_both (stop S p).timed (stop S i).timed (and_both ((stop S p).timed && (stop S i).timed) (earlier S p i) (and_both ((stop S p).timed && (stop S i).timed && earlier S p i) (not n) q.consecutive).0).0).1 in
      let good : in_time S i ≡ true = unless-fine (in_time S i) 16 (place (stop S i).line) (omega arith) (from-fine (λ i. unless (in_time S i) 16 (place (stop S i).line)) (length S) 0 parts.times i (omega arith) (omega (arith, q.arrives))) in
      let both = and_both (not (ltb (stop S i).departure (stop S i).arrival)) (not (some (too_soon S i) (length S))) (sym (cond-true _ _ timed) ∙ good) in
      ltb-false _ _ (⊎_elim
      (λ (t : ltb (stop S i).arrival (stop S p).departure ≡ true). never (some_at (too_soon S i) (length S) p q.departs (and-true q.consecutive t)) (not-true _ both.1))
      (λ (t : ltb (stop S i).arrival (stop S p).departure ≡ false). t)
      (split (ltb (stop S i).arrival (stop S p).departure)))

  table-long : length (hop_table F) ≡ 20 * length (hops_of S)
  table-long = ap length (table_is ∙ append-nil (flat_map (λ h. h) (hops_of S))) ∙ bytes-long S

  table-count : length (hop_table F) / 20 ≡ length (hops_of S)
  table-count = omega (arith, table-long)

  -- ---- the tables with these hops
  module _ (v w : List ℕ) where
    abbrev N : Tables
    N = tables_of 20 v w (hop_table F)

    to_is : (j : ℕ) → j < length (hops_of S) → (tables.hop N j).to ≡ be32 (get_or (hops_of S) j []) 4
    unfolding hop_at
    to_is j h =
        ap (λ (x : Hop). x.to) (hop-at 20 v w (hop_table F) j (omega (arith, h, table-count)) ∙ ap (λ (b : List ℕ). hop_at 20 b j) table_is) ∙ word-is S [] j 4 h (omega arith)

    -- The hops are in the order of the tables: refusal 5 never comes from them.
    pub never-5 : first_bad 5 (hop_ascends N) (tables.hop_count N) ≡ fine
    unfolding hop_ascends
    never-5 =
        bad-none 5 (hop_ascends N) (tables.hop_count N) (λ j h.
        let l : j < length (hops_of S) = omega (arith, h, hop-count 20 v w (hop_table F), table-count) in
        or_right (eqb j 0) (le-leb (tables.hop N (j - 1)).to (tables.hop N j).to (omega (arith, to_is (j - 1) (omega (arith, l)), to_is j l, hops_ascend S (j - 1) j (omega arith) l))))

    -- Where the stop list's numbers are vertices of the tables, refusal 3 never comes from them.
    module _ (there : (id : List ℕ) → known F.stops id ≡ true → number_of F.stops id < vertex_count N) where
      vertex-there : (k : ℕ) → k < length S → (stop S k).vertex < vertex_count N
      vertex-there k h = let x = limits k h in subst (λ (n : ℕ). n < vertex_count N) (sym x.vertex) (there x.id x.listed)

      hop-good : (p i : ℕ) → Pair S p i → (h : Hop) → h ≡ hop_between S p i → (ends_ok (vertex_count N) h.from h.to && times_ok h.departure h.arrival) ≡ true
      unfolding ends_ok
      hop-good p i q h e =
          let a = (limits i q.arrives).arrival in
          let d = in_time_lem p i q in
          rw e
          (and-true
          (and-true (and-true (lt-ltb _ _ (vertex-there p q.departs)) (lt-ltb _ _ (vertex-there i q.arrives))) (ap not (ne_eqb _ _ q.apart)))
          (and-true (and-true (le-leb (midnight - 86400) (midnight + (stop S p).departure) (omega arith)) (le-leb (midnight + (stop S p).departure) (midnight + (stop S i).arrival) (omega (arith, d)))) (le-leb (midnight + (stop S i).arrival) (midnight + 172800) (omega (arith, a)))))

      pub never-3 : first_bad 3 (hop_ok N) (tables.hop_count N) ≡ fine
      unfolding hop_ok
      never-3 =
          bad-none 3 (hop_ok N) (tables.hop_count N) (λ j h.
          let l : j < length (hops_of S) = omega (arith, h, hop-count 20 v w (hop_table F), table-count) in
          let k = hop-known S (get_or (hops_of S) j []) (get_d-in [] (hops_of S) j l) in
          let is = hop-at 20 v w (hop_table F) j (omega (arith, l, table-count)) ∙ ap (λ (b : List ℕ). hop_at 20 b j) table_is ∙ (pair-stands [] j k.0 k.1 l k.3 k.2).hop in
          hop-good k.0 k.1 k.2 (tables.hop N j) is)

  accepted-most : length (hops_of S) ≤ 262144
  unfolding table_of
  accepted-most =
      let t = unless-fine (table_of 20 0 262144 F.target) 1 2 (omega arith) parts.target in
      let most = leb-true (length F.target / 20) 262144 (and_both (whole_of 20 F.target && leb 0 (length F.target / 20)) (leb (length F.target / 20) 262144) t).1 in
      let room = leb-true (length (hops_of S)) (length F.target / 20) (unless-fine (leb (length (hops_of S)) (length F.target / 20)) 17 0 (omega arith) parts.room) in
      omega (arith, room, most)

  -- Its length is one of a hop table: refusal 1 never comes from it.
  pub never-1 : table_of 20 0 262144 (hop_table F) ≡ true
  unfolding table_of whole_of
  never-1 =
      and-true (and-true (eq-eqb (length (hop_table F) % 20) 0 (omega (arith, table-long))) (le-leb 0 (length (hop_table F) / 20) (omega arith))) (le-leb (length (hop_table F) / 20) 262144 (omega (arith, table-count, accepted-most)))

pub count_most : (F : Feed) → hop_count F ≤ 262144
unfolding hop_count feed_hops
count_most F =
    ⊎_elim (λ (t : eqb (feed_refusal F).number 0 ≡ true). rw t (accepted-most F (eqb-true _ 0 t)))
    (λ (t : eqb (feed_refusal F).number 0 ≡ false). rw t (omega arith))
    (split (eqb (feed_refusal F).number 0))
