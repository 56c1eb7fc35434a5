-- The records of the lines are those of the timetable's stops. Assumes nothing.
use mathlib.Core.Path.{◌≡◌, refl, sym, ap, ap₂, subst, ◌∙◌}
use mathlib.Core.Bool.{Bool, true, false, ◌&&◌}
use mathlib.Core.List.{List, [], ◌∷◌, map}
use Prim.Native.Nat.{ℕ, zero, suc, ◌+◌, ◌-◌, ◌*◌, ◌≤◌, ◌<◌, ◌^◌}
use native.Mathlib.Omega.{arith}
use lib.Dec.{eqb}
use lib.ListN.{length, get_or, drop, length-map, length-drop}
use borrow.Author.Tests.{eqb-true, eq-eqb}
use Rattle.journeys.specs.Counting.{none}
use Rattle.journeys.specs.Refusals.{Refusal, fine, unless, or_else}
use Rattle.journeys.proofs.Tests.{split, and_both, and-true}
use Rattle.journeys.proofs.Refusals.{or-fine, unless-fine}
use Rattle.table_bytes.specs.Columns.{at}
use Rattle.feed.specs.Lines as feedlines
use Rattle.feed.specs.Lines.{lines_of, first_bad_line}
use Rattle.feed.specs.Fields.{Row, row_of, field}
use Rattle.feed.specs.Ids.{ids_refusal}
use Rattle.feed.specs.Stops.{Stop, trip_name, arrival_name, departure_name, stop_name, sequence_name, column, in_column, header, header_refusal, columns_once, stop_line, ids_known, below, lines_refusal, known_refusal, stops_from, stops_of}
use Rattle.feed.specs.Trips.{stop, no_stop}
use Rattle.feed.specs.Answers.{Feed, Passed, stops_in}
use Rattle.succession.specs.Entries as entries
use Rattle.succession.specs.Entries.{stop_in}
use Rattle.succession.proofs.OrderLaws.{stop-at}
use Rattle.known.specs.Counted.{id_known}
use Rattle.stops.specs.StopLines.{line_good}
use Rattle.stoplist.specs.declared.Columns.{Columns}
use Rattle.stoplist.specs.Made.{packed, stop_made, stops_made, entry_good, Inside}
use Rattle.headings.specs.Found.{Found}
use Rattle.headings.proofs.Inside.{found_inside}
use Rattle.alike.specs.Alike.{Alike}
use Rattle.alike.proofs.Stops.{Named, made_alike}
use Rattle.alike.proofs.Unpacked.{Fits, unpacked}
use Rattle.hoporder.specs.Hops.{Placed}
use Rattle.hopbytes.specs.Listing.{trip_at, Good}
use Rattle.departures.specs.Entries.{Listed, EntriesOf}
use Rattle.recorded.specs.Asked.{Read, Short, stops_read, records_read}
use Rattle.recorded.proofs.Lines.{none-refused, third-passes, lines-few, numbered, rising}
use Rattle.recorded.proofs.Facts.{Facts, facts-all}

pub map_at : (E : List Stop) (i : ℕ) → i < length E → at (map packed E) i ≡ packed (get_or E i no_stop)
map_at [] i h = absurd (omega (arith, h))
map_at (s ∷ E) zero h = refl
map_at (s ∷ E) (suc i) h = map_at E i (omega (arith, h))

less : {a b c d : ℕ} → a ≡ c → b ≡ d → c < d → a < b
less p q h = rw (p, q) h

module _ (F : Feed) (C : Columns) (from : ℕ) (r : Read F C from) where
  abbrev H : Row
  H = header F.stop_times

  abbrev B : List (List ℕ)
  B = below F.stop_times

  pub stops-fine : ids_refusal 65535 F.stops ≡ fine
  unfolding ids_refusal
  stops-fine = none-refused 29 (omega arith) _ 1 (lines_of F.stops) r.passed.stops

  pub trips-fine : ids_refusal none F.trips ≡ fine
  unfolding ids_refusal
  trips-fine = none-refused 29 (omega arith) _ 1 (lines_of F.trips) r.passed.trips

  pub inside : Inside C
  unfolding header_refusal header
  inside = found_inside (get_or (lines_of F.stop_times) 0 []) C (unless-fine (columns_once (header F.stop_times)) 12 1 (omega arith) r.passed.header) r.columns

  named : Named C H
  unfolding header
  named = record { trip = r.columns.trip; arrival = r.columns.arrival; departure = r.columns.departure; stop = r.columns.stop; sequence = r.columns.sequence }

  line-good : (l : List ℕ) → stop_line H l ≡ true → ids_known H F.stops F.trips l ≡ true → entry_good C F.stops F.trips l ≡ true
  unfolding stop_line ids_known in_column entry_good line_good id_known header
  line-good l p q =
      let f = r.columns in
      rw (f.count, f.arrival, f.departure, f.sequence, f.stop, f.trip) (and-true p q)

  good-below : first_bad_line 13 (entry_good C F.stops F.trips) 2 B ≡ fine
  unfolding lines_refusal known_refusal
  good-below =
      third-passes 13 14 13 (omega arith) (omega arith) (stop_line H) (ids_known H F.stops F.trips) (entry_good C F.stops F.trips) line-good 2 B
      (or-fine (unless H.sound 13 1) (first_bad_line 13 (stop_line H) 2 B) r.passed.lines).1 r.passed.known

  -- the lines from line 2 on are good
  pub lines-good : first_bad_line 13 (entry_good C F.stops F.trips) 2 (lines_of (drop from F.stop_times)) ≡ fine
  lines-good = ap (λ (ls : List (List ℕ)). first_bad_line 13 (entry_good C F.stops F.trips) 2 ls) r.second ∙ good-below

  abbrev E : List Stop
  E = stops_made C F.stops F.trips 2 B

  abbrev R : List ℕ
  R = map packed E

  read_is : records_read F C from ≡ R
  unfolding records_read stops_read
  read_is = ap (λ (ls : List (List ℕ)). map packed (stops_made C F.stops F.trips 2 ls)) r.second

  alike : Alike (stops_in F) E
  unfolding stops_of
  alike = made_alike C H F.stops F.trips named inside 2 B trips-fine good-below

  facts : (k : ℕ) → k < length E → Facts F.trips (stop (stops_in F) k) (stop E k)
  unfolding stops_of
  facts = facts-all C H F.stops F.trips named inside stops-fine trips-fine 2 B (ap (λ (x : Refusal). x.number) good-below)

  module _ (s : Short F) where
    line_small : (k : ℕ) → k < length E → (stop E k).line < none
    unfolding below
    line_small k h =
        let n = numbered C F.stops F.trips 2 B k h in
        let f = lines-few F.stop_times in
        let d = length-drop 1 (lines_of F.stop_times) in
        omega (arith, n.1, f, d, s.text)

    fits : (k : ℕ) → k < length E → Fits (stop E k)
    fits k h =
        let f = facts k h in
        record { line = omega (arith, line_small k h); sequence = f.sequence; vertex = f.vertex; arrival = f.arrival; departure = f.departure; number = f.nameless }

    -- the stop of a record
    stop_is_lem : (k : ℕ) → k < length E → stop_in (at R k) ≡ stop E k
    stop_is_lem k h = ap stop_in (map_at E k h) ∙ unpacked (get_or E k no_stop) (fits k h)

    shorter : {k : ℕ} → k < length (stops_in F) → k < length E
    shorter h = rw alike.size at h

    fewer : {k : ℕ} → k < length R → k < length E
    fewer h = rw (length-map E packed) at h

    there : {A : Type 0} (g : Stop → A) (k : ℕ) → k < length (stops_in F) → {x : A} → x ≡ g (stop E k) → x ≡ g (stop_in (at R k))
    there g k h q = q ∙ ap g (sym (stop_is_lem k (shorter h)))

    trip-is : (k : ℕ) → k < length (stops_in F) → (stop_in (at R k)).trip ≡ (stop E k).trip
    trip-is k h = ap (λ (t : Stop). t.trip) (stop_is_lem k (shorter h))

    entries-of : EntriesOf F.trips (stops_in F) R
    entries-of = record {
      size = alike.size ∙ sym (length-map E packed);
      line = λ k h. there (λ t. t.line) k h (alike.line k);
      trip_number = λ k h. (facts k (shorter h)).number ∙ ap (trip_at F.trips) (sym (trip-is k h));
      together = λ i j h k e. trip-is i h ∙ eqb-true _ _ (sym (alike.trips i j) ∙ eq-eqb _ _ e) ∙ sym (trip-is j k);
      apart = λ i j h k e. eqb-true _ _ (alike.trips i j ∙ eq-eqb _ _ (sym (trip-is i h) ∙ e ∙ trip-is j k));
      sequence = λ k h. there (λ t. t.sequence) k h (alike.sequence k);
      vertex = λ k h. there (λ t. t.vertex) k h (alike.vertex k);
      timed = λ k h. there (λ t. t.timed) k h (alike.timed k);
      arrival = λ k h. there (λ t. t.arrival) k h (alike.arrival k);
      departure = λ k h. there (λ t. t.departure) k h (alike.departure k);
    }

    line-is : (k : ℕ) → k < length R → (stop_in (at R k)).line ≡ (stop E k).line
    line-is k h = ap (λ (t : Stop). t.line) (stop_is_lem k (fewer h))

    listed : Listed F.trips R
    listed = record {
      rising = record {
        rises = λ i j q h. less (line-is i (omega (arith, q, h))) (line-is j h) (rising C F.stops F.trips 2 B i j q (fewer h));
        within = λ i h. less (line-is i h) refl (line_small i (fewer h));
      };
      listed = λ i h. subst (Good F.trips) (sym (ap (λ (t : Stop). t.trip) (stop_is_lem i (fewer h)))) (facts i (fewer h)).listed;
    }

    pub records-entries : EntriesOf F.trips (stops_in F) (records_read F C from)
    records-entries = subst (EntriesOf F.trips (stops_in F)) (sym read_is) entries-of

    pub records-listed : Listed F.trips (records_read F C from)
    records-listed = subst (Listed F.trips) (sym read_is) listed

    trip-small : Placed R
    trip-small i h = less (ap (λ (t : Stop). t.trip) (stop_is_lem i (fewer h))) refl (few (facts i (fewer h)).placed s.trips)
      where
        few : {x n : ℕ} → x ≤ n → n < 4294967296 → x < 2 ^ 32
        few a b = omega (arith, a, b)

    pub records-placed : Placed (records_read F C from)
    records-placed = subst Placed (sym read_is) trip-small

    -- lines differ, so records do
    pub records-distinct : (i j : ℕ) → i < j → j < length (records_read F C from) → at (records_read F C from) i ≡ at (records_read F C from) j → ⊥
    records-distinct i j p h e =
        let q = records-listed.rising.rises i j p h in
        absurd (omega (arith, q, ap (λ (x : ℕ). (stop_in x).line) e))
