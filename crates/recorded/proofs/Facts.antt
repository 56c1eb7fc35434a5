-- What a stop has that is made from a good line. Assumes nothing.
use mathlib.Core.Path.{◌≡◌, refl, sym, ap, subst, ◌∙◌}
use mathlib.Core.Logic.{⊎_elim}
use mathlib.Core.Bool.{Bool, true, false, cond, ◌&&◌, ◌||◌}
use mathlib.Core.List.{List, [], ◌∷◌}
use Prim.Native.Nat.{ℕ, zero, suc, ◌+◌, ◌-◌, ◌≤◌, ◌<◌, ◌^◌}
use native.Mathlib.Omega.{arith}
use lib.Dec.{leb}
use lib.ListN.{length}
use borrow.Author.Tests.{leb-true}
use Rattle.journeys.specs.Counting.{none}
use Rattle.journeys.specs.Refusals.{fine}
use Rattle.journeys.proofs.Tests.{split, and_both}
use Rattle.feed.specs.Lines.{empty, first_bad_line}
use Rattle.feed.specs.Fields.{Row, row_of, field}
use Rattle.feed.specs.Values.{digits, number, value_of}
use Rattle.feed.specs.Ids as ids
use Rattle.feed.specs.Ids.{list_line, ids_refusal}
use Rattle.feed.specs.Stops.{Stop, trip_name, column, in_column, stop_of, stops_from}
use Rattle.feed.specs.Trips.{stop}
use Rattle.lines.specs.Spans.{bytes_in}
use Rattle.rows.specs.Placed.{field_span}
use Rattle.naming.specs.Named.{stop_at, line_at, found_from}
use Rattle.naming.proofs.Meaning.{or-rest}
use Rattle.spelling.specs.Spelled as spelled
use Rattle.stoplist.specs.declared.Columns.{Columns}
use Rattle.stoplist.specs.Made.{stop_made, stops_made, entry_good, Inside}
use Rattle.stoplist.proofs.Parts.{found_some, found-there, vertex-told, other-small, good, below}
use Rattle.alike.proofs.Stops.{Named}
use Rattle.hoporder.specs.Named.{line_from, number_at}
use Rattle.hopbytes.specs.Listing.{trip_at, Good}
use Rattle.hopbytes.proofs.OutLaws.{line-from}
use Rattle.recorded.proofs.Lines.{line-fine}

-- the two names of a line that begins at a place
same_line : (list : List ℕ) (k : ℕ) → k ≤ length list → line_from list k ≡ line_at list k
unfolding line_at stop_at
same_line list k h = line-from list k (stop_at list k) h refl

same_number : (list : List ℕ) (k : ℕ) → k ≤ length list → number_at list k ≡ spelled.number_at list k
unfolding number_at spelled.number_at
same_number list k h = ap (λ (l : List ℕ). value_of (field (row_of l) 1)) (same_line list k h)

pub record Facts (trips : List ℕ) (s e : Stop) : Type 0 where
  pub sequence : e.sequence < 2 ^ 32
  pub vertex : e.vertex < 2 ^ 24
  pub arrival : e.arrival < 2 ^ 18
  pub departure : e.departure < 2 ^ 18
  pub nameless : e.trip_number ≡ 0
  pub listed : Good trips e.trip
  pub placed : e.trip ≤ length trips
  pub number : s.trip_number ≡ trip_at trips e.trip

number_small : (f : List ℕ) → number none f ≡ true → value_of f < 2 ^ 32
unfolding number
number_small f e = omega (arith, leb-true (value_of f) none (and_both (digits f) (leb (value_of f) none) e).1)

module _ (C : Columns) (H : Row) (stops trips : List ℕ) (n : Named C H) (o : Inside C) (vs : ids_refusal 65535 stops ≡ fine) (vt : ids_refusal none trips ≡ fine) where
  facts-line : (i : ℕ) (l : List ℕ) → entry_good C stops trips l ≡ true → Facts trips (stop_of H stops trips i l) (stop_made C stops trips i l)
  unfolding stop_of stop_made in_column trip_at
  facts-line i l g =
      let w = good C stops trips l g in
      let t = found-there none trips l C.trip (below C stops trips l g o.trip) vt w.trip refl in
      let v = vertex-told stops l C.stop (below C stops trips l g o.stop) vs w.stop refl refl in
      record {
        sequence = number_small (field (row_of l) C.sequence) w.sequence;
        vertex = omega (arith, v.0, v.1);
        arrival = other-small (field (row_of l) C.arrival) (field (row_of l) C.departure) w.arrival w.departure;
        departure = other-small (field (row_of l) C.departure) (field (row_of l) C.arrival) w.departure w.arrival;
        nameless = refl;
        listed = record {
          above = found_some none trips l C.trip (below C stops trips l g o.trip) vt w.trip refl;
          within = omega (arith, t.0);
          good = ap (list_line none) (same_line trips (found_from trips 0 (bytes_in l (field_span l C.trip)) - 1) (omega (arith, t.0))) ∙ t.1;
        };
        placed = omega (arith, t.0);
        number = ap (λ (k : ℕ). number_in k) (sym n.trip) ∙ sym t.2 ∙ sym (same_number trips (found_from trips 0 (bytes_in l (field_span l C.trip)) - 1) (omega (arith, t.0)));
      }
    where
      number_in : ℕ → ℕ
      number_in k = ids.number_of trips (field (row_of l) k)

  pub facts-all : (i : ℕ) (ls : List (List ℕ)) → (first_bad_line 13 (entry_good C stops trips) i ls).number ≡ 0 → (k : ℕ) → k < length (stops_made C stops trips i ls) → Facts trips (stop (stops_from H stops trips i ls) k) (stop (stops_made C stops trips i ls) k)
  unfolding stops_from stops_made
  facts-all i [] e k h = absurd (omega (arith, h))
  facts-all i (l ∷ ls) e k h =
      let g = line-fine 13 (omega arith) (entry_good C stops trips) i l ls e in
      ⊎_elim (λ (t : empty l ≡ true). let q : k < length (stops_made C stops trips (i + 1) ls) = rw t at h in rw t (facts-all (i + 1) ls g.1 k q))
      (λ (t : empty l ≡ false). let q : k < suc (length (stops_made C stops trips (i + 1) ls)) = rw t at h in rw t (here (or-rest g.0 t) k q (λ j r. facts-all (i + 1) ls g.1 j r)))
      (split (empty l))
    where
      here : entry_good C stops trips l ≡ true → (k : ℕ) → k < suc (length (stops_made C stops trips (i + 1) ls))
          → ((j : ℕ) → j < length (stops_made C stops trips (i + 1) ls) → Facts trips (stop (stops_from H stops trips (i + 1) ls) j) (stop (stops_made C stops trips (i + 1) ls) j))
          → Facts trips (stop (stop_of H stops trips i l ∷ stops_from H stops trips (i + 1) ls) k) (stop (stop_made C stops trips i l ∷ stops_made C stops trips (i + 1) ls) k)
      here b zero q f = facts-line i l b
      here b (suc k) q f = f k (omega (arith, q))
