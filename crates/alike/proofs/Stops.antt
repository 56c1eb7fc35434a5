-- The stops that the records are made from are alike to those of the definition. Assumes nothing.
use mathlib.Core.Path.{◌≡◌, refl, sym, ap, ap₂, subst, ◌∙◌}
use mathlib.Core.Logic.{◌⊎◌, inl, inr, ⊎_elim}
use mathlib.Core.Bool.{Bool, true, false, not, cond, ◌&&◌, ◌||◌}
use mathlib.Core.List.{List, [], ◌∷◌}
use Prim.Native.Nat.{ℕ, zero, suc, ◌+◌, ◌-◌, ◌≤◌, ◌<◌}
use native.Mathlib.Omega.{arith}
use lib.Dec.{eqb}
use lib.ListN.{length}
use borrow.Author.Tests.{eqb-false, eqb-true, eq-eqb}
use Rattle.journeys.specs.Counting.{none}
use Rattle.journeys.specs.Refusals.{Refusal, fine, unless, or_else}
use Rattle.journeys.proofs.Tests.{split, same_test}
use Rattle.feed.specs.Lines.{empty, place, first_bad_line}
use Rattle.feed.specs.Fields.{Row, row_of, field}
use Rattle.feed.specs.Ids.{ids_refusal, line_of, known}
use Rattle.succession.proofs.SomeLaws.{not-not}
use Rattle.feed.specs.Stops.{Stop, trip_name, arrival_name, departure_name, stop_name, sequence_name, column, in_column, stop_of, stops_from}
use Rattle.feed.specs.Trips.{stop, no_stop}
use Rattle.lines.specs.Rows.{undoubled}
use Rattle.lines.specs.Spans.{paired, bytes_in}
use Rattle.rows.specs.Placed.{field_span}
use Rattle.rows.proofs.Fields.{value, pairs}
use Rattle.naming.specs.Named.{found_from}
use Rattle.naming.proofs.Meaning.{known_is, or-rest}
use Rattle.halts.specs.Halts.{timed_in}
use Rattle.stoplist.specs.declared.Columns.{Columns}
use Rattle.stoplist.specs.Made.{stop_made, stops_made, entry_good, Inside}
use Rattle.stoplist.proofs.Parts.{below}
use Rattle.alike.specs.Alike.{Alike}
use Rattle.alike.proofs.Trips.{one_trip}

-- the columns are those of line 1
pub record Named (C : Columns) (H : Row) : Type 0 where
  pub trip : C.trip ≡ column trip_name H
  pub arrival : C.arrival ≡ column arrival_name H
  pub departure : C.departure ≡ column departure_name H
  pub stop : C.stop ≡ column stop_name H
  pub sequence : C.sequence ≡ column sequence_name H

module _ (C : Columns) (H : Row) (stops trips : List ℕ) (n : Named C H) (o : Inside C) where
  -- a trip by its line and by its place
  abbrev Told : ℕ → ℕ → Type 0
  Told a b = ((y : List ℕ) × (paired y ≡ true) × (a ≡ line_of trips (undoubled y)) × (b ≡ found_from trips 0 y)) ⊎ ((a ≡ 0) × (b ≡ 0))

  record Like (s e : Stop) : Type 0 where
    line : s.line ≡ e.line
    sequence : s.sequence ≡ e.sequence
    vertex : s.vertex ≡ e.vertex
    timed : s.timed ≡ e.timed
    arrival : s.arrival ≡ e.arrival
    departure : s.departure ≡ e.departure
    trip : Told s.trip e.trip

  like-none : Like no_stop no_stop
  like-none = record { line = refl; sequence = refl; vertex = refl; timed = refl; arrival = refl; departure = refl; trip = inr (refl, refl) }

  like-line : (i : ℕ) (l : List ℕ) → entry_good C stops trips l ≡ true → Like (stop_of H stops trips i l) (stop_made C stops trips i l)
  unfolding stop_of stop_made in_column timed_in
  like-line i l g =
      let h = below C stops trips l g o.trip in
      record {
        line = refl;
        sequence = rw n.sequence refl;
        vertex = rw n.stop refl;
        timed = rw (n.arrival, n.departure) refl;
        arrival = rw (n.arrival, n.departure) refl;
        departure = rw (n.arrival, n.departure) refl;
        trip = inl (bytes_in l (field_span l C.trip), pairs l C.trip h, ap (λ (k : ℕ). line_of trips (field (row_of l) k)) (sym n.trip) ∙ ap (line_of trips) (value l C.trip h), refl);
      }

  -- a line that is not refused is empty or good, and so are those behind it
  rest-good : (good : List ℕ → Bool) (i : ℕ) (l : List ℕ) (ls : List (List ℕ)) → first_bad_line 13 good i (l ∷ ls) ≡ fine → ((empty l || good l) ≡ true) × (first_bad_line 13 good (i + 1) ls ≡ fine)
  unfolding first_bad_line unless or_else
  rest-good good i l ls e = go (empty l || good l) refl
    where
      go : (b : Bool) → (empty l || good l) ≡ b → ((empty l || good l) ≡ true) × (first_bad_line 13 good (i + 1) ls ≡ fine)
      go true q = (q, rw q at e)
      go false q = absurd (let z = ap (λ (r : Refusal). r.number) (rw q at e) in omega (arith, z))

  like-all : (i : ℕ) (ls : List (List ℕ)) → first_bad_line 13 (entry_good C stops trips) i ls ≡ fine → (length (stops_from H stops trips i ls) ≡ length (stops_made C stops trips i ls)) × ((k : ℕ) → Like (stop (stops_from H stops trips i ls) k) (stop (stops_made C stops trips i ls) k))
  unfolding stops_from stops_made
  like-all i [] e = (refl, λ k. like-none)
  like-all i (l ∷ ls) e =
      let g = rest-good (entry_good C stops trips) i l ls e in
      let r = like-all (i + 1) ls g.1 in
      ⊎_elim (λ (q : empty l ≡ true). rw q r)
      (λ (q : empty l ≡ false). rw q (ap suc r.0, one_more (stop_of H stops trips i l) (stop_made C stops trips i l) (stops_from H stops trips (i + 1) ls) (stops_made C stops trips (i + 1) ls) (like-line i l (or-rest g.0 q)) r.1))
      (split (empty l))
    where
      one_more : (s e : Stop) (S E : List Stop) → Like s e → ((k : ℕ) → Like (stop S k) (stop E k)) → (k : ℕ) → Like (stop (s ∷ S) k) (stop (e ∷ E) k)
      one_more s e S E a f zero = a
      one_more s e S E a f (suc k) = f k

  known_same : ids_refusal none trips ≡ fine → (y : List ℕ) → paired y ≡ true → eqb (line_of trips (undoubled y)) 0 ≡ eqb (found_from trips 0 y) 0
  unfolding known
  known_same e y p = sym (not-not _) ∙ ap not (known_is none trips y p e) ∙ not-not _

  flipped : (a b : ℕ) → eqb a 0 ≡ eqb b 0 → eqb 0 a ≡ eqb 0 b
  flipped a b e = same_test _ _ (λ t. eq-eqb 0 b (sym (eqb-true b 0 (sym e ∙ eq-eqb a 0 (sym (eqb-true 0 a t)))))) (λ t. eq-eqb 0 a (sym (eqb-true a 0 (e ∙ eq-eqb b 0 (sym (eqb-true 0 b t))))))

  told_same : ids_refusal none trips ≡ fine → {a b c d : ℕ} → Told a b → Told c d → eqb a c ≡ eqb b d
  told_same e (inl p) (inl q) = ap₂ (λ (x w : ℕ). eqb x w) p.2 q.2 ∙ one_trip none trips p.0 q.0 p.1 q.1 e ∙ sym (ap₂ (λ (x w : ℕ). eqb x w) p.3 q.3)
  told_same e (inl p) (inr q) = ap₂ (λ (x w : ℕ). eqb x w) p.2 q.0 ∙ known_same e p.0 p.1 ∙ sym (ap₂ (λ (x w : ℕ). eqb x w) p.3 q.1)
  told_same e (inr p) (inl q) = ap₂ (λ (x w : ℕ). eqb x w) p.0 q.2 ∙ flipped (line_of trips (undoubled q.0)) (found_from trips 0 q.0) (known_same e q.0 q.1) ∙ sym (ap₂ (λ (x w : ℕ). eqb x w) p.1 q.3)
  told_same e (inr p) (inr q) = ap₂ (λ (x w : ℕ). eqb x w) p.0 q.0 ∙ sym (ap₂ (λ (x w : ℕ). eqb x w) p.1 q.1)

  pub made_alike : (i : ℕ) (ls : List (List ℕ)) → ids_refusal none trips ≡ fine → first_bad_line 13 (entry_good C stops trips) i ls ≡ fine → Alike (stops_from H stops trips i ls) (stops_made C stops trips i ls)
  made_alike i ls t e =
      let r = like-all i ls e in
      record {
        size = r.0;
        line = λ k. (r.1 k).line;
        sequence = λ k. (r.1 k).sequence;
        vertex = λ k. (r.1 k).vertex;
        timed = λ k. (r.1 k).timed;
        arrival = λ k. (r.1 k).arrival;
        departure = λ k. (r.1 k).departure;
        trips = λ j k. told_same t (r.1 j).trip (r.1 k).trip;
      }
