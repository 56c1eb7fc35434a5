-- The stops of lines that 13 and 14 let pass: their vertices are listed, their times below 48 hours. Assumes nothing.
use mathlib.Core.Path.{◌≡◌, refl, sym, ap, subst, ◌∙◌}
use mathlib.Core.Logic.{◌⊎◌, ⊎_elim}
use mathlib.Core.Bool.{Bool, true, false, ◌&&◌, ◌||◌}
use mathlib.Core.List.{List, [], ◌∷◌}
use Prim.Native.Nat.{ℕ, zero, suc, ◌+◌, ◌≤◌, ◌<◌}
use native.Mathlib.Omega.{arith}
use lib.Dec.{eqb}
use lib.ListN.{length}
use Rattle.journeys.specs.Counting.{none}
use Rattle.journeys.specs.Refusals.{Refusal, unless, or_else}
use Rattle.journeys.proofs.Refusals.{or-fine, unless-fine}
use Rattle.journeys.proofs.Tests.{split, and_both}
use Rattle.feed.specs.Lines.{empty, place, first_bad_line}
use Rattle.feed.specs.Fields.{Row, row_of}
use Rattle.feed.specs.Values.{number, time_or_blank}
use Rattle.feed.specs.Ids.{known, number_of}
use Rattle.feed.specs.Stops.{Stop, trip_name, arrival_name, departure_name, stop_name, sequence_name, in_column, stop_line, ids_known, stop_of, stops_from}
use Rattle.feed.specs.Trips.{stop, no_stop}
use Rattle.naming.proofs.Meaning.{or-rest}
use Rattle.stoplist.proofs.Parts.{other-most}

pub record Limits (stops : List ℕ) (s : Stop) : Type 0 where
  pub id : List ℕ
  pub listed : known stops id ≡ true
  pub vertex : s.vertex ≡ number_of stops id
  pub arrival : s.arrival ≤ 172799
  pub departure : s.departure ≤ 172799

module _ (H : Row) (stops trips : List ℕ) where
  line-limits : (i : ℕ) (l : List ℕ) → stop_line H l ≡ true → ids_known H stops trips l ≡ true → Limits stops (stop_of H stops trips i l)
  unfolding stop_line ids_known stop_of
  line-limits i l e k =
      let sound = (row_of l).sound in
      let count = eqb (length (row_of l).fields) (length H.fields) in
      let a = time_or_blank (in_column H arrival_name l) in
      let d = time_or_blank (in_column H departure_name l) in
      let p3 = and_both (sound && count && a && d) (number none (in_column H sequence_name l)) e in
      let p2 = and_both (sound && count && a) d p3.0 in
      let p1 = and_both (sound && count) a p2.0 in
      record {
        id = in_column H stop_name l;
        listed = (and_both (known stops (in_column H stop_name l)) (known trips (in_column H trip_name l)) k).0;
        vertex = refl;
        arrival = other-most (in_column H arrival_name l) (in_column H departure_name l) p1.1 p2.1;
        departure = other-most (in_column H departure_name l) (in_column H arrival_name l) p2.1 p1.1;
      }

  passes : (n : ℕ) → 0 < n → (good : List ℕ → Bool) (i : ℕ) (l : List ℕ) (ls : List (List ℕ)) → (first_bad_line n good i (l ∷ ls)).number ≡ 0 → ((empty l || good l) ≡ true) × ((first_bad_line n good (i + 1) ls).number ≡ 0)
  unfolding first_bad_line
  passes n z good i l ls e = let p = or-fine (unless (empty l || good l) n (place i)) (first_bad_line n good (i + 1) ls) e in (unless-fine (empty l || good l) n (place i) z p.0, p.1)

  one_more : (s : Stop) (S : List Stop) → Limits stops s → ((k : ℕ) → k < length S → Limits stops (stop S k)) → (k : ℕ) → k < length (s ∷ S) → Limits stops (stop (s ∷ S) k)
  one_more s S a f zero h = a
  one_more s S a f (suc k) h = f k (omega arith)

  pub all-limits : (i : ℕ) (ls : List (List ℕ)) → (first_bad_line 13 (stop_line H) i ls).number ≡ 0 → (first_bad_line 14 (ids_known H stops trips) i ls).number ≡ 0
      → (k : ℕ) → k < length (stops_from H stops trips i ls) → Limits stops (stop (stops_from H stops trips i ls) k)
  unfolding stops_from
  all-limits i [] e f = λ k h. absurd (omega arith)
  all-limits i (l ∷ ls) e f =
      let p = passes 13 (omega arith) (stop_line H) i l ls e in
      let q = passes 14 (omega arith) (ids_known H stops trips) i l ls f in
      let r = all-limits (i + 1) ls p.1 q.1 in
      ⊎_elim (λ (t : empty l ≡ true). rw t r)
      (λ (t : empty l ≡ false). rw t (one_more (stop_of H stops trips i l) (stops_from H stops trips (i + 1) ls) (line-limits i l (or-rest p.0 t) (or-rest q.0 t)) r))
      (split (empty l))
