-- Lines that a test lets pass, all of them. Assumes nothing.
use Prim.Native.Nat.{ℕ, ◌+◌, ◌-◌, ◌≤◌, ◌<◌}
use mathlib.Core.Path.{◌≡◌, refl, sym, ap, ◌∙◌}
use mathlib.Core.Bool.{Bool, true, false, not, ◌&&◌, ◌||◌}
use mathlib.Core.Logic.{⊎_elim}
use mathlib.Core.List.{List, [], ◌∷◌}
use lib.Dec.{eqb}
use lib.ListN.{length, take, drop, drop_of_length-le}
use borrow.Author.Tests.{eqb-true, eq-eqb, ne_eqb}
use Rattle.journeys.specs.Counting.{none}
use Rattle.journeys.specs.Refusals.{fine, unless, or_else}
use Rattle.journeys.proofs.Tests.{split, and_both, and_left, and_right}
use Rattle.feed.specs.Lines.{empty, lines_of, first_bad_line}
use Rattle.feed.specs.Fields.{Row, row_of}
use Rattle.feed.specs.Ids.{ids_refusal}
use Rattle.feed.specs.Stops.{columns_once}
use Rattle.lines.specs.Ends.{width, end_width}
use Rattle.lines.proofs.Lines.{line-at}
use Rattle.lines.specs.Spans.{bytes_in}
use Rattle.rows.specs.Placed.{field_span}
use Rattle.naming.specs.Named.{found_from}
use Rattle.known.specs.Counted.{id_known}
use Rattle.known.proofs.Lookups.{listed-is}
use Rattle.stops.specs.StopLines.{line_good}
use Rattle.stoplist.specs.declared.Columns.{Columns}
use Rattle.stoplist.specs.Made.{entry_good}
use Rattle.vetting.specs.Vetted.{opens, all_fit}

-- ---- one line behind the other
module _ (good : List ℕ → Bool) (text : List ℕ) (at : ℕ) where
  pub fit-over : length text ≤ at → all_fit good (lines_of (drop at text)) ≡ true
  unfolding all_fit lines_of
  fit-over h = rw (drop_of_length-le text h) refl

  module _ (stop next : ℕ) (h : at < length text) (s : stop ≡ at + width (drop at text)) (n : next ≡ stop + end_width (drop stop text)) where
    pub fit-good : (empty (take (stop - at) (drop at text)) || good (take (stop - at) (drop at text))) ≡ true → all_fit good (lines_of (drop at text)) ≡ all_fit good (lines_of (drop next text))
    unfolding all_fit
    fit-good e = rw (line-at text at stop next h s n, e) refl

    pub fit-bad : (empty (take (stop - at) (drop at text)) || good (take (stop - at) (drop at text))) ≡ false → all_fit good (lines_of (drop at text)) ≡ false
    unfolding all_fit
    fit-bad e = rw (line-at text at stop next h s n, e) refl

-- where all lines pass, what follows from the test refuses none
pub all-fine : (number : ℕ) (good other : List ℕ → Bool) → ((l : List ℕ) → good l ≡ true → other l ≡ true) → (i : ℕ) (ls : List (List ℕ)) → all_fit good ls ≡ true → first_bad_line number other i ls ≡ fine
unfolding all_fit first_bad_line unless or_else
all-fine number good other h i [] e = refl
all-fine number good other h i (l ∷ ls) e = rw (also both.0) (all-fine number good other h (i + 1) ls both.1)
  where
    both : ((empty l || good l) ≡ true) × (all_fit good ls ≡ true)
    both = and_both (empty l || good l) (all_fit good ls) e

    also : (empty l || good l) ≡ true → (empty l || other l) ≡ true
    also q = ⊎_elim (λ (t : empty l ≡ true). rw t refl) (λ (t : empty l ≡ false). rw t (h l (rw t at q))) (split (empty l))

-- ---- an id that is looked up
module _ (most : ℕ) (list l : List ℕ) (k : ℕ) (e : ids_refusal most list ≡ fine) (h : k < length (row_of l).fields) {r : ℕ} (q : r ≡ found_from list 0 (bytes_in l (field_span l k))) where
  pub found-is : id_known list k l ≡ not (eqb r 0)
  found-is = listed-is most list l k e h ∙ ap (λ (x : ℕ). not (eqb x 0)) (sym q)

  pub found_none : r ≡ 0 → id_known list k l ≡ false
  found_none z = found-is ∙ ap not (eq-eqb r 0 z)

  pub found_some : (r ≡ 0 → ⊥) → id_known list k l ≡ true
  found_some z = found-is ∙ ap not (ne_eqb r 0 z)

-- ---- one line, test by test
module _ (C : Columns) (stops trips l : List ℕ) where
  abbrev timed : Bool
  timed = line_good C.count C.arrival C.departure C.sequence l

  pub not-timely : timed ≡ false → entry_good C stops trips l ≡ false
  unfolding entry_good
  not-timely e = and_left _ e

  module _ (t : timed ≡ true) where
    pub no_stop_lem : id_known stops C.stop l ≡ false → entry_good C stops trips l ≡ false
    unfolding entry_good
    no_stop_lem e = and_right timed (and_left (id_known trips C.trip l) e)

    pub by-trip : id_known stops C.stop l ≡ true → entry_good C stops trips l ≡ id_known trips C.trip l
    unfolding entry_good
    by-trip e = rw (t, e) refl

  pub is-timely : entry_good C stops trips l ≡ true → timed ≡ true
  unfolding entry_good
  is-timely e = (and_both timed (id_known stops C.stop l && id_known trips C.trip l) e).0

  pub both-known : entry_good C stops trips l ≡ true → (id_known stops C.stop l && id_known trips C.trip l) ≡ true
  unfolding entry_good
  both-known e = (and_both timed (id_known stops C.stop l && id_known trips C.trip l) e).1

-- ---- lists and line 1
module _ (H : Row) (stops trips : List ℕ) where
  abbrev stops_ok : Bool
  stops_ok = eqb (ids_refusal 65535 stops).number 0

  abbrev trips_ok : Bool
  trips_ok = eqb (ids_refusal none trips).number 0

  pub stops-shut : stops_ok ≡ false → opens H stops trips ≡ false
  unfolding opens
  stops-shut e = and_left _ e

  module _ (s : stops_ok ≡ true) where
    pub trips-shut : trips_ok ≡ false → opens H stops trips ≡ false
    unfolding opens
    trips-shut e = and_right stops_ok (and_left (columns_once H && H.sound) e)

    module _ (t : trips_ok ≡ true) where
      pub columns-shut : columns_once H ≡ false → opens H stops trips ≡ false
      unfolding opens
      columns-shut e = and_right stops_ok (and_right trips_ok (and_left H.sound e))

      pub by-quotes : columns_once H ≡ true → opens H stops trips ≡ H.sound
      unfolding opens
      by-quotes e = rw (s, t) (rw e refl)

  pub record Open : Type 0 where
    pub stops-none : (ids_refusal 65535 stops).number ≡ 0
    pub trips-none : (ids_refusal none trips).number ≡ 0
    pub columns : columns_once H ≡ true
    pub sound : H.sound ≡ true

  pub all-open : opens H stops trips ≡ true → Open
  unfolding opens
  all-open e =
      let p = and_both stops_ok (trips_ok && (columns_once H && H.sound)) e in
      let q = and_both trips_ok (columns_once H && H.sound) p.1 in
      let r = and_both (columns_once H) H.sound q.1 in
      record { stops-none = eqb-true _ 0 p.0; trips-none = eqb-true _ 0 q.0; columns = r.0; sound = r.1 }
