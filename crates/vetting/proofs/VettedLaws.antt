-- What is refused of three texts, test by test. Assumes nothing.
use mathlib.Core.Path.{◌≡◌, refl, sym, ap, ◌∙◌}
use mathlib.Core.Logic.{◌≢◌}
use mathlib.Core.Bool.{true, false, ◌&&◌}
use mathlib.Core.List.{List}
use Prim.Native.Nat.{ℕ}
use native.Mathlib.Omega.{arith}
use lib.Dec.{eqb}
use borrow.Author.Tests.{eq-eqb, ne_eqb}
use Rattle.std.specs.Prelude.{⊤, Result, Ok, Err, is_err}
use Rattle.words.specs.Refusal.{Refusal as Told}
use Rattle.words.specs.Told.{told}
use Rattle.words.proofs.Told.{named}
use lib.ListN.{length, drop}
use Rattle.journeys.specs.Counting.{none}
use Rattle.journeys.specs.Refusals.{Refusal, fine, unless, or_else}
use Rattle.journeys.proofs.Refusals.{or-fine, or-first, or-next, unless-good}
use Rattle.journeys.proofs.Tests.{and_both}
use Rattle.feed.specs.Lines.{lines_of, first_bad_line}
use Rattle.feed.specs.Fields.{Row, row_of}
use Rattle.feed.specs.Values.{time_or_blank, number}
use Rattle.feed.specs.Ids.{list_line, ids_refusal}
use Rattle.feed.specs.Stops.{arrival_name, departure_name, stop_name, sequence_name, trip_name, column, header, header_refusal, in_column, stop_line, ids_known, below, lines_refusal, known_refusal}
use Rattle.known.specs.Counted.{counted, id_known}
use Rattle.lowest.specs.Lower.{lower_of}
use Rattle.lowest.proofs.BothTests.{both-tests}
use Rattle.stoplist.specs.declared.Columns.{Columns}
use Rattle.headings.specs.Opened.{Opened}
use Rattle.stops.specs.StopLines.{line_good}
use Rattle.stoplist.specs.Made.{entry_good}
use Rattle.vetting.specs.Vetted.{text_refusal, all_fit}
use Rattle.vetting.proofs.LineLaws.{line-fine, weaker}
use Rattle.vetting.proofs.FitLaws.{all-fine, is-timely, both-known}

-- what the code tells of a refusal, and its number
pub err-number : (r : Result ⊤ Told) {x : Refusal} → told r ≡ x → is_err r ≡ true → eqb x.number 0 ≡ false
err-number (Ok u) e h = absurd (let z : ◌≡◌ {A = ℕ} 0 1 = cc in omega arith)
err-number (Err f) e h = ne_eqb _ 0 (λ z. named f.reason (ap (λ (y : Refusal). y.number) e ∙ z))

pub ok-number : (r : Result ⊤ Told) {x : Refusal} → told r ≡ x → is_err r ≡ false → eqb x.number 0 ≡ true
ok-number (Ok u) e h = eq-eqb _ 0 (ap (λ (y : Refusal). y.number) (sym e))
ok-number (Err f) e h = absurd (let z : ◌≡◌ {A = ℕ} 0 1 = cc in omega arith)

pub ids-fine : (most : ℕ) (list : List ℕ) → (ids_refusal most list).number ≡ 0 → ids_refusal most list ≡ fine
unfolding ids_refusal
ids-fine most list e = line-fine 29 refl (list_line most) 1 (lines_of list) e

-- ---- refusals 29, 12 and 13
module _ (text stops trips : List ℕ) where
  pub by-stops : (ids_refusal 65535 stops).number ≢ 0 → ids_refusal 65535 stops ≡ text_refusal text stops trips
  unfolding text_refusal
  by-stops n = sym (or-first (ids_refusal 65535 stops) _ n)

  pub by-trips : (ids_refusal 65535 stops).number ≡ 0 → (ids_refusal none trips).number ≢ 0 → ids_refusal none trips ≡ text_refusal text stops trips
  unfolding text_refusal
  by-trips e n = sym (or-next (ids_refusal 65535 stops) _ e ∙ or-first (ids_refusal none trips) _ n)

  pub by-text : (ids_refusal 65535 stops).number ≡ 0 → (ids_refusal none trips).number ≡ 0 → or_else (header_refusal text) (lines_refusal text) ≡ text_refusal text stops trips
  unfolding text_refusal
  by-text e f = sym (or-next (ids_refusal 65535 stops) _ e ∙ or-next (ids_refusal none trips) _ f)

-- ---- refusal 14
lines-good : (text : List ℕ) → lines_refusal text ≡ fine → first_bad_line 13 (stop_line (header text)) 2 (below text) ≡ fine
unfolding lines_refusal
lines-good text e =
    let p = or-fine (unless (header text).sound 13 1) (first_bad_line 13 (stop_line (header text)) 2 (below text)) (ap (λ (r : Refusal). r.number) e) in
    sym (or-next (unless (header text).sound 13 1) _ p.0) ∙ e

line-counted : (H : Row) (l : List ℕ) → stop_line H l ≡ true → counted (length H.fields) l ≡ true
unfolding stop_line counted
line-counted H l e =
    let sound = (row_of l).sound in
    let count = eqb (length (row_of l).fields) (length H.fields) in
    let a = time_or_blank (in_column H arrival_name l) in
    let d = time_or_blank (in_column H departure_name l) in
    (and_both (sound && count) a (and_both (sound && count && a) d (and_both (sound && count && a && d) (number none (in_column H sequence_name l)) e).0).0).0

module _ (text : List ℕ) (from : ℕ) (C : Columns) (o : Opened text from C) where
  pub all-counted : lines_refusal text ≡ fine → first_bad_line 13 (counted C.count) 2 (lines_of (drop from text)) ≡ fine
  unfolding header
  all-counted e =
      rw (o.rest, o.found.count)
      (weaker 13 refl (stop_line (header text)) (counted (length (header text).fields)) (line-counted (header text)) 2 (below text) (lines-good text e))

  -- by the columns of line 1 the tests are those of the definition
  line_same : (l : List ℕ) → line_good C.count C.arrival C.departure C.sequence l ≡ stop_line (header text) l
  unfolding line_good stop_line in_column header
  line_same l = rw (o.found.count, o.found.arrival, o.found.departure, o.found.sequence) refl

  known_same : (stops trips l : List ℕ) → (id_known stops C.stop l && id_known trips C.trip l) ≡ ids_known (header text) stops trips l
  unfolding id_known ids_known in_column header
  known_same stops trips l = rw (o.found.stop, o.found.trip) refl

  pub known-lower : (stops trips : List ℕ) (a b : Refusal) → a ≡ first_bad_line 14 (id_known stops C.stop) 2 (lines_of (drop from text))
      → b ≡ first_bad_line 14 (id_known trips C.trip) 2 (lines_of (drop from text)) → lower_of a b ≡ known_refusal text stops trips
  unfolding known_refusal ids_known in_column id_known header
  known-lower stops trips a b p q =
      rw (p, q, o.rest, o.found.stop, o.found.trip)
      (sym (both-tests 14 refl (λ l. id_known stops (column stop_name (header text)) l) (λ l. id_known trips (column trip_name (header text)) l) 2 (below text)))

  -- where 13 and 14 let all lines pass
  module _ (stops trips : List ℕ) (e : all_fit (entry_good C stops trips) (lines_of (drop from text)) ≡ true) where
    good-below : all_fit (entry_good C stops trips) (below text) ≡ true
    good-below = ap (all_fit (entry_good C stops trips)) (sym o.rest) ∙ e

    pub fit-lines : (header text).sound ≡ true → lines_refusal text ≡ fine
    unfolding lines_refusal
    fit-lines h =
        or-next (unless (header text).sound 13 1) _ (ap (λ (r : Refusal). r.number) (unless-good (header text).sound 13 1 h))
        ∙ all-fine 13 (entry_good C stops trips) (stop_line (header text)) timely 2 (below text) good-below
      where
        timely : (l : List ℕ) → entry_good C stops trips l ≡ true → stop_line (header text) l ≡ true
        timely l g = sym (line_same l) ∙ is-timely C stops trips l g

    pub fit-known : known_refusal text stops trips ≡ fine
    unfolding known_refusal
    fit-known = all-fine 14 (entry_good C stops trips) (ids_known (header text) stops trips) listed 2 (below text) good-below
      where
        listed : (l : List ℕ) → entry_good C stops trips l ≡ true → ids_known (header text) stops trips l ≡ true
        listed l g = sym (known_same stops trips l) ∙ both-known C stops trips l g
