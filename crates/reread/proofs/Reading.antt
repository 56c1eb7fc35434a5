-- Stops read one by one. Assumes nothing.
use mathlib.Core.Path.{◌≡◌, refl, sym, ap, ◌∙◌}
use mathlib.Core.Logic.{⊎_elim}
use mathlib.Core.Bool.{Bool, true, false}
use mathlib.Core.List.{List, [], ◌∷◌}
use Prim.Native.Nat.{ℕ, zero, suc, ◌+◌, ◌-◌, ◌≤◌, ◌<◌}
use native.Mathlib.Omega.{arith}
use lib.ListN.{length, drop, drop_of_length-le}
use Rattle.journeys.specs.Refusals.{fine}
use Rattle.journeys.proofs.Tests.{split}
use Rattle.feed.specs.Lines.{empty, lines_of, first_bad_line}
use Rattle.feed.specs.Fields.{row_of, field}
use Rattle.feed.specs.Values.{value_of}
use Rattle.feed.specs.Ids.{number_of}
use Rattle.feed.specs.Stops.{Stop, or_other}
use Rattle.feed.specs.Trips.{stop}
use Rattle.lines.specs.Spans.{bytes_in}
use Rattle.rows.specs.Placed.{field_span}
use Rattle.naming.specs.Named.{line_at, next_at, found_from}
use Rattle.naming.proofs.Places.{next-is}
use Rattle.naming.proofs.Meaning.{lines_step, all-good, or-rest}
use Rattle.halts.specs.Halts.{timed_in}
use Rattle.stoplist.specs.declared.Columns.{Columns}
use Rattle.stoplist.specs.Made.{entry_good}
use Rattle.reread.specs.Read.{stop_read, stops_read, many_lines, Lined}

module _ (C : Columns) (stops trips : List ℕ) where
  pub read_as_lem : (i : ℕ) (l : List ℕ) {v t o s a d : ℕ} {w : Bool} → v ≡ number_of stops (field (row_of l) C.stop) → t ≡ found_from trips 0 (bytes_in l (field_span l C.trip)) → o ≡ number_of trips (field (row_of l) C.trip)
      → s ≡ value_of (field (row_of l) C.sequence) → w ≡ timed_in l C.arrival C.departure → a ≡ or_other (field (row_of l) C.arrival) (field (row_of l) C.departure) → d ≡ or_other (field (row_of l) C.departure) (field (row_of l) C.arrival)
      → ◌≡◌ {A = Stop} (record { line = i; trip = t; trip_number = o; sequence = s; vertex = v; timed = w; arrival = a; departure = d }) (stop_read C stops trips i l)
  unfolding stop_read
  read_as_lem i l p q o r u x y = rw (p, q, o, r, u, x, y) refl

  pub many : (i : ℕ) (ls : List (List ℕ)) → length (stops_read C stops trips i ls) ≡ many_lines ls
  unfolding stops_read many_lines
  many i [] = refl
  many i (l ∷ ls) = ⊎_elim (λ (e : empty l ≡ true). rw e (many (i + 1) ls)) (λ (e : empty l ≡ false). rw e (ap suc (many (i + 1) ls))) (split (empty l))

  module _ (text : List ℕ) where
    abbrev rest : ℕ → ℕ → List Stop
    rest at line = stops_read C stops trips line (lines_of (drop at text))

    pub rest-past : (at line : ℕ) → at < length text → empty (line_at text at) ≡ true → rest at line ≡ rest (next_at text at) (line + 1)
    unfolding stops_read
    rest-past at line h e = rw (lines_step text at h, e) refl

    pub rest-here : (at line : ℕ) → at < length text → empty (line_at text at) ≡ false → rest at line ≡ stop_read C stops trips line (line_at text at) ∷ rest (next_at text at) (line + 1)
    unfolding stops_read
    rest-here at line h e = rw (lines_step text at h, e) refl

    pub rest_over : (at line : ℕ) → length text ≤ at → rest at line ≡ []
    unfolding stops_read lines_of
    rest_over at line h = rw (drop_of_length-le text h) refl

    -- what is asked for is so many stops on
    pub record Going (from i at line left : ℕ) : Type 0 where
      pub within : at ≤ length text
      pub few : line ≤ at + 2
      pub good : first_bad_line 13 (entry_good C stops trips) line (lines_of (drop at text)) ≡ fine
      pub more : left < length (rest at line)
      pub same : stop (rest at line) left ≡ stop (rest from 2) i

    pub going_start : (from i : ℕ) → Lined C stops trips text from → i < length (rest from 2) → Going from i from 2 i
    going_start from i l h = record { within = l.within; few = omega arith; good = l.good; more = h; same = refl }

    module _ {from i at line left : ℕ} (g : Going from i at line left) where
      pub going-some : at < length text → empty (line_at text at) ≡ false → entry_good C stops trips (line_at text at) ≡ true
      going-some h e = or-rest (all-good text at h 13 (entry_good C stops trips) line refl g.good).0 e

      module _ (h : at < length text) {next : ℕ} (n : next ≡ next_at text at) where
        later : (at < next) × (next ≤ length text)
        later = let w = next-is text at h in (omega (arith, w, n), omega (arith, w, n))

        good-next : first_bad_line 13 (entry_good C stops trips) (line + 1) (lines_of (drop next text)) ≡ fine
        good-next = rw n (all-good text at h 13 (entry_good C stops trips) line refl g.good).1

        pub going-past : empty (line_at text at) ≡ true → Going from i next (line + 1) left
        going-past e =
            let q : rest at line ≡ rest next (line + 1) = rw n (rest-past at line h e) in
            record { within = later.1; few = omega (arith, g.few, later); good = good-next; more = rw (← q) g.more; same = ap (λ (l : List Stop). stop l left) (sym q) ∙ g.same }

        pub going_on : empty (line_at text at) ≡ false → (left ≡ 0 → ⊥) → Going from i next (line + 1) (left - 1)
        going_on e z =
            let q : rest at line ≡ stop_read C stops trips line (line_at text at) ∷ rest next (line + 1) = rw n (rest-here at line h e) in
            let m : left ≡ suc (left - 1) = positive left z in
            record {
              within = later.1;
              few = omega (arith, g.few, later);
              good = good-next;
              more = omega (arith, g.more, ap length q, m);
              same = ap (λ (k : ℕ). stop (stop_read C stops trips line (line_at text at) ∷ rest next (line + 1)) k) (sym m) ∙ ap (λ (l : List Stop). stop l left) (sym q) ∙ g.same;
            }
          where
            positive : (k : ℕ) → (k ≡ 0 → ⊥) → k ≡ suc (k - 1)
            positive zero z = absurd (z refl)
            positive (suc k) z = omega arith

      pub going-here : at < length text → empty (line_at text at) ≡ false → left ≡ 0 → {s : Stop} {l : List ℕ} → l ≡ line_at text at → s ≡ stop_read C stops trips line l → s ≡ stop (rest from 2) i
      going-here h e z {s} {l} p q = q ∙ ap (stop_read C stops trips line) p ∙ ap (λ (m : List Stop). stop m 0) (sym (rest-here at line h e)) ∙ ap (λ (k : ℕ). stop (rest at line) k) (sym z) ∙ g.same

      pub going-over : length text ≤ at → ⊥
      going-over h = absurd (omega (arith, g.more, ap length (rest_over at line h)))

-- ---- counting
pub many-past : (text : List ℕ) (at : ℕ) → at < length text → empty (line_at text at) ≡ true → many_lines (lines_of (drop at text)) ≡ many_lines (lines_of (drop (next_at text at) text))
unfolding many_lines
many-past text at h e = rw (lines_step text at h, e) refl

pub many-here : (text : List ℕ) (at : ℕ) → at < length text → empty (line_at text at) ≡ false → many_lines (lines_of (drop at text)) ≡ suc (many_lines (lines_of (drop (next_at text at) text)))
unfolding many_lines
many-here text at h e = rw (lines_step text at h, e) refl

pub many-over : (text : List ℕ) (at : ℕ) → length text ≤ at → many_lines (lines_of (drop at text)) ≡ 0
unfolding many_lines lines_of
many-over text at h = rw (drop_of_length-le text h) refl
