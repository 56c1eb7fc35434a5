-- The number on a line of the list, and hops written one behind the other. Assumes nothing.
use mathlib.Core.Path.{◌≡◌, refl, sym, ap, ap₂, subst, ◌∙◌}
use mathlib.Core.Logic.{⊎_elim}
use mathlib.Core.Bool.{Bool, true, false, cond, ◌&&◌}
use mathlib.Core.List.{List, [], ◌∷◌, ◌++◌}
use Prim.Native.Nat.{ℕ, zero, suc, ◌+◌, ◌-◌, ◌*◌, ◌/◌, ◌%◌, ◌<◌, ◌≤◌, ◌^◌}
use native.Mathlib.Omega.{arith}
use lib.Dec.{eqb}
use lib.ListN.{length, get_or, take, drop, length-append, drop_of_length-le}
use Rattle.journeys.specs.Counting.{none, joined}
use Rattle.journeys.specs.Bytes.{word}
use Rattle.journeys.proofs.Tests.{and_both, never, le-or-lt}
use Rattle.table_bytes.specs.Columns.{at, dec}
use Rattle.table_bytes.proofs.Access.{dec-ext, col-get}
use Rattle.sorting.specs.Sorted.{recs}
use Rattle.feed.specs.Lines.{lines_of, empty}
use Rattle.feed.specs.Fields.{row_of, field}
use Rattle.feed.specs.Values.{number, value_of}
use Rattle.feed.specs.Ids.{list_line}
use Rattle.lines.specs.Ends.{width, end_width}
use Rattle.lines.proofs.Lines.{line-at}
use Rattle.lines.proofs.Passes.{next-within}
use Rattle.std.specs.Prelude.{Option, Some, None, IsSome}
use borrow.Author.Rules.{rules}
use Rattle.values.specs.Readings.{number_read}
use Rattle.values.proofs.Times.{read-value, read-bad}
use Rattle.ids.proofs.ListLines.{second-there}
use Rattle.words.specs.Written.{written}
use Rattle.words.proofs.Written.{length-word, length-written, written_next, behind-kept}
use Rattle.moves.proofs.Rows.{rows_long, rows_none, rows_next, rows_all}
use Rattle.hoporder.specs.Named.{line_from, number_at}
use Rattle.hoporder.specs.Hops.{hop_out}
use Rattle.hopbytes.specs.Listing.{trip_at, trip_place, OnTrip, OnTrips}

-- ---- a line of the list
module _ (line : List ℕ) (g : list_line none line ≡ true) where
  listed-two : (row_of line).sound && eqb (length (row_of line).fields) 2 ≡ true
  unfolding list_line
  listed-two = (and_both ((row_of line).sound && eqb (length (row_of line).fields) 2) (number none (field (row_of line) 1)) g).0

  listed-number : number none (field (row_of line) 1) ≡ true
  unfolding list_line
  listed-number = (and_both ((row_of line).sound && eqb (length (row_of line).fields) 2) (number none (field (row_of line) 1)) g).1

  pub second-field : 1 < length (row_of line).fields
  second-field = second-there line none listed-two

  pub value_read : {v : ℕ} → number_read none (field (row_of line) 1) ≡ Some v → v ≡ value_of (field (row_of line) 1)
  value_read {v} e = sym (read-value none v (field (row_of line) 1) e).1

  pub never-bad : number_read none (field (row_of line) 1) ≡ None → ⊥
  never-bad e = never listed-number (read-bad none (field (row_of line) 1) e)

  pub number-there : (o : Option ℕ) → number_read none (field (row_of line) 1) ≡ o → IsSome o
  number-there (Some v) e = search rules
  number-there None e = absurd (never-bad e)

empty-line : (trips : List ℕ) (place : ℕ) → length trips ≤ place → line_from trips place ≡ []
unfolding line_from lines_of
empty-line trips place h = rw (drop_of_length-le trips h) refl

take_none : (n : ℕ) → take {A = ℕ} n [] ≡ []
take_none zero = refl
take_none (suc n) = refl

-- the line of the list that begins at a place
pub line-from : (trips : List ℕ) (place stop : ℕ) → place ≤ length trips → stop ≡ place + width (drop place trips) → line_from trips place ≡ take (stop - place) (drop place trips)
unfolding line_from
line-from trips place stop h s =
    ⊎_elim (λ (l : length trips ≤ place). empty-line trips place l ∙ sym (ap (take (stop - place)) (drop_of_length-le trips l) ∙ take_none (stop - place)))
    (λ (l : place < length trips). ap (λ (r : List (List ℕ)). get_or r 0 []) (line-at trips place stop (stop + end_width (drop stop trips)) l s refl))
    (le-or-lt (length trips) place)

pub number-from : (trips : List ℕ) (place stop : ℕ) {r : ℕ} → place ≤ length trips → stop ≡ place + width (drop place trips)
    → r ≡ value_of (field (row_of (take (stop - place) (drop place trips))) 1) → r ≡ number_at trips place
unfolding number_at
number-from trips place stop h s e = e ∙ ap (λ (l : List ℕ). value_of (field (row_of l) 1)) (sym (line-from trips place stop h s))

-- ---- a hop at its place
pub from-fits : (x : ℕ) → x < 2 ^ 64 → x / 2 ^ 36 < 2 ^ 32
from-fits x h = omega arith

module _ (trips : List ℕ) (x : ℕ) {second : ℕ} (o : OnTrip trips x) (e : second ≡ x / 2 ^ 64 % 2 ^ 64) where
  pub trip-above : 1 ≤ second % 2 ^ 32
  trip-above = rw e o.above

  pub trip-there : (second % 2 ^ 32 - 1 ≤ length trips) × (list_line none (line_from trips (second % 2 ^ 32 - 1)) ≡ true)
  trip-there = rw e (o.within, o.good)

module _ (d : List ℕ) (p f t l r m : ℕ) (h : p + 20 ≤ length d) where
  pub five-words : written (written (written (written (written d p (word f)) (p + 4) (word t)) (p + 8) (word l)) (p + 12) (word r)) (p + 16) (word m)
      ≡ written d p (word f ++ word t ++ word l ++ word r ++ word m)
  unfolding word
  five-words =
      ap (λ (x : List ℕ). written (written (written x (p + 8) (word l)) (p + 12) (word r)) (p + 16) (word m)) (written_next d p (word f) (omega arith) (word t))
      ∙ ap (λ (x : List ℕ). written (written x (p + 12) (word r)) (p + 16) (word m)) (written_next d p (word f ++ word t) (omega arith) (word l))
      ∙ ap (λ (x : List ℕ). written x (p + 16) (word m)) (written_next d p (word f ++ word t ++ word l) (omega arith) (word r))
      ∙ written_next d p (word f ++ word t ++ word l ++ word r) (omega arith) (word m)

module _ (trips d : List ℕ) (p x first second to trip : ℕ) (h : p + 20 ≤ length d) where
  pub hop-written : first ≡ x % 2 ^ 64 → second ≡ x / 2 ^ 64 % 2 ^ 64 → to ≡ x / 2 ^ 64 / 2 ^ 64 → trip ≡ number_at trips (second % 2 ^ 32 - 1)
      → written (written (written (written (written d p (word (first / 2 ^ 36))) (p + 4) (word to)) (p + 8) (word (first / 2 ^ 18 % 2 ^ 18))) (p + 12) (word (first % 2 ^ 18))) (p + 16) (word trip)
      ≡ written d p (hop_out (trip_at trips) x)
  unfolding hop_out trip_at
  hop-written a b c e =
      five-words d p (first / 2 ^ 36) to (first / 2 ^ 18 % 2 ^ 18) (first % 2 ^ 18) trip h
      ∙ rw (e, c, b, a)

-- ---- one hop after the other
pub hop-long : (trips : List ℕ) (x : ℕ) → length (hop_out (trip_at trips) x) ≡ 20
unfolding hop_out word
hop-long trips x = refl

module _ (trips b₀ : List ℕ) (n : ℕ) where
  abbrev pub out : ℕ → List ℕ
  out i = hop_out (trip_at trips) (at (recs n b₀) i)

  out-long : (m : ℕ) → length (joined out m) ≡ 20 * m
  out-long m = rows_long out 20 m (λ i l. hop-long trips (at (recs n b₀) i))

  pub record Writing (b : List ℕ) (i : ℕ) : Type 0 where
    pub size : length b ≡ 20 * n
    pub within : i ≤ n
    pub front : b ≡ written b₀ 0 (joined out i)

module _ (trips b₀ : List ℕ) (n : ℕ) (len : length b₀ ≡ 20 * n) where
  pub writing_start : Writing trips b₀ n b₀ 0
  writing_start = record { size = len; within = omega arith; front = rows_none (out trips b₀ n) 20 b₀ }

  module _ {b : List ℕ} {i : ℕ} (w : Writing trips b₀ n b i) where
    -- what was not yet written over is as it was
    pub still : i < n → at (recs n b) i ≡ at (recs n b₀) i
    still h =
        col-get 20 n b 0 i h
        ∙ dec-ext 20 b b₀ (0 + i * 20) (0 + i * 20) (λ j l. ap (λ (x : List ℕ). get_or x (0 + i * 20 + j) 0) w.front
        ∙ behind-kept b₀ 0 (joined (out trips b₀ n) i) (omega (arith, out-long trips b₀ n i)) (0 + i * 20 + j) (omega (arith, out-long trips b₀ n i)))
        ∙ sym (col-get 20 n b₀ 0 i h)

    pub writing-on : {c : List ℕ} → i < n → length c ≡ length b → c ≡ written b (20 * i) (hop_out (trip_at trips) (at (recs n b) i)) → Writing trips b₀ n c (i + 1)
    writing-on h s e = record {
      size = s ∙ w.size;
      within = omega arith;
      front = e ∙ ap₂ (λ (x : List ℕ) (y : ℕ). written x (20 * i) (hop_out (trip_at trips) y)) w.front (still h)
          ∙ rows_next (out trips b₀ n) 20 b₀ i (λ j l. hop-long trips (at (recs n b₀) j)) (omega arith);
    }

    pub writing-end : n ≤ i → b ≡ joined (out trips b₀ n) n
    writing-end h =
        let e : i ≡ n = omega (arith, w.within) in
        w.front ∙ ap (λ (m : ℕ). written b₀ 0 (joined (out trips b₀ n) m)) e ∙ rows_all (out trips b₀ n) 20 b₀ n (λ j l. hop-long trips (at (recs n b₀) j)) len
