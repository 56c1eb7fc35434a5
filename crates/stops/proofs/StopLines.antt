-- A line of a timetable, test by test. Assumes nothing.
use Prim.Native.Nat.{ℕ, ◌+◌, ◌-◌, ◌<◌}
use native.Mathlib.Omega.{arith}
use mathlib.Core.Path.{◌≡◌, refl, sym, ap, ◌∙◌}
use mathlib.Core.Logic.{⊎_elim}
use mathlib.Core.Bool.{Bool, true, false, ◌&&◌}
use mathlib.Core.List.{List, [], ◌∷◌}
use lib.Dec.{eqb}
use lib.ListN.{length, take, drop}
use lib.Seq.{take-nil, drop-nil}
use borrow.Author.Tests.{eqb-true}
use Rattle.journeys.specs.Counting.{none}
use Rattle.journeys.proofs.Tests.{split, and_both, or_left}
use Rattle.journeys.specs.Refusals.{unless, or_else}
use Rattle.feed.specs.Lines.{empty, lines_of, first_bad_line}
use Rattle.feed.specs.Fields.{Row, row_of, field}
use Rattle.feed.specs.Values.{number, time, time_or_blank}
use Rattle.feed.specs.Stops.{trip_name, arrival_name, departure_name, stop_name, sequence_name, times, column, header, columns_once, header_refusal, in_column, stop_line, below, lines_refusal}
use Rattle.lines.specs.Ends.{width, end_width}
use Rattle.lines.proofs.Lines.{line-at}
use Rattle.header.proofs.Names.{column-inside}
use Rattle.std.specs.Prelude.{Option, Some, None}
use Rattle.std.specs.Option.{is_some}
use Rattle.values.specs.Readings.{number_read, time_read}
use Rattle.values.proofs.Times.{read-value, read-bad}
use Rattle.stops.specs.StopLines.{line_good, fault_below}

-- ---- a time, or nothing
pub blank-good : (f : List ℕ) → empty f ≡ true → time_or_blank f ≡ true
unfolding time_or_blank
blank-good f e = or_left _ e

pub time-good : (f : List ℕ) (t : ℕ) → empty f ≡ false → time_read f ≡ Some t → time_or_blank f ≡ true
unfolding time_or_blank time_read
time-good f t e r =
    rw e
    (⊎_elim (λ (p : time f ≡ true). p) (λ (p : time f ≡ false). absurd (let z : ◌≡◌ {A = ℕ} 0 1 = cc in omega arith)) (split (time f)))

pub time-bad : (f : List ℕ) → empty f ≡ false → time_read f ≡ None → time_or_blank f ≡ false
unfolding time_or_blank time_read
time-bad f e r =
    rw e
    (⊎_elim (λ (p : time f ≡ true). absurd (let z : ◌≡◌ {A = ℕ} 0 1 = cc in omega arith)) (λ (p : time f ≡ false). p) (split (time f)))

pub time-told : (f : List ℕ) (o : Option ℕ) → empty f ≡ false → time_read f ≡ o → is_some o ≡ time_or_blank f
time-told f (Some t) e r = sym (time-good f t e r)
time-told f None e r = sym (time-bad f e r)

-- ---- the tests of a line, one behind the other
module _ (count arrival departure sequence : ℕ) (s : List ℕ) where
  abbrev counted : Bool
  counted = (row_of s).sound && eqb (length (row_of s).fields) count

  pub long : counted ≡ true → length (row_of s).fields ≡ count
  long h = eqb-true (length (row_of s).fields) count (and_both (row_of s).sound (eqb (length (row_of s).fields) count) h).1

  pub other-count : counted ≡ false → line_good count arrival departure sequence s ≡ false
  unfolding line_good
  other-count e = rw e refl

  module _ (h : counted ≡ true) where
    pub bad-arrival : time_or_blank (field (row_of s) arrival) ≡ false → line_good count arrival departure sequence s ≡ false
    unfolding line_good
    bad-arrival e = rw (h, e) refl

    module _ (a : time_or_blank (field (row_of s) arrival) ≡ true) where
      pub bad-departure : time_or_blank (field (row_of s) departure) ≡ false → line_good count arrival departure sequence s ≡ false
      unfolding line_good
      bad-departure e = rw (h, a) (rw e refl)

      module _ (d : time_or_blank (field (row_of s) departure) ≡ true) where
        by-sequence : line_good count arrival departure sequence s ≡ number none (field (row_of s) sequence)
        unfolding line_good
        by-sequence = rw (h, a) (rw d refl)

        pub good-sequence : (v : ℕ) → number_read none (field (row_of s) sequence) ≡ Some v → line_good count arrival departure sequence s ≡ true
        good-sequence v e = by-sequence ∙ (read-value none v (field (row_of s) sequence) e).0

        pub bad-sequence : number_read none (field (row_of s) sequence) ≡ None → line_good count arrival departure sequence s ≡ false
        bad-sequence e = by-sequence ∙ read-bad none (field (row_of s) sequence) e

        pub sequence-told : (o : Option ℕ) → number_read none (field (row_of s) sequence) ≡ o → is_some o ≡ line_good count arrival departure sequence s
        sequence-told (Some v) e = sym (good-sequence v e)
        sequence-told None e = sym (bad-sequence e)

-- By the columns of line 1 it is a line of the definition.
line-is : (H : Row) → line_good (length H.fields) (column arrival_name H) (column departure_name H) (column sequence_name H) ≡ stop_line H
unfolding line_good stop_line in_column
line-is H = refl

-- ---- line 1, and then the others
module _ (H : Row) (ls : List (List ℕ)) where
  pub no-columns : columns_once H ≡ false → record { number = 12; place = 1 } ≡ fault_below H ls
  unfolding fault_below unless or_else
  no-columns e = rw e refl

  module _ (h : columns_once H ≡ true) where
    pub broken-header : H.sound ≡ false → record { number = 13; place = 1 } ≡ fault_below H ls
    unfolding fault_below unless or_else
    broken-header e = rw (h, e) refl

    pub sound-header : (count arrival departure sequence : ℕ) → H.sound ≡ true → count ≡ length H.fields → arrival ≡ column arrival_name H → departure ≡ column departure_name H
        → sequence ≡ column sequence_name H → first_bad_line 13 (line_good count arrival departure sequence) 2 ls ≡ fault_below H ls
    unfolding fault_below unless or_else stop_line in_column column
    sound-header count arrival departure sequence e c a d q = rw (h, e, c, a, d, q) (ap (λ good. first_bad_line 13 good 2 ls) (line-is H))

    -- each column is one of the fields
    inside : (name : List ℕ) → eqb (times name H.fields) 1 ≡ true → column name H < length H.fields
    unfolding column
    inside name e = omega (arith, column-inside name 0 H.fields (eqb-true _ 1 e))

    pub columns-inside : (column arrival_name H < length H.fields) × (column departure_name H < length H.fields) × (column sequence_name H < length H.fields)
    unfolding columns_once
    columns-inside =
        let t = eqb (times trip_name H.fields) 1 in
        let a = eqb (times arrival_name H.fields) 1 in
        let d = eqb (times departure_name H.fields) 1 in
        let s = eqb (times stop_name H.fields) 1 in
        let q = eqb (times sequence_name H.fields) 1 in
        let p4 = and_both (t && a && d && s) q h in
        let p3 = and_both (t && a && d) s p4.0 in
        let p2 = and_both (t && a) d p3.0 in
        let p1 = and_both t a p2.0 in
        (inside arrival_name p1.1, inside departure_name p2.1, inside sequence_name p4.1)

pub columns-below : (H : Row) (count arrival departure sequence : ℕ) → columns_once H ≡ true → count ≡ length H.fields → arrival ≡ column arrival_name H
    → departure ≡ column departure_name H → sequence ≡ column sequence_name H → count < 18446744073709551615
    → (arrival < count) × (departure < count) × (sequence < count) × (count < 18446744073709551615)
columns-below H count arrival departure sequence h c a d q few = let i = columns-inside H [] h in (omega arith, omega arith, omega arith, few)

-- ---- the whole text
pub text-parts : (text : List ℕ) (stop next : ℕ) → stop ≡ 0 + width (drop 0 text) → next ≡ stop + end_width (drop stop text)
    → fault_below (row_of (take stop text)) (lines_of (drop next text)) ≡ or_else (header_refusal text) (lines_refusal text)
unfolding fault_below header_refusal lines_refusal header below lines_of
text-parts [] stop next s n = rw (take-nil stop, drop-nil next) refl
text-parts (b ∷ r) stop next s n =
    let first : lines_of (b ∷ r) ≡ take (stop - 0) (b ∷ r) ∷ lines_of (drop next (b ∷ r)) = line-at (b ∷ r) 0 stop next (omega arith) s n in
    let none-off : stop - 0 ≡ stop = omega arith in
    rw (first, none-off) refl
