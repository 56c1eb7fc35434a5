-- The stop of a line, field by field, as one record. Assumes nothing.
use mathlib.Core.Path.{◌≡◌, refl}
use mathlib.Core.Bool.{Bool}
use mathlib.Core.List.{List}
use Prim.Native.Nat.{ℕ}
use Rattle.feed.specs.Fields.{row_of, field}
use Rattle.feed.specs.Values.{value_of}
use Rattle.feed.specs.Ids.{number_of}
use Rattle.feed.specs.Stops.{or_other}
use Rattle.lines.specs.Spans.{bytes_in}
use Rattle.rows.specs.Placed.{field_span}
use Rattle.naming.specs.Named.{found_from}
use Rattle.halts.specs.Halts.{timed_in}
use Rattle.stoplist.specs.declared.Columns.{Columns}
use Rattle.stoplist.specs.Made.{packed, stop_made}

module _ (C : Columns) (stops trips : List ℕ) (i : ℕ) (l : List ℕ) where
  pub made : {v t s a d : ℕ} {w : Bool} → v ≡ number_of stops (field (row_of l) C.stop) → t ≡ found_from trips 0 (bytes_in l (field_span l C.trip)) → s ≡ value_of (field (row_of l) C.sequence)
      → w ≡ timed_in l C.arrival C.departure → a ≡ or_other (field (row_of l) C.arrival) (field (row_of l) C.departure) → d ≡ or_other (field (row_of l) C.departure) (field (row_of l) C.arrival)
      → packed (record { line = i; trip = t; trip_number = 0; sequence = s; vertex = v; timed = w; arrival = a; departure = d }) ≡ packed (stop_made C stops trips i l)
  unfolding stop_made
  made p q r u x y = rw (p, q, r, u, x, y) refl
