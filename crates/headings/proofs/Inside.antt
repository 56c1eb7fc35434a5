-- Columns that stand in line 1 once are inside it. Assumes nothing.
use mathlib.Core.Path.{◌≡◌}
use mathlib.Core.Bool.{true, ◌&&◌}
use mathlib.Core.List.{List}
use Prim.Native.Nat.{ℕ, ◌<◌}
use native.Mathlib.Omega.{arith}
use lib.Dec.{eqb}
use lib.ListN.{length}
use borrow.Author.Tests.{eqb-true}
use Rattle.journeys.proofs.Tests.{and_both}
use Rattle.feed.specs.Fields.{Row, row_of}
use Rattle.feed.specs.Stops.{trip_name, arrival_name, departure_name, stop_name, sequence_name, times, column, columns_once}
use Rattle.header.proofs.Names.{column-inside}
use Rattle.stoplist.specs.declared.Columns.{Columns}
use Rattle.stoplist.specs.Made.{Inside}
use Rattle.headings.specs.Found.{Found}

once-inside : (name : List ℕ) (H : Row) → eqb (times name H.fields) 1 ≡ true → column name H < length H.fields
unfolding column
once-inside name H e = omega (arith, column-inside name 0 H.fields (eqb-true _ 1 e))

put : {c n k m : ℕ} → c ≡ k → n ≡ m → k < m → c < n
put p q h = omega (arith, p, q, h)

pub found_inside : (l : List ℕ) (C : Columns) → columns_once (row_of l) ≡ true → Found l C → Inside C
unfolding columns_once
found_inside l C h f =
    let H = row_of l in
    let t = eqb (times trip_name H.fields) 1 in
    let a = eqb (times arrival_name H.fields) 1 in
    let d = eqb (times departure_name H.fields) 1 in
    let s = eqb (times stop_name H.fields) 1 in
    let q = eqb (times sequence_name H.fields) 1 in
    let p4 = and_both (t && a && d && s) q h in
    let p3 = and_both (t && a && d) s p4.0 in
    let p2 = and_both (t && a) d p3.0 in
    let p1 = and_both t a p2.0 in
    record {
      trip = put f.trip f.count (once-inside trip_name H p1.0);
      arrival = put f.arrival f.count (once-inside arrival_name H p1.1);
      departure = put f.departure f.count (once-inside departure_name H p2.1);
      stop = put f.stop f.count (once-inside stop_name H p3.1);
      sequence = put f.sequence f.count (once-inside sequence_name H p4.1);
    }
