-- `write_out`: the fields of a record, and its trip's number, as five words.
use Prim.Native.Nat.{◌*◌}
use native.Mathlib.Omega.{arith}
use Rattle.table_bytes.specs.Columns.{at}
use Rattle.sorting.specs.Sorted.{recs}
use Rattle.hopbytes.proofs.OutLaws.{hop-written}
use Rattle.hopbytes.proofs.write_out.Goals as goal

pub returns : goal.returns
returns c =
    let a = c.args in
    rw (c.put_word-5.ensures, c.put_word-4.ensures, c.put_word-3.ensures, c.put_word-2.ensures, c.put_word.ensures)
    (hop-written a.trips.now a.b.now (20 * a.i) (at (recs a.n a.b.now) a.i) c.low-first.result c.middle-second.result c.high-to.result c.trip_number-trip.result (omega (arith, c.requires.0, c.requires.1)) c.low-first.ensures c.middle-second.ensures c.high-to.ensures c.trip_number-trip.ensures)
