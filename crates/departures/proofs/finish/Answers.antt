-- `finish`: the front is sorted and written out, the rest becomes zero.
use mathlib.Core.Path.{sym, ap, subst, ◌∙◌}
use mathlib.Core.List.{List}
use Prim.Native.Nat.{ℕ, ◌*◌}
use native.Mathlib.Omega.{arith}
use lib.Seq.{length-take-le}
use Rattle.journeys.specs.Counting.{joined}
use Rattle.journeys.specs.Bytes.{filled}
use Rattle.table_bytes.specs.Columns.{at}
use Rattle.sorting.specs.Sorted.{sorted}
use Rattle.hoporder.specs.Hops.{hop_out}
use Rattle.hopbytes.specs.Listing.{trip_at, OnTrips}
use Rattle.departures.proofs.SliceLaws.{recs-front, finish-told}
use borrow.Author.Rules.{rules}
use Rattle.departures.proofs.finish.Goals as goal

pub in_order-requires : goal.in_order-requires
in_order-requires c =
    let a = c.args in
    (length-take-le (20 * a.k) a.b.now c.requires.0, subst (OnTrips a.trips.now) (sym (recs-front a.k a.k a.b.now (omega arith))) c.requires.1)

pub returns : goal.returns
returns c =
    let a = c.args in
    finish-told a.b.now c.in_order.new.b _ (20 * a.k) c.requires.0 (c.in_order.auto.b ∙ length-take-le (20 * a.k) a.b.now c.requires.0) (c.fill.ensures.after (λ y e. search rules))
    ∙ ap (filled a.b.now) (c.in_order.ensures ∙ ap (λ (W : List ℕ). joined (λ i. hop_out (trip_at a.trips.now) (at (sorted W) i)) a.k) (recs-front a.k a.k a.b.now (omega arith)))
