-- `all_hops`: all windows, then the end.
use mathlib.Core.Path.{refl, sym, subst, ◌∙◌}
use mathlib.Core.List.{List}
use Prim.Native.Nat.{ℕ, ◌/◌}
use lib.ListN.{length}
use Rattle.sorting.specs.Sorted.{recs}
use Rattle.hopbytes.specs.Listing.{OnTrips}
use Rattle.recorded.specs.Asked.{stops_read, records_read}
use Rattle.windows.specs.Lent.{lent}
use Rattle.windows.specs.Gone.{Ended}
use Rattle.windows.proofs.EndLaws.{ready, whole_room, end-on-trips, end-told}
use Rattle.windows.proofs.all_hops.Goals as goal

pub all_windows-run-requires : goal.all_windows-run-requires
all_windows-run-requires c =
    let a = c.args in
    let p = c.requires.spare_len in
    let F = lent a.text.now a.stops.now a.trips.now a.target.now in record {
      target_len = (whole_room F a.c a.from p.2 p.3 refl, p.0, p.1, ready F a.c a.from p.2 p.3);
    }

pub conclude-requires : goal.conclude-requires
unfolding records_read stops_read
conclude-requires c =
    let a = c.args in
    let p = c.requires.spare_len in
    let F = lent a.text.now a.stops.now a.trips.now a.target.now in
    let e = c.all_windows-run.ensures in
    let len = c.all_windows-run.auto.target in
    (len ∙ whole_room F a.c a.from p.2 p.3 refl, λ f n m. subst (λ (T : List ℕ). OnTrips T (recs c.all_windows-run.result.hops c.all_windows-run.new.target)) (sym c.trips.view_is) (end-on-trips F a.c a.from p.2 p.3 refl c.all_windows-run.new.target len e.1 e.0 f m))

pub returns : goal.returns
unfolding records_read stops_read
returns c =
    let a = c.args in
    let p = c.requires.spare_len in
    let F = lent a.text.now a.stops.now a.trips.now a.target.now in
    let e = c.all_windows-run.ensures in
    end-told F a.c a.from p.2 p.3 refl c.all_windows-run.new.target c.all_windows-run.auto.target e.1 e.0 _ _
    (subst (λ (T : List ℕ). Ended T c.all_windows-run.new.target (length a.target.now / 20) c.all_windows-run.result.hops c.all_windows-run.result.carry c.conclude.result c.conclude.new.target) c.trips.view_is c.conclude.ensures)
