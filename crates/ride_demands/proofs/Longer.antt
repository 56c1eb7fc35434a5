-- Two calls that differ in the boarding time alone, both accepted and finished: the longer time lists no vertex that the shorter one does not, and none nearer. Assumes nothing.
use mathlib.Core.Path.{◌≡◌, refl, sym, ap, ap₂, subst, ◌∙◌}
use mathlib.Core.List.{List}
use Prim.Native.Nat.{ℕ, ◌+◌, ◌*◌, ◌≤◌, ◌<◌}
use Rattle.journeys.specs.Counting.{In}
use Rattle.journeys.specs.Bytes.{be32}
use Rattle.journeys.specs.Tables.{Tables}
use Rattle.journeys.specs.Query.{Query}
use Rattle.journeys.specs.Settled as entries
use Rattle.journeys.specs.Settled.{Settled}
use Rattle.boarding.specs.Rides.{Mode, trip_at}
use Rattle.boarding.specs.RideOrder.{IsRideOrder}
use Rattle.boarding.specs.RideAnswers.{RideLent, ride_tables, mode_of}
use Rattle.boarding.proofs.Changing.{longer-lists-fewer}
use Rattle.ride_demands.specs.RideCall.{RideCall, RideCompleted, refusal, settled_count, finished, read, SettledNames, LongerBoarding}
use Rattle.ride_demands.proofs.Demands.{valid, the_order, is_order}
use Rattle.ride_demands.proofs.Vertices.{whole-record}

module _ (c c' : RideCall) (E : RideCompleted c) (E' : RideCompleted c') (accepted : refusal c ≡ 0) (accepted' : refusal c' ≡ 0) (f : finished c ≡ 1) (f' : finished c' ≡ 1)
    (longer : LongerBoarding c c') where
  -- what the first call is lent, with the other buffers
  abbrev alike : RideLent
  alike =
      record {
        vertices = c.lent.vertices;
        walks = c.lent.walks;
        hops = c.lent.hops;
        hop_size = c.lent.hop_size;
        settled = c'.lent.settled;
        scratch = c'.lent.scratch;
      }

  same : c'.lent ≡ alike
  same = rw (longer.vertices, longer.walks, longer.hops, longer.hop_size)

  -- the order of the second call over the first one's tables and query
  other : IsRideOrder (read c) c.query (mode_of c.lent c'.boarding) (the_order c' E' accepted')
  other =
      subst (λ (Q : Query). IsRideOrder (read c) Q (mode_of c.lent c'.boarding) (the_order c' E' accepted')) longer.query
      (subst (λ (b : RideLent). IsRideOrder (ride_tables b) c'.query (mode_of b c'.boarding) (the_order c' E' accepted')) same (is_order c' E' accepted'))

  -- A vertex of a counted record of the second call stands in a counted record of the first, with no larger figure.
  pub longer-lists-no-more : (i : ℕ) → i < settled_count c'
      → (j : ℕ) × (j < settled_count c) × (be32 c.settled (8 * j) ≡ be32 c'.settled (8 * i)) × (be32 c.settled (8 * j + 4) ≤ be32 c'.settled (8 * i + 4))
  longer-lists-no-more i h =
      let v = be32 c'.settled (8 * i) in
      let d = be32 c'.settled (8 * i + 4) in
      let m = (whole-record c' E' accepted' (the_order c' E' accepted') (is_order c' E' accepted') f' v d).0 (i, h, refl, refl) in
      let z =
      longer-lists-fewer (read c) c.query (trip_at c.lent.hop_size c.lent.hops) c.boarding c'.boarding longer.boarding (valid c E accepted)
      (is_order c E accepted) other v d m in
      let w = (whole-record c E accepted (the_order c E accepted) (is_order c E accepted) f v z.0).1 z.1 in
      (w.0, w.1, w.2, subst (λ (x : ℕ). x ≤ d) (sym w.3) z.2)

  pub longer-names-no-more : (v : ℕ) → SettledNames c' v → SettledNames c v
  longer-names-no-more v p = let z = longer-lists-no-more p.0 p.1 in (z.0, z.1, z.2 ∙ p.2)
