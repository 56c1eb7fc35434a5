-- A hop of judged tables as the code reads it, and what its offer makes of the figures. Assumes nothing.
use mathlib.Core.Path.{◌≡◌, sym, ap, fun_ext, ◌∙◌}
use mathlib.Core.Bool.{Bool, true, false, not}
use mathlib.Core.List.{List}
use Prim.Native.Nat.{ℕ, ◌≤◌, ◌<◌}
use native.Mathlib.Omega.{arith}
use Rattle.journeys.specs.Bytes.{clocked}
use Rattle.journeys.specs.Tables.{Tables, Hop, hop, hop_at, hop_count}
use Rattle.journeys.specs.Query.{Query}
use Rattle.journeys.specs.Query as queries
use Rattle.journeys.proofs.Tests.{cond-true, cond-false, and_left, and_right, and-true}
use Rattle.journeys.proofs.Decoding.{hop-count, hop-at}
use Rattle.journeys.proofs.Valid.{good-hop, allowed-high}
use Rattle.words.specs.Quantities.{DayTime}
use Rattle.records.specs.Columns.{records_in, from_at, to_at}
use Rattle.worktable.specs.Map.{distance_limit}
use Rattle.trips.specs.Standing.{standing_by}
use Rattle.boarding.specs.Rides.{Mode}
use Rattle.boarding.specs.RideJourneys.{standing}
use Rattle.improving.specs.Figures.{improved_at}
use Rattle.marking.specs.Setting.{tables, query, mode, Judged}
use Rattle.marking.specs.Carried.{offered_by}
use Rattle.marking.specs.declared.Asked.{Asked}

module _ {v w h : List ℕ} {a : Asked} (ok : Judged v w h a) where
  pub hops-count : hop_count (tables v w h a) ≡ records_in a.size h
  hops-count = hop-count a.size v w h

  pub allowed-fits : a.allowed < distance_limit
  allowed-fits = omega (arith, ok.allowed, allowed-high ok.valid.query)

  pub at-arrival : DayTime (clocked a.query.arrival.0)
  at-arrival = record { low = omega (arith, ok.valid.query.arrival_low); high = ok.valid.query.arrival_high }

  module _ (j : ℕ) (l : j < hop_count (tables v w h a)) where
    pub hop-low : j < records_in a.size h
    hop-low = omega (arith, hops-count)

    pub hop-is : hop (tables v w h a) j ≡ hop_at a.size h j
    hop-is = hop-at a.size v w h j hop-low

    pub to_is : to_at a.size h j ≡ (hop (tables v w h a) j).to
    unfolding hop_at
    to_is = sym (ap (λ (x : Hop). x.to) hop-is)

    pub from_is : from_at a.size h j ≡ (hop (tables v w h a) j).from
    unfolding hop_at
    from_is = sym (ap (λ (x : Hop). x.from) hop-is)

    pub to_low : {r : ℕ} → r ≡ to_at a.size h j → r < 65536
    to_low e = omega (arith, e, to_is, (good-hop (tables v w h a) ok.valid.tables j l).to_low, ok.valid.tables.vertices_few)

    pub from_low : {r : ℕ} → r ≡ from_at a.size h j → r < 65536
    from_low e = omega (arith, e, from_is, (good-hop (tables v w h a) ok.valid.tables j l).from_low, ok.valid.tables.vertices_few)

    pub departs : DayTime (hop_at a.size h j).departure
    departs =
        let g = good-hop (tables v w h a) ok.valid.tables j l in
        let e = ap (λ (x : Hop). x.departure) hop-is in
        record { low = omega (arith, g.departure-low); high = omega (arith, g.rides, g.arrival_high) }

    pub arrives : DayTime (hop_at a.size h j).arrival
    arrives =
        let g = good-hop (tables v w h a) ok.valid.tables j l in
        let e = ap (λ (x : Hop). x.arrival) hop-is in
        record { low = omega (arith, g.departure-low, g.rides); high = omega (arith, g.arrival_high) }

    pub leaves_by : (hop (tables v w h a) j).departure ≤ (query a).arrival → (hop_at a.size h j).departure ≤ clocked a.query.arrival.0
    leaves_by t = let e = ap (λ (x : Hop). x.departure) hop-is in omega arith

    pub stands : {r : ℕ} → r ≡ standing_by (clocked a.query.arrival.0) a.query.speed a.boarding (hop_at a.size h j).departure → r ≡ standing (query a) (mode h a) (hop (tables v w h a) j).departure
    stands e = e ∙ ap (λ (x : Hop). standing (query a) (mode h a) x.departure) (sym hop-is)

-- ---- the offer of hop j
module _ (N : Tables) (Q : Query) (M : Mode) (set : ℕ → Bool) (j : ℕ) (f : ℕ → ℕ) where
  pub not_there : set (hop N j).to ≡ false → f ≡ offered_by N Q M set j f
  not_there e = fun_ext (λ u. sym (cond-false _ (f u) (and_left (not (set (hop N j).from)) e)))

  pub gone-already : set (hop N j).from ≡ true → f ≡ offered_by N Q M set j f
  gone-already e = fun_ext (λ u. sym (cond-false _ (f u) (and_right (set (hop N j).to) (ap not e))))

  pub is-offered : set (hop N j).to ≡ true → set (hop N j).from ≡ false → {D w o : ℕ} → D ≡ queries.allowed Q → w ≡ (hop N j).from → o ≡ standing Q M (hop N j).departure
      → improved_at D w o f ≡ offered_by N Q M set j f
  is-offered s n {D} {w} {o} d e p =
      fun_ext (λ u. ap (λ (x : ℕ). improved_at x w o f u) d ∙ ap (λ (x : ℕ). improved_at (queries.allowed Q) x o f u) e ∙ ap (λ (x : ℕ). improved_at (queries.allowed Q) (hop N j).from x f u) p ∙ sym (cond-true _ (f u) (and-true s (ap not n))))
