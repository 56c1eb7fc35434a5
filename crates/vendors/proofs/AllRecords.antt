-- The records of both tables read as one row, with the seeds of the query, are the network of the definitions: the tests of both say the same. Assumes nothing.
use mathlib.Core.Path.{◌≡◌, refl, sym, ap, ap₂, subst, ◌∙◌}
use mathlib.Core.Logic.{⊎_elim, ◌≢◌}
use mathlib.Core.Bool.{Bool, cond}
use mathlib.Core.List.{List, []}
use Prim.Native.Nat.{ℕ, ◌+◌, ◌-◌, ◌/◌, ◌≤◌, ◌<◌}
use native.Mathlib.Omega.{arith}
use native.Mathlib.Decide.{ℕ_discrete}
use lib.Dec.{eqb}
use lib.ListN.{length}
use borrow.Author.Tests.{lt-ltb, le-ltb, eq-eqb, ne_eqb}
use Rattle.journeys.specs.Counting.{none}
use Rattle.journeys.specs.Tables.{Tables, Walk, Hop, walk_count, hop_count, vertex_count, tables_of, walk_at, hop_at}
use Rattle.journeys.specs.Query as query
use Rattle.journeys.specs.Query.{asked, allowed}
use Rattle.journeys.specs.Network.{Network}
use Rattle.journeys.specs.Records.{Record, walked, ridden, from, to, offer, record_at, record_count, seed, network}
use Rattle.journeys.specs.Refusals.{Refusal, or_else, unless, first_bad}
use Rattle.journeys.specs.Valid.{Valid}
use Rattle.journeys.specs.Answers.{Lent}
use Rattle.journeys.specs.Lists.{entry_ok}
use Rattle.journeys.specs.VendorLists.{size, no_better, far_before, far_listed, record_in, is_new, in_time, backed, seed_fair, record_fair, from_place, to_place, bought_refusal, vendor_refusal}
use Rattle.journeys.proofs.Tests.{cond-true, cond-false, le-or-lt}
use Rattle.journeys.proofs.Decoding.{vertex-count, walk-count, hop-count, walk_at_lem, hop-at}
use Rattle.journeys.proofs.Document.{Numbered, of-walk, of-hop, numbered, walk-record, hop-record, laws}
use Rattle.journeys.proofs.Valid.{good-walk, good-hop, allowed-high}
use Rattle.records.specs.Asked.{query_of}
use Rattle.records.specs.declared.Query.{Query}
use Rattle.audit.proofs.Whole.{bad-same}
use Rattle.parts.specs.Listing.{road_of}
use Rattle.parts.specs.declared.Road.{Road}
use Rattle.passing.specs.Row as row
use Rattle.passing.specs.Row.{asking, passes, record_of, Rides}
use Rattle.passing.specs.declared.Arriving.{Arriving}
use Rattle.heldmap.proofs.RunIsNetwork.{same-offer}
use Rattle.opening.specs.Seeds.{from_ticks_of, to_ticks_of}
use Rattle.opening.proofs.SeedsHeld.{seed-from, seed-to, seed-other}
use Rattle.opening.proofs.FirstHeld.{asked_is, road-fits, road-small, road-ends, from-ticks, to-ticks, to-is-seed-as}
use Rattle.reasons.specs.Rows.{seed_of, net_of, Led}
use Rattle.reasons.specs.declared.Seeds.{Seeds}
use Rattle.reasons.proofs.Reasons.{backs-same, fair-same, fair-is}
use Rattle.vendors.specs.Ends.{back_of, seeds_of}

module _ (hop_size : ℕ) (wide : 16 ≤ hop_size) (v w h : List ℕ) (q : Query) (ok : Valid (tables_of hop_size v w h) (query_of q)) (most : ℕ)
    (D-is : most ≡ allowed (query_of q)) where
  abbrev N : Tables
  N = tables_of hop_size v w h

  abbrev Q : query.Query
  Q = query_of q

  -- both tables as one row, by the query's arrival and speed, and D
  abbrev pub all : Arriving
  all = record { walks = length w / 16; hops = length h / hop_size; size = hop_size; distance = record { 0 = 0 }; arrival = q.arrival; speed = q.speed; allowed = record { 0 = most } }

  abbrev pub road : Road
  road = road_of w Q

  abbrev pub ends : Seeds
  ends = seeds_of w road

  abbrev pub G : Network
  G = net_of (length v / 12) w h all ends

  walks-are : walk_count N ≡ length w / 16
  walks-are = walk-count hop_size v w h

  hops-are : hop_count N ≡ length h / hop_size
  hops-are = hop-count hop_size v w h

  vertices-are : vertex_count N ≡ length v / 12
  vertices-are = vertex-count hop_size v w h

  pub passes-are : passes all ≡ record_count N
  passes-are = omega (arith, walks-are, hops-are)

  pub passes-few : passes all ≤ 524288
  passes-few = omega (arith, walks-are, hops-are, ok.tables.walks_few, ok.tables.hops_few)

  -- ---- record r of the row is record r of the tables
  pub record_is : (r : ℕ) → r < passes all → record_of w h all r ≡ record_at N r
  unfolding record_of
  record_is r l =
      ⊎_elim
      (λ (k : length w / 16 ≤ r).
      let j : r - length w / 16 < length h / hop_size = omega arith in
      let e : walk_count N + (r - length w / 16) ≡ r = omega (arith, walks-are) in
      cond-false _ _ (le-ltb r (length w / 16) k)
      ∙ ap ridden (sym (hop-at hop_size v w h (r - length w / 16) j))
      ∙ sym (hop-record N (r - length w / 16))
      ∙ ap (record_at N) e)
      (λ (k : r < length w / 16).
      cond-true _ _ (lt-ltb r (length w / 16) k) ∙ ap walked (sym (walk_at_lem hop_size v w h r k)) ∙ sym (walk-record N r (omega (arith, walks-are))))
      (le-or-lt (length w / 16) r)

  to_low : (r : ℕ) {x : Record} → Numbered N r x → to x < vertex_count N
  to_low r (of-walk l) = (good-walk N ok.tables r l).to_low
  to_low r (of-hop j l e) = (good-hop N ok.tables j l).to_low

  pub led : Led w h all
  led r l =
      let k : r < record_count N = omega (arith, passes-are) in
      let a : from (record_at N r) < 65536 = omega (arith, (laws N Q ok).from_low r k, ok.tables.vertices_few) in
      let b : to (record_at N r) < 65536 = omega (arith, to_low r (numbered N r k), ok.tables.vertices_few) in
      subst (λ (x : Record). (from x < 65536) × (to x < 65536)) (sym (record_is r l)) (a, b)

  -- ---- what an offer asks of them
  rides : (i : ℕ) → i < length h / hop_size → Rides hop_size h i
  rides i l =
      let g = good-hop N ok.tables i (omega (arith, hops-are)) in
      let e : hop_at hop_size h i ≡ hop_at hop_size h i = refl in
      let same = hop-at hop_size v w h i l in
      let d = subst (λ (x : Hop). query.Query → x.departure ≤ x.arrival) same (λ z. g.rides) Q in
      record {
        departure = record {
          low = subst (λ (x : Hop). 2147483648 - 86400 ≤ x.departure) same g.departure-low;
          high = omega (arith, d, subst (λ (x : Hop). x.arrival ≤ 2147483648 + 172800) same g.arrival_high);
        };
        arrival = record {
          low = omega (arith, d, subst (λ (x : Hop). 2147483648 - 86400 ≤ x.departure) same g.departure-low);
          high = subst (λ (x : Hop). x.arrival ≤ 2147483648 + 172800) same g.arrival_high;
        };
        ordered = d;
      }

  pub sound : row.Sound w h all
  sound =
      record {
        counted = record { walks = omega arith; hops = omega arith; fits = wide };
        times = rides;
        distance = omega arith;
        arrival = record { low = omega (arith, ok.query.arrival_low); high = ok.query.arrival_high };
        speed = ok.query.speed_high;
        allowed = omega (arith, D-is, allowed-high ok.query);
      }

  -- ---- the seeds
  abbrev b : Lent
  b = record { vertices = v; walks = w; hops = h; hop_size = hop_size; held = []; settled = [] }

  e-is : asked N Q ≡ walk_at w Q.walk
  e-is = asked_is b Q ok

  pub from_is : ends.from ≡ (asked N Q).from
  from_is = ap (λ (x : Walk). x.from) (sym e-is)

  pub to_is : ends.to ≡ (asked N Q).to
  to_is = ap (λ (x : Walk). x.to) (sym e-is)

  back_is : ends.back.0 ≡ seed N Q (asked N Q).to
  unfolding back_of
  back_is =
      ap₂ (λ (t : Bool) (x : ℕ). cond t x none) (to-is-seed-as b Q ok) (to-ticks b Q ok) ∙ sym (seed-to N Q ok)

  near-is : ends.near.0 ≡ seed N Q (asked N Q).from
  near-is = from-ticks b Q ok ∙ sym (seed-from N Q ok)

  pub ends_low : (ends.from < 65536) × (ends.to < 65536) × (ends.from ≢ ends.to)
  ends_low =
      let r = road-ends b Q ok in
      (omega (arith, r.0, vertices-are, ok.tables.vertices_few), omega (arith, r.1, vertices-are, ok.tables.vertices_few), r.2)

  pub seed-is : (u : ℕ) → seed_of ends u ≡ seed N Q u
  unfolding seed_of
  seed-is u = go (ℕ_discrete ends.from u) (ℕ_discrete ends.to u)
    where
      go : Dec (ends.from ≡ u) → Dec (ends.to ≡ u) → cond (eqb ends.from u) ends.near.0 (cond (eqb ends.to u) ends.back.0 none) ≡ seed N Q u
      go (yes a) c = cond-true ends.near.0 _ (eq-eqb ends.from u a) ∙ near-is ∙ ap (seed N Q) (sym from_is ∙ a)
      go (no a) (yes c) =
          cond-false ends.near.0 _ (ne_eqb ends.from u a) ∙ cond-true ends.back.0 none (eq-eqb ends.to u c) ∙ back_is ∙ ap (seed N Q) (sym to_is ∙ c)
      go (no a) (no c) =
          cond-false ends.near.0 _ (ne_eqb ends.from u a)
          ∙ cond-false ends.back.0 none (ne_eqb ends.to u c)
          ∙ sym (seed-other N Q ok u (λ z. a (from_is ∙ sym z)) (λ z. c (to_is ∙ sym z)))

  -- ---- the tests
  offer-is : (r d : ℕ) → r < passes all → G.offer r d ≡ (network N Q).offer r d
  offer-is r d l = same-offer Q (record_of w h all r) d ∙ ap (λ (x : Record). offer Q x d) (record_is r l)

  -- what is offered from a figure f
  offered-is : (f : ℕ → ℕ) (r : ℕ) → r < passes all → G.offer r (f (G.to r)) ≡ (network N Q).offer r (f ((network N Q).to r))
  offered-is f r l = offer-is r (f (G.to r)) l ∙ ap (λ (x : Record). offer Q (record_at N r) (f (to x))) (record_is r l)

  module _ (list : List ℕ) (D : ℕ) where
    backed-is : (i : ℕ) → backed G list i ≡ backed (network N Q) list i
    unfolding backed
    backed-is i =
        let r = record_in list i in
        let f = far_before list i in
        backs-same G (network N Q) f f _ _ r (seed-is _) passes-are (λ l. (ap from (record_is r l), ap (λ (x : Record). f (to x)) (record_is r l), offered-is f r l))

    record-fair-is : (r : ℕ) → r < passes all → record_fair G list D r ≡ record_fair (network N Q) list D r
    record-fair-is r l =
        let f = far_listed list in
        sym (fair-is G D list r)
        ∙ fair-same G (network N Q) D f f r (ap (λ (x : Record). f (from x)) (record_is r l)) (ap (λ (x : Record). f (to x)) (record_is r l)) (offered-is f r l)
        ∙ fair-is (network N Q) D list r

    seed-fair-is : (u x : ℕ) → u ≡ x → seed_fair G list D u ≡ seed_fair (network N Q) list D x
    unfolding seed_fair
    seed-fair-is u x e = ap (no_better D (far_listed list u)) (seed-is u) ∙ ap (λ (y : ℕ). no_better D (far_listed list y) (seed N Q y)) e

  -- ---- 25 to 28 of the row are those of the tables
  module _ (list : List ℕ) where
    new_is : first_bad 25 (is_new G list) (size list) ≡ first_bad 25 (is_new (network N Q) list) (size list)
    new_is = ap (λ (n : ℕ). first_bad 25 (entry_ok 12 n none list) (size list)) (sym vertices-are)

    bought-is : bought_refusal G (allowed Q) list ends.from ends.to ≡ vendor_refusal N Q list
    unfolding bought_refusal
    bought-is =
        let D = allowed Q in
        ap₂ or_else new_is
        (ap (or_else (first_bad 26 (in_time D list) (size list)))
        (ap₂ or_else (bad-same 27 (backed G list) (backed (network N Q) list) (size list) (λ i l. backed-is list D i))
        (ap₂ or_else (ap (λ (t : Bool). unless t 28 from_place) (seed-fair-is list D ends.from (asked N Q).from from_is))
        (ap₂ or_else (ap (λ (t : Bool). unless t 28 to_place) (seed-fair-is list D ends.to (asked N Q).to to_is))
        (bad-same 28 (record_fair G list D) (record_fair (network N Q) list D) (passes all) (record-fair-is list D)
        ∙ ap (first_bad 28 (record_fair (network N Q) list D)) passes-are)))))

    -- the refusal that the code tells of the row, with the seeds and the D that it has read
    pub list-told : (x : Refusal) (e : Seeds) → e ≡ ends → x ≡ bought_refusal (net_of (length v / 12) w h all e) most list e.from e.to → x ≡ vendor_refusal N Q list
    list-told x e p t =
        t
        ∙ ap (λ (y : Seeds). bought_refusal (net_of (length v / 12) w h all y) most list y.from y.to) p
        ∙ ap (λ (y : ℕ). bought_refusal G y list ends.from ends.to) D-is
        ∙ bought-is

  -- ---- what the callers need of the bytes
  pub vertices-low : length v / 12 ≤ 65536
  vertices-low = (road-small b Q ok).0

  pub road-low : (Q.walk < length w / 16) × (Q.offset ≤ (walk_at w Q.walk).len) × (Q.speed ≤ 100)
  road-low = road-fits b Q ok

  pub seeds-low : (r : Road) → r ≡ road → (r.walk < length w / 16) × (from_ticks_of r ≤ 112000) × (to_ticks_of r ≤ 112000)
  seeds-low r e =
      let s = road-small b Q ok in
      subst (λ (x : Road). (x.walk < length w / 16) × (from_ticks_of x ≤ 112000) × (to_ticks_of x ≤ 112000)) (sym e) (s.1, s.2, s.3)

  pub ends-needed : (e : Seeds) → e ≡ ends → (e.from < 65536) × (e.to < 65536) × (e.from ≢ e.to)
  ends-needed e p = subst (λ (x : Seeds). (x.from < 65536) × (x.to < 65536) × (x.from ≢ x.to)) (sym p) ends_low
