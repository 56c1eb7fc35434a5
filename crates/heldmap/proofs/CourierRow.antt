-- The stretch of a vertex in the right list is the row of the courier's network there. Assumes nothing.
use mathlib.Core.Path.{◌≡◌, refl, sym, ap, subst, ◌∙◌}
use mathlib.Core.Logic.{◌⊎◌, inl, inr, ◌≢◌}
use mathlib.Core.Bool.{true}
use mathlib.Core.List.{List}
use Prim.Native.Nat.{ℕ, suc, ◌+◌, ◌-◌, ◌*◌, ◌/◌, ◌≤◌, ◌<◌, min}
use native.Mathlib.Omega.{arith}
use lib.Dec.{ltb}
use lib.ListN.{length, take, drop, get_or, length-take, length-drop}
use lib.Seq.{get_or-take, get_or-drop}
use Rattle.journeys.specs.Bytes.{be32, clocked}
use Rattle.journeys.specs.Counting.{none, count}
use Rattle.journeys.specs.Tables.{Tables, walk, hop, vertex_count, walk_count, hop_count, tables_of, vertex_at, hop_at}
use Rattle.journeys.specs.Query.{Query, allowed}
use Rattle.journeys.specs.Network.{Network}
use Rattle.journeys.specs.Records.{Record, walked, ridden, record_at, record_count}
use Rattle.journeys.specs.Records as records
use Rattle.journeys.specs.CourierRecords as courier
use Rattle.journeys.specs.Valid.{Valid}
use Rattle.journeys.proofs.Counting.{count_most}
use Rattle.journeys.proofs.Decoding.{vertex-count, walk-count, hop-count, hop-at}
use Rattle.journeys.proofs.Valid.{good-hop, allowed-high}
use Rattle.journeys.proofs.Fits.{Within}
use Rattle.journeys.proofs.CourierDocument as sent
use Rattle.journeys.proofs.CourierFits.{offer-fits, arriving-stretch}
use Rattle.journeys.proofs.Held.{departs}
use Rattle.records.specs.Arriving.{first_of, end_of, run}
use Rattle.records.specs.declared.Kind.TheVariants.{Walks, Hops}
use Rattle.words.specs.Quantities.{DayTime}
use Rattle.words.specs.declared.Seconds.{Seconds}
use Rattle.listing.specs.Places.{total, from_of, below, same, rank}
use Rattle.listing.proofs.PlaceLaws.{same-before, below_next, below-most}
use Rattle.listing.proofs.Froms.{total-is, from_is}
use Rattle.stretches.specs.Stretch.{Right, stretch_of}
use Rattle.stretches.specs.declared.Stretch.{Stretch}
use Rattle.stretches.proofs.Numbers.{stretch-low, stretch-from, stretch-rises}
use Rattle.passing.specs.Row.{Row, asking, passes, Rides}
use Rattle.passing.specs.declared.Arriving.{Arriving}
use Rattle.directed.specs.Directed.{number_of, arrive_at, row_in, Listed, ListedSound, Near}
use Rattle.directed.specs.declared.Directed.{Directed}
use Rattle.directed.proofs.Meaning.{courier-near, courier-brings}
use Rattle.heldmap.specs.RowsOfTables.{numbers_at}
use Rattle.heldmap.proofs.ArrivingRun.{walk_first, walk_end, hop-first, hop-end}
use Rattle.heldmap.proofs.RowOfNetwork.{IsRow}

-- a number of a part of the list is a number of the list further on
part-word : (t : List ℕ) (at n k : ℕ) → k + 4 ≤ n → be32 (take n (drop at t)) k ≡ be32 t (at + k)
unfolding be32
part-word t at n k l =
    let b : (i : ℕ) → i < n → get_or (take n (drop at t)) i 0 ≡ get_or t (at + i) 0 = λ i h. get_or-take n (drop at t) i 0 h ∙ get_or-drop at t i 0 in
    let e1 : at + k + 1 ≡ at + (k + 1) = omega arith in
    let e2 : at + k + 2 ≡ at + (k + 2) = omega arith in
    let e3 : at + k + 3 ≡ at + (k + 3) = omega arith in
    rw (e1, e2, e3, b k (omega arith), b (k + 1) (omega arith), b (k + 2) (omega arith), b (k + 3) (omega arith))

-- an offer asks no more of a query than its departure and its speed
same-offer : (Q : Query) (x : Record) (d : ℕ) → courier.offer (asking Q.arrival Q.speed) x d ≡ courier.offer Q x d
unfolding courier.offer
same-offer Q (walked y) d = refl
same-offer Q (ridden y) d = refl

-- what arrives at u is what the firsts of the vertex table say
module _ (size : ℕ) (v w h : List ℕ) (Q : Query) (ok : Valid (tables_of size v w h) Q) (a : Directed) (ways : a.ways ≡ length w / 16) (rides : a.rides ≡ length h / size) where
  abbrev T : Tables
  T = tables_of size v w h

  pub due-arrives : (u : ℕ) → u < vertex_count T → arrive_at v a u ≡ departs (courier.network T Q) u
  unfolding arrive_at departs courier.arriving
  due-arrives u l =
      let low : u < length v / 12 = omega (arith, vertex-count size v w h) in
      let e = arriving-stretch T u in
      rw (ways, rides)
      (omega (
        arith,
        walk_first size v w h ok.tables u low,
        walk_end size v w h ok.tables u low,
        hop-first size v w h ok.tables u low,
        hop-end size v w h ok.tables u low,
        e,
        count_most (λ i. ltb (walk T i).to (suc u)) (walk_count T),
        count_most (λ j. ltb (hop T j).to (suc u)) (hop_count T),
        ok.tables.walks_few,
        ok.tables.hops_few,
      ))

module _ (size : ℕ) (wide : 16 ≤ size) (v w h list : List ℕ) (Q : Query) (ok : Valid (tables_of size v w h) Q) (right : Right (from_of size w h) (total size w h) list)
    (long : length list ≡ 4 * total size w h) (x d : ℕ) (near : d ≤ allowed Q) (A : Seconds) (clock : clocked A.0 ≡ Q.arrival) where
  abbrev N : Tables
  N = tables_of size v w h

  abbrev G : Network
  G = courier.network N Q

  abbrev F : ℕ → ℕ
  F = from_of size w h

  abbrev n : ℕ
  n = total size w h

  abbrev s : Stretch
  s = stretch_of size w h x

  abbrev l : List ℕ
  l = numbers_at list s

  abbrev a : Directed
  a = record {
    arriving = record {
      walks = s.many;
      hops = 0;
      size = size;
      distance = record { 0 = d };
      arrival = A;
      speed = Q.speed;
      allowed = record { 0 = allowed Q };
    };
    courier = true;
    ways = length w / 16;
    rides = length h / size;
  }

  abbrev R : Row
  R = row_in v w h l a

  -- the stretch is as long as there are records that leave x
  pub many : passes a.arriving ≡ same F x n
  many = omega arith

  pub inside : s.first + passes a.arriving ≤ n
  inside = omega (arith, many, below_next F x n, below-most F (suc x) n)

  long-here : length l ≡ 4 * passes a.arriving
  unfolding numbers_at run
  long-here = simp (length-take, length-drop) (omega (arith, inside, long))

  -- number j of the stretch
  stands : (j : ℕ) → j < passes a.arriving → number_of l j ≡ be32 list (4 * (below F x n + j))
  unfolding numbers_at run
  stands j k =
      let e : 4 * below F x n + 4 * j ≡ 4 * (below F x n + j) = omega arith in
      part-word list (4 * below F x n) (4 * (s.first + s.many) - 4 * s.first) (4 * j) (omega arith) ∙ ap (be32 list) e

  at_low : (j : ℕ) → j < passes a.arriving → number_of l j < n
  at_low j k = omega (arith, stands j k, stretch-low right x j (omega (arith, many)))

  at_from : (j : ℕ) → j < passes a.arriving → F (number_of l j) ≡ x
  at_from j k = ap F (stands j k) ∙ stretch-from right x j (omega (arith, many))

  listed : Listed w h l a
  listed =
      record {
        list = omega (arith, long-here);
        walks = omega arith;
        hops = λ j k m. omega (arith, at_low j k);
        fits = wide;
      }

  -- The stretch is the row of the courier's network at x.
  pub is_row : IsRow G x d R (passes a.arriving)
  is_row =
      record {
        number = number_of l;
        ascends = λ j k. omega (arith, stands j (omega arith), stands (suc j) k, stretch-rises right x j (suc j) (omega arith) (omega (arith, many)));
        low = low;
        leads = λ j k. from_is size v w h (number_of l j) (at_low j k) ∙ at_from j k;
        elsewhere = elsewhere;
        from = λ j k. courier-near v w h l a listed refl j k Q refl;
        offer = λ j k.
            courier-brings v w h l a listed refl j k refl
            ∙ ap (λ (t : ℕ). courier.offer (asking t Q.speed) (record_at N (number_of l j)) d) clock
            ∙ same-offer Q (record_at N (number_of l j)) d;
        small = λ j k. small (offer-fits N Q ok (number_of l j) d (low j k) near);
        departing = due-arrives size v w h Q ok a refl refl;
        allowed = refl;
      }
    where
      low : (j : ℕ) → j < passes a.arriving → number_of l j < record_count N
      low j k = omega (arith, at_low j k, total-is size v w h)

      small : {z : ℕ} → Within 17280000 z → z ≤ none
      small (inl e) = omega arith
      small (inr e) = omega arith

      -- a record that leaves x stands in the stretch
      elsewhere : (k : ℕ) → k < record_count N → ((j : ℕ) → j < passes a.arriving → number_of l j ≢ k) → records.from (record_at N k) ≢ x
      elsewhere k kl q e =
          let kn : k < n = omega (arith, kl, total-is size v w h) in
          let f : F k ≡ x = sym (from_is size v w h k kn) ∙ e in
          let j : same F x k < same F x n = same-before F x k n kn f in
          let jl : same F x k < passes a.arriving = omega (arith, many) in
          q (same F x k) jl (stands (same F x k) jl ∙ ap (λ (u : ℕ). be32 list (4 * (below F u n + same F u k))) (sym f) ∙ right.stands k kn)

  -- ---- what a row has to be
  pub sound : ListedSound w h l a
  sound =
      record {
        listed = listed;
        times = λ j k m. rides (number_of l j - a.ways) (listed.hops j k m);
        distance = omega (arith, near, allowed-high ok.query);
        arrival = rw clock (record { low = omega (arith, ok.query.arrival_low); high = ok.query.arrival_high });
        speed = ok.query.speed_high;
        allowed = omega (arith, allowed-high ok.query);
      }
    where
      rides : (i : ℕ) → i < length h / size → Rides size h i
      rides i k =
          let g = good-hop N ok.tables i (omega (arith, hop-count size v w h)) in
          let e = hop-at size v w h i k in
          record {
            departure = subst (λ y. DayTime y.departure) e (record { low = g.departure-low; high = omega (arith, g.rides, g.arrival_high) });
            arrival = subst (λ y. DayTime y.arrival) e (record { low = omega (arith, g.rides, g.departure-low); high = g.arrival_high });
            ordered = subst (λ y. y.departure ≤ y.arrival) e (omega (arith, g.rides));
          }

  pub ends : Near v w h l a
  ends =
      record {
        vertices = omega (arith, ok.tables.vertices_few, vertex-count size v w h);
        low = λ j k.
            rw (is_row.from j k) (rw (vertex-count size v w h) at ((sent.laws N Q ok).from_low (is_row.number j) (is_row.low j k)));
      }
