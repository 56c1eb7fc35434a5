-- The run of the records that arrive at a vertex is the row of the network there. Assumes nothing.
use mathlib.Core.Path.{◌≡◌, refl, sym, ap, subst, ◌∙◌}
use mathlib.Core.Logic.{◌⊎◌, inl, inr, ⊎_elim, ◌≢◌}
use mathlib.Core.Bool.{cond}
use mathlib.Core.List.{List}
use Prim.Native.Nat.{ℕ, suc, ◌+◌, ◌-◌, ◌/◌, ◌≤◌, ◌<◌}
use native.Mathlib.Omega.{arith}
use lib.Dec.{ltb}
use lib.ListN.{length}
use borrow.Author.Tests.{lt-ltb, le-ltb}
use Rattle.journeys.specs.Bytes.{clocked}
use Rattle.journeys.specs.Counting.{none}
use Rattle.journeys.specs.Tables.{Tables, vertex, walk, hop, vertex_count, walk_count, hop_count, tables_of, vertex_at, walk_at, hop_at}
use Rattle.journeys.specs.Query.{Query, allowed}
use Rattle.journeys.specs.Network.{Network}
use Rattle.journeys.specs.Records as records
use Rattle.journeys.specs.Records.{Record, walked, ridden, record_at, record_count, offer, departing}
use Rattle.journeys.proofs.Tests.{cond-true, cond-false, le-or-lt}
use Rattle.journeys.proofs.Decoding.{walk_at_lem, hop-at, vertex-at, vertex-count, walk-count, hop-count}
use Rattle.journeys.proofs.Valid.{good-hop, allowed-high}
use Rattle.journeys.specs.Valid.{Valid}
use Rattle.journeys.proofs.Document.{laws, walk-record, hop-record}
use Rattle.journeys.proofs.Fits.{offer-fits, Fits}
use Rattle.journeys.proofs.Held.{departs}
use Rattle.records.specs.Arriving.{first_of, end_of}
use Rattle.words.specs.Quantities.{DayTime}
use Rattle.records.specs.declared.Kind.TheVariants.{Walks, Hops}
use Rattle.words.specs.declared.Seconds.{Seconds}
use Rattle.records.specs.Columns.{records_in}
use Rattle.records.proofs.Sizes.{as_many}
use Rattle.records.proofs.Runs.{length_run, run-walk, run-hop}
use Rattle.passing.specs.Row.{Row, asking, passes, record_of, Rides, Sound, Leaves}
use Rattle.passing.specs.declared.Arriving.{Arriving}
use Rattle.heldmap.specs.Model.{walks_at, hops_at, row_at}
use Rattle.heldmap.proofs.ArrivingRun as arriving
use Rattle.heldmap.proofs.ArrivingRun.{up-walk, up-hop, walk-run, hop-run, good-vertex}
use Rattle.heldmap.proofs.RowOfNetwork.{IsRow}

-- the records that leave a vertex are those that its field counts
pub departs-field : (N : Tables) (Q : Query) (u : ℕ) → departs (records.network N Q) u ≡ departing N u
unfolding departs departing
departs-field N Q u = refl

-- what leaves u is what the vertex table says
pub due-departs : (size : ℕ) (v w h : List ℕ) (Q : Query) → Valid (tables_of size v w h) Q → (u : ℕ) → u < vertex_count (tables_of size v w h) → (vertex_at v u).departing ≡ departs (records.network (tables_of size v w h) Q) u
due-departs size v w h Q ok u l =
    let N = tables_of size v w h in
    ap (λ z. z.departing) (sym (vertex-at size v w h u (rw (vertex-count size v w h) at l))) ∙ (good-vertex N ok.tables u l).departs ∙ sym (departs-field N Q u)

-- an offer asks no more of a query than its arrival and its speed
pub same-offer : (Q : Query) (x : Record) (d : ℕ) → offer (asking Q.arrival Q.speed) x d ≡ offer Q x d
unfolding offer
same-offer Q (walked y) d = refl
same-offer Q (ridden y) d = refl

module _ (size : ℕ) (wide : 16 ≤ size) (v w h : List ℕ) (Q : Query) (ok : Valid (tables_of size v w h) Q) (x d : ℕ) (low : x < length v / 12) (near : d ≤ allowed Q) (A : Seconds) (clock : clocked A.0 ≡ Q.arrival) where
  abbrev N : Tables
  N = tables_of size v w h

  abbrev G : Network
  G = records.network N Q

  abbrev r : Arriving
  r = record {
    walks = end_of Walks v (length w / 16) x - first_of Walks (vertex_at v x);
    hops = end_of Hops v (length h / size) x - first_of Hops (vertex_at v x);
    size = size;
    distance = record { 0 = d };
    arrival = A;
    speed = Q.speed;
    allowed = record { 0 = allowed Q };
  }

  -- the first walk and the first hop that arrive at x
  abbrev fw : ℕ
  fw = first_of Walks (vertex_at v x)

  abbrev fh : ℕ
  fh = first_of Hops (vertex_at v x)

  abbrev R : Row
  R = row_at v w h x r

  wr : arriving.Run (λ i. (walk N i).to) (walk_count N) (up-walk N ok.tables) x (first_of Walks (vertex_at v x)) (end_of Walks v (length w / 16) x)
  wr = walk-run size v w h ok.tables x low

  hr : arriving.Run (λ j. (hop N j).to) (hop_count N) (up-hop N ok.tables) x (first_of Hops (vertex_at v x)) (end_of Hops v (length h / size) x)
  hr = hop-run size v w h ok.tables x low

  -- ---- record j of the run, by its number in the network
  walks-in : end_of Walks v (length w / 16) x ≤ records_in 16 w
  walks-in = omega (arith, wr.fit, walk-count size v w h)

  hops-in : end_of Hops v (length h / size) x ≤ records_in size h
  hops-in = omega (arith, hr.fit, hop-count size v w h)

  walk-part : (j : ℕ) → j < r.walks → walk_at (walks_at v w x) j ≡ walk_at w (fw + j)
  unfolding walks_at
  walk-part j l = run-walk w fw (end_of Walks v (length w / 16) x) wr.order walks-in j l

  hop-part : (j : ℕ) → j < r.hops → hop_at size (hops_at size v h x) j ≡ hop_at size h (fh + j)
  unfolding hops_at
  hop-part j l = run-hop size wide h fh (end_of Hops v (length h / size) x) hr.order hops-in j l

  walk_of : (j : ℕ) → j < r.walks → record_of (walks_at v w x) (hops_at size v h x) r j ≡ record_at N (fw + j)
  unfolding record_of
  walk_of j l =
      let i : fw + j < walk_count N = omega (arith, wr.order, wr.fit) in
      cond-true _ _ (lt-ltb j r.walks l) ∙ ap walked (walk-part j l) ∙ ap walked (sym (walk_at_lem size v w h (fw + j) (rw (walk-count size v w h) at i))) ∙ sym (walk-record N (fw + j) i)

  hop-of : (i : ℕ) → i < r.hops → record_of (walks_at v w x) (hops_at size v h x) r (r.walks + i) ≡ record_at N (walk_count N + (fh + i))
  unfolding record_of
  hop-of i l =
      let k : fh + i < hop_count N = omega (arith, hr.order, hr.fit) in
      let e : (r.walks + i) - r.walks ≡ i = omega arith in
      cond-false _ _ (le-ltb (r.walks + i) r.walks (omega arith))
      ∙ ap (λ (z : ℕ). ridden (hop_at size (hops_at size v h x) z)) e
      ∙ ap ridden (hop-part i l)
      ∙ ap ridden (sym (hop-at size v w h (fh + i) (rw (hop-count size v w h) at k)))
      ∙ sym (hop-record N (fh + i))

  offer-of : (y : Record) → offer (asking (clocked A.0) Q.speed) y d ≡ offer Q y d
  offer-of y = ap (λ (a : ℕ). offer (asking a Q.speed) y d) clock ∙ same-offer Q y d

  walk-to : (i : ℕ) → i < walk_count N → G.to i ≡ (walk N i).to
  walk-to i l = ap records.to (walk-record N i l)

  hop-to : (j : ℕ) → G.to (walk_count N + j) ≡ (hop N j).to
  hop-to j = ap records.to (hop-record N j)

  -- ---- the numbers of the run: its walks, and then its hops
  number : ℕ → ℕ
  number j = cond (ltb j r.walks) (fw + j) (walk_count N + (fh + (j - r.walks)))

  -- record j of the run in one of the two tables
  data Numbering (j : ℕ) : Type 0 where
    as-walk : fw + j < walk_count N → fw + j < end_of Walks v (length w / 16) x → number j ≡ fw + j → record_of (walks_at v w x) (hops_at size v h x) r j ≡ record_at N (number j) → j < r.walks → Numbering j
    as-hop : (i : ℕ) → fh + i < hop_count N → fh + i < end_of Hops v (length h / size) x → number j ≡ walk_count N + (fh + i) → record_of (walks_at v w x) (hops_at size v h x) r j ≡ record_at N (number j) → j ≡ r.walks + i → Numbering j

  numbering : (j : ℕ) → j < passes r → Numbering j
  unfolding number
  numbering j l =
      ⊎_elim
      (λ (q : r.walks ≤ j).
      let e : r.walks + (j - r.walks) ≡ j = omega arith in
      let n : number j ≡ walk_count N + (fh + (j - r.walks)) = cond-false _ _ (le-ltb j r.walks q) in
      as-hop (j - r.walks) (omega (arith, hr.order, hr.fit)) (omega (arith, hr.order)) n
      (ap (record_of (walks_at v w x) (hops_at size v h x) r) (sym e) ∙ hop-of (j - r.walks) (omega arith) ∙ ap (record_at N) (sym n)) (omega arith))
      (λ (q : j < r.walks).
      let n : number j ≡ fw + j = cond-true _ _ (lt-ltb j r.walks q) in
      as-walk (omega (arith, wr.order, wr.fit)) (omega (arith, wr.order)) n (walk_of j q ∙ ap (record_at N) (sym n)) q)
      (le-or-lt r.walks j)

  number-low : (j : ℕ) → j < passes r → number j < record_count N
  number-low j l = go (numbering j l)
    where
      go : Numbering j → number j < record_count N
      go (as-walk a b e o q) = omega arith
      go (as-hop i a b e o q) = omega arith

  of_number : (j : ℕ) → j < passes r → record_of (walks_at v w x) (hops_at size v h x) r j ≡ record_at N (number j)
  of_number j l = go (numbering j l)
    where
      go : Numbering j → record_of (walks_at v w x) (hops_at size v h x) r j ≡ record_at N (number j)
      go (as-walk a b e o q) = o
      go (as-hop i a b e o q) = o

  -- The run is the row of the network at x.
  pub is_row : IsRow G x d R (passes r)
  unfolding number
  is_row =
      record {
        number = number;
        ascends = λ j l. up j (numbering j (omega arith)) (numbering (suc j) l);
        low = number-low;
        leads = λ j l. leads j (numbering j l);
        elsewhere = λ k l q e. go-elsewhere k l q e (le-or-lt (walk_count N) k);
        from = λ j l. ap records.from (of_number j l);
        offer = λ j l. offer-of (record_of (walks_at v w x) (hops_at size v h x) r j) ∙ ap (λ (y : Record). offer Q y d) (of_number j l);
        small = λ j l. fits (offer-fits N Q ok (number j) d (number-low j l) near);
        departing = due-departs size v w h Q ok;
        allowed = refl;
      }
    where
      fits : {z : ℕ} → Fits z → z ≤ none
      fits (inl e) = omega arith
      fits (inr e) = omega arith

      up : (j : ℕ) → Numbering j → Numbering (suc j) → number j < number (suc j)
      up j (as-walk a b e o q) (as-walk a' b' e' o' q') = omega arith
      up j (as-walk a b e o q) (as-hop i' a' b' e' o' q') = omega arith
      up j (as-hop i a b e o q) (as-walk a' b' e' o' q') = absurd (let z : ⊥ = omega arith in z)
      up j (as-hop i a b e o q) (as-hop i' a' b' e' o' q') = omega arith

      leads : (j : ℕ) → Numbering j → G.to (number j) ≡ x
      leads j (as-walk a b e o q) = ap G.to e ∙ walk-to (fw + j) a ∙ wr.inside (fw + j) (omega arith) b
      leads j (as-hop i a b e o q) = ap G.to e ∙ hop-to (fh + i) ∙ hr.inside (fh + i) (omega arith) b

      -- a walk or a hop outside its run leads elsewhere, one inside has its number
      walk-elsewhere : (k : ℕ) → k < walk_count N → ((j : ℕ) → j < passes r → number j ≢ k) → (walk N k).to ≢ x
      walk-elsewhere k l q e =
          ⊎_elim
          (λ (a : fw ≤ k).
          ⊎_elim (λ (b : end_of Walks v (length w / 16) x ≤ k). wr.after k b l e)
          (λ (b : k < end_of Walks v (length w / 16) x). q (k - fw) (omega arith) (cond-true _ _ (lt-ltb (k - fw) r.walks (omega arith)) ∙ (let z : fw + (k - fw) ≡ k = omega arith in z)))
          (le-or-lt (end_of Walks v (length w / 16) x) k))
          (λ (a : k < fw). wr.before k a e)
          (le-or-lt fw k)

      hop-elsewhere : (i : ℕ) → i < hop_count N → ((j : ℕ) → j < passes r → number j ≢ walk_count N + i) → (hop N i).to ≢ x
      hop-elsewhere i l q e =
          ⊎_elim
          (λ (a : fh ≤ i).
          ⊎_elim (λ (b : end_of Hops v (length h / size) x ≤ i). hr.after i b l e)
          (λ (b : i < end_of Hops v (length h / size) x).
          q (r.walks + (i - fh)) (omega arith)
          (cond-false _ _ (le-ltb (r.walks + (i - fh)) r.walks (omega arith)) ∙ (let z : walk_count N + (fh + ((r.walks + (i - fh)) - r.walks)) ≡ walk_count N + i = omega arith in z)))
          (le-or-lt (end_of Hops v (length h / size) x) i))
          (λ (a : i < fh). hr.before i a e)
          (le-or-lt fh i)

      go-elsewhere : (k : ℕ) → k < record_count N → ((j : ℕ) → j < passes r → number j ≢ k) → G.to k ≡ x → (walk_count N ≤ k) ⊎ (k < walk_count N) → ⊥
      go-elsewhere k l q e (inl a) =
          let z : walk_count N + (k - walk_count N) ≡ k = omega arith in
          hop-elsewhere (k - walk_count N) (omega arith) (λ j jl n. q j jl (n ∙ z)) (sym (hop-to (k - walk_count N)) ∙ ap G.to z ∙ e)
      go-elsewhere k l q e (inr a) = walk-elsewhere k a q (sym (walk-to k a) ∙ e)

  -- ---- what a row has to be
  pub sound : Sound (walks_at v w x) (hops_at size v h x) r
  unfolding walks_at hops_at
  sound =
      record {
        counted = record {
          walks = omega (arith, length_run 16 (omega arith) w fw (end_of Walks v (length w / 16) x) wr.order walks-in);
          hops = rw (length_run size wide h fh (end_of Hops v (length h / size) x) hr.order hops-in, as_many size (end_of Hops v (length h / size) x - fh) (omega arith)) (omega arith);
          fits = wide;
        };
        times = λ i l. rides i l;
        distance = omega (arith, near, allowed-high ok.query);
        arrival = rw clock (record { low = omega (arith, ok.query.arrival_low); high = ok.query.arrival_high });
        speed = ok.query.speed_high;
        allowed = omega (arith, allowed-high ok.query);
      }
    where
      rides : (i : ℕ) → i < r.hops → Rides size (hops_at size v h x) i
      rides i l =
          let k : fh + i < hop_count N = omega (arith, hr.order, hr.fit) in
          let g = good-hop N ok.tables (fh + i) k in
          let e = hop-at size v w h (fh + i) (rw (hop-count size v w h) at k) ∙ sym (hop-part i l) in
          record {
            departure = subst (λ y. DayTime y.departure) e (record { low = g.departure-low; high = omega (arith, g.rides, g.arrival_high) });
            arrival = subst (λ y. DayTime y.arrival) e (record { low = omega (arith, g.rides, g.departure-low); high = g.arrival_high });
            ordered = subst (λ y. y.departure ≤ y.arrival) e (omega (arith, g.rides));
          }

  pub leaves : Leaves v (walks_at v w x) (hops_at size v h x) r
  leaves = record { vertices = omega (arith, ok.tables.vertices_few, vertex-count size v w h); low = λ j l. from_low j l }
    where
      from_low : (j : ℕ) → j < passes r → R.from j < length v / 12
      from_low j l = rw (ap records.from (of_number j l)) (rw (vertex-count size v w h) at ((laws N Q ok).from_low (number j) (number-low j l)))
