-- Where the run stands, for the order of settling whichever list that is: what a step asks and what it leads to. Assumes nothing.
use Rattle.std.specs.Prelude.{Option, Some, None, Result, Ok, Err, is_some}
use Rattle.words.specs.Told.{number_of}
use Rattle.words.specs.Refusal.{Refusal}
use mathlib.Core.Path.{◌≡◌, refl, sym, ap, subst, ◌∙◌}
use mathlib.Core.Bool.{Bool, true, false, not}
use mathlib.Core.List.{List}
use Prim.Native.Nat.{ℕ, suc, ◌+◌, ◌/◌, ◌≤◌, ◌<◌}
use native.Mathlib.Omega.{arith}
use mir.Syntax.{w8}
use mir.Val.{Fits}
use lib.ListN.{length, get_or, take, replicate, length-take, length-replicate}
use borrow.Author.Tests.{le-leb, lt-leb}
use Rattle.journeys.specs.Bytes.{clocked}
use Rattle.journeys.specs.Tables.{Tables, vertex_count, tables_of}
use Rattle.journeys.specs.Query as query
use Rattle.journeys.specs.Query.{allowed}
use Rattle.journeys.specs.Order.{Settled}
use Rattle.journeys.specs.Network.{Network, distance_in}
use Rattle.journeys.specs.Valid.{Valid}
use Rattle.journeys.proofs.Decoding.{vertex-count}
use Rattle.journeys.proofs.Ways.{Ways}
use Rattle.journeys.proofs.Told.{order_of, order_is, order-size, all_settled}
use Rattle.words.specs.declared.Seconds.{Seconds}
use Rattle.worktable.specs.Map.{Map, absent, Foremost, Waits}
use Rattle.worktable.specs.Table.{map_of, InOrder, Place}
use Rattle.worktable.specs.declared.Nearest.{Nearest}
use Rattle.worktable.specs.declared.Table.{Table}
use Rattle.passing.specs.Row.{Row, passes}
use Rattle.listing.specs.Places.{Sound}
use Rattle.listing.proofs.Froms.{sound}
use Rattle.stretches.specs.declared.Stretch.{Stretch}
use Rattle.directed.specs.declared.Directed.{Directed}
use Rattle.meeting.specs.Passing.{passed, Enough}
use Rattle.heldmap.specs.Directions.{network_in, distance_for}
use Rattle.heldmap.specs.Model.{Standing, held_map, settled_now}
use Rattle.heldmap.specs.RowsOfTables.{Lists, stretch_in, directed_at, row_on}
use Rattle.stepping.specs.Taken.{NextIs, StepIs, Begins, StepMade}
use Rattle.steps.specs.Running.{WaitsIs, Running, Short, EndedIs, OrderIn, Stands, Ends}
use Rattle.stepping.specs.declared.Progress.{Progress}
use Rattle.heldmap.proofs.ArrivingRun.{standing}
use Rattle.heldmap.proofs.HeldMap.{beyond-none, none-waits}
use Rattle.heldmap.proofs.RowOfNetwork.{IsRow}
use Rattle.heldmap.proofs.RowsInDirection.{row_in, passable-in, near-in, stretch-in, few-in}
use Rattle.heldmap.proofs.StepIsNext.{Searched, one_further, next_low, enough-next}
use Rattle.heldmap.proofs.Directions.{ways_in, searched}
use Rattle.steps.proofs.RunningNext.{onward, onward-short}

-- what `waits` has from `next`
pub waits-if : (t : Table) (b : List ℕ) (D : ℕ) (r : Option Nearest) → NextIs t b D r → WaitsIs t b D (is_some r)
unfolding WaitsIs
waits-if t b D (Some x) h = (x, h)
waits-if t b D None h = h

module _ (c : Bool) (N : Tables) (held_long settled_long : ℕ) (Q : query.Query) (ok : Valid N Q) (p : Progress) (held settled : List ℕ) (H : Stands c N held_long settled_long Q p held settled) where
  abbrev G : Network
  G = network_in c N Q

  abbrev W : Ways
  W = ways_in c N Q

  abbrev far : ℕ → ℕ → Type 0
  far = distance_for c N Q

  network-searched : Searched G W far
  network-searched = searched c N Q ok

  -- the order is there, so the run stands somewhere
  order : List Settled
  order = order_of G W far network-searched.told

  order-here : OrderIn c N Q order
  unfolding order
  order-here = order_is G W far network-searched.told

  stand : Running G (replicate held_long 0) (replicate settled_long 0) order p held settled
  unfolding Stands
  stand = H (replicate held_long 0) (replicate settled_long 0) (length-replicate {A = ℕ} held_long 0) (length-replicate {A = ℕ} settled_long 0) order order-here

  pub table-order : InOrder p.table held
  table-order = stand.table.order

  -- the count fits
  pub counts-fit : (p.settled ≤ length settled / 8) × (p.settled < 4294967295)
  counts-fit =
      let room = stand.room p.settled (let z : p.settled ≤ p.settled = omega arith in z) in
      let long : length (take p.settled order) ≡ p.settled = omega (arith, length-take p.settled order, stand.made) in
      let most = order-size G W far network-searched.told order-here in
      (omega (arith, room.1, long, stand.long), omega (arith, stand.made, most, ok.tables.vertices_few))

  -- Nothing waits within D: the whole order is settled.
  pub whole : (limit : ℕ) → p.settled ≤ limit → NextIs p.table held (allowed Q) None → Ends c N held_long settled_long Q limit held settled (Ok (record { progress = p; finished = true }))
  unfolding Stands Ends EndedIs NextIs
  whole limit below n x y a b l O =
      let R = H x y a b l O in
      let waits : (u e : ℕ) → Waits (held_map G (distance_in (take p.settled l))) u e → allowed Q < e = λ u e w. n u e (subst (λ (m : Map). Waits m u e) (sym R.table.map) w) in
      let all : length l ≤ p.settled =
      (all_settled G W far network-searched.told O p.settled).0
      (none-waits G (distance_in (take p.settled l)) network-searched.bounded network-searched.told.few waits) in
      record { running = R; steps = omega (arith, R.made); finished_is = sym (le-leb (length l) p.settled all) }

  module _ (s x d : ℕ) (n : NextIs p.table held (allowed Q) (Some record { slot = s; vertex = x; distance = d })) where
    pub place : Place p.table held x s
    unfolding NextIs
    place = n.0

    pub front : Foremost (map_of p.table held) x d
    unfolding NextIs
    front = n.1

    pub near : d ≤ allowed Q
    unfolding NextIs
    near = n.2

    ahead : {y z : List ℕ} {l : List Settled} → Running G y z l p held settled → Foremost (held_map G (distance_in (take p.settled l))) x d
    ahead R = subst (λ (m : Map). Foremost m x d) R.table.map front

    -- The limit is reached while a vertex waits within D.
    pub more_left : (limit : ℕ) → p.settled ≡ limit → Ends c N held_long settled_long Q limit held settled (Ok (record { progress = p; finished = false }))
    unfolding Stands Ends EndedIs
    more_left limit e y z a b l O =
        let R = H y z a b l O in
        let f = one_further G W far network-searched O p.settled R.made x d (ahead R) near in
        record { running = R; steps = omega (arith, f.0); finished_is = sym (lt-leb (length l) p.settled f.0) }

    pub x-low : x < vertex_count N
    x-low = next_low G W far network-searched order-here p.settled stand.made x d (ahead stand) near

    pub inside : (u : ℕ) → vertex_count N ≤ u → map_of p.table held u ≡ absent
    inside u l = ap (λ (m : Map). m u) stand.table.map ∙ beyond-none G (distance_in (take p.settled order)) network-searched.bounded u l

    -- the records of the network that lead to x, as a row
    module _ (R : Row) (m : ℕ) (I : IsRow G x d R m) where
      pub enough : Enough R m (settled_now (map_of p.table held) x)
      enough =
          subst (λ (z : Map). Enough R m (settled_now z x)) (sym stand.table.map)
          (enough-next G W far network-searched order-here p.settled stand.made x d (ahead stand) near R m I)

      abbrev M : Map
      M = passed R m (settled_now (map_of p.table held) x)

      module _ (held' settled' : List ℕ) where
        pub one-counted : (q : Progress) → StepIs p M x d held' settled settled' (Ok q) → q.settled ≡ p.settled + 1
        unfolding StepIs
        one-counted q T = T.count

        pub stands_on : (q : Progress) → StepIs p M x d held' settled settled' (Ok q) → Stands c N held_long settled_long Q q held' settled'
        unfolding Stands StepIs
        stands_on q T y z a b l O = onward G W far network-searched ok.tables.vertices_few O y z p held settled (H y z a b l O) x d front near R m I held' settled' q T

        pub stops : (limit : ℕ) (why : Refusal) → p.settled < limit → StepIs p M x d held' settled settled' (Err why) → Ends c N held_long settled_long Q limit held' settled' (Err why)
        unfolding Stands StepIs Ends EndedIs
        stops limit why below T y z a b l O =
            subst (λ (j : ℕ). Short G y z l limit (number_of why.reason) j) (let e : suc p.settled ≡ why.place = omega (arith, T.1) in e)
            (onward-short G W far network-searched ok.tables.vertices_few O y z p held settled (H y z a b l O) x d front near R m I held' settled' limit (number_of why.reason) below T.0)

  -- The limit is reached, and `waits` tells whether a vertex waits within D.
  module _ (D : ℕ) (q : D ≡ allowed Q) (r : Bool) (K : WaitsIs p.table held D r) (limit : ℕ) where
    some-wait : p.settled ≡ limit → r ≡ true → Ends c N held_long settled_long Q limit held settled (Ok (record { progress = p; finished = false }))
    unfolding WaitsIs
    some-wait e t =
        let n = subst (λ (z : ℕ). WaitsIs p.table held z true) q (subst (WaitsIs p.table held D) t K) in
        more_left n.0.slot n.0.vertex n.0.distance n.1 limit e

    none-wait : p.settled ≤ limit → r ≡ false → Ends c N held_long settled_long Q limit held settled (Ok (record { progress = p; finished = true }))
    unfolding WaitsIs
    none-wait below t = whole limit below (subst (λ (z : ℕ). WaitsIs p.table held z false) q (subst (WaitsIs p.table held D) t K))

    pub at_limit : p.settled ≡ limit → Ends c N held_long settled_long Q limit held settled (Ok (record { progress = p; finished = not r }))
    at_limit e = go r refl
      where
        go : (y : Bool) → r ≡ y → Ends c N held_long settled_long Q limit held settled (Ok (record { progress = p; finished = not y }))
        go true t = some-wait e t
        go false t = none-wait (omega arith) t

-- ---- the row as it is read from the tables
-- in the code's way: from the stretch as it was found, and D as it was worked out
pub row_is : (c : Bool) (size : ℕ) (v w h : List ℕ) (x d : ℕ) (A : Seconds) (speed : ℕ) {D D' : ℕ} {s t : Stretch} {a : Directed} → D ≡ D' → s ≡ t → a ≡ directed_at c size v w h s x d A speed D → a ≡ directed_at c size v w h t x d A speed D'
row_is c size v w h x d A speed {D} {D'} {s} {t} q e f = f ∙ ap (λ (y : Stretch). directed_at c size v w h y x d A speed D) e ∙ ap (directed_at c size v w h t x d A speed) q

module _ (c : Bool) (size : ℕ) (wide : 16 ≤ size) (v w h list : List ℕ) (lists : Lists c size w h list) (held_long settled_long : ℕ) (Q : query.Query) (ok : Valid (tables_of size v w h) Q) (p : Progress) (held settled : List ℕ)
    (H : Stands c (tables_of size v w h) held_long settled_long Q p held settled) (s x d : ℕ) (n : NextIs p.table held (allowed Q) (Some record { slot = s; vertex = x; distance = d })) where
  abbrev T : Tables
  T = tables_of size v w h

  low : x < length v / 12
  low = rw (vertex-count size v w h) at (x-low c T held_long settled_long Q ok p held settled H s x d n)

  -- its arriving records are a run of each table
  pub run_fits : Standing size v w h x
  run_fits = standing size v w h ok.tables x low

  -- and its stretch may be searched for
  pub may-find : Lists c size w h list × Sound size v w h × (x < length v / 12)
  may-find = (lists, sound size v w h ok.tables (omega arith), omega (arith, low, vertex-count size v w h))

  module _ (A : Seconds) (clock : clocked A.0 ≡ Q.arrival) where
    abbrev stretch : Stretch
    stretch = stretch_in c size w h x

    abbrev r : Directed
    r = directed_at c size v w h stretch x d A Q.speed (allowed Q)

    abbrev R : Row
    R = row_on c size v w h list x r

    close : d ≤ allowed Q
    close = near c T held_long settled_long Q ok p held settled H s x d n

    pub row_here : IsRow (network_in c T Q) x d R (passes r.arriving)
    row_here = row_in size wide v w h list Q ok x d low close A clock c lists

    may-pass : Enough R (passes r.arriving) (settled_now (map_of p.table held) x)
    may-pass = enough c T held_long settled_long Q ok p held settled H s x d n R (passes r.arriving) row_here

    -- the step may begin
    pub begins : ((i : ℕ) → Fits w8 (get_or v i 0)) → Begins v w h list x s stretch r p.table held
    unfolding directed_at
    begins bytes =
        let f = front c T held_long settled_long Q ok p held settled H s x d n in
        record {
          order = table-order c T held_long settled_long Q ok p held settled H;
          place = place c T held_long settled_long Q ok p held settled H s x d n;
          unsettled = f.waits.unsettled;
          some = omega (arith, f.waits.at, f.waits.some);
          standing = run_fits;
          wide = wide;
          stretch = stretch-in size wide v w h list Q ok x d low close A clock c lists;
          sound = passable-in size wide v w h list Q ok x d low close A clock c lists;
          near = near-in size wide v w h list Q ok x d low close A clock c lists;
          enough = may-pass;
          few = few-in size wide v w h list Q ok x d low close A clock bytes c lists (settled_now (map_of p.table held) x) may-pass;
          inside = λ u b. inside c T held_long settled_long Q ok p held settled H s x d n u (omega (arith, b, vertex-count size v w h));
        }

    pub begins-as : ((i : ℕ) → Fits w8 (get_or v i 0)) → (t : Stretch) → t ≡ stretch → (a : Directed) → a ≡ r → Begins v w h list x s t a p.table held
    begins-as bytes t e a f = subst (λ (y : Stretch). Begins v w h list x s y a p.table held) (sym e) (subst (λ (z : Directed). Begins v w h list x s stretch z p.table held) (sym f) (begins bytes))

    -- one step, with the row written in the code's way
    pub step-as : (held' settled' : List ℕ) (t : Stretch) → t ≡ stretch → (a : Directed) → a ≡ r → (y : Result Progress Refusal) → StepMade v w h list x t a p held held' settled settled' y
        → StepIs p (passed R (passes r.arriving) (settled_now (map_of p.table held) x)) x d held' settled settled' y
    unfolding directed_at
    step-as held' settled' t e a f y S =
        subst (λ (z : Stretch). StepMade v w h list x z r p held held' settled settled' y) e (subst (λ (z : Directed). StepMade v w h list x t z p held held' settled settled' y) f S)
