-- The row that is read from the tables is the row of the network, in either direction. Assumes nothing.
use mathlib.Core.Path.{◌≡◌, refl, subst, ◌∙◌}
use mathlib.Core.Bool.{Bool, true, false}
use mathlib.Core.List.{List}
use Prim.Native.Nat.{ℕ, ◌+◌, ◌*◌, ◌/◌, ◌≤◌, ◌<◌}
use native.Mathlib.Omega.{arith}
use mir.Syntax.{w8}
use mir.Val.{Fits}
use lib.Dec.{eqb}
use lib.ListN.{length, get_or}
use borrow.Author.Tests.{lt-ltb}
use Rattle.journeys.specs.Bytes.{be16, clocked}
use Rattle.journeys.specs.Tables.{vertex_at, vertex_count, tables_of}
use Rattle.journeys.specs.Query.{Query, allowed}
use Rattle.journeys.specs.Valid.{Valid}
use Rattle.journeys.proofs.Tests.{never, cond-true, cond-false}
use Rattle.journeys.proofs.Counting.{count_most}
use Rattle.journeys.proofs.Held as held
use Rattle.starts.specs.Sums.{departing_of}
use Rattle.listing.proofs.Froms.{departs}
use Rattle.worktable.specs.Map.{Entry, Map}
use Rattle.meeting.specs.Passing.{left, leaving, Enough, Few}
use Rattle.words.specs.declared.Seconds.{Seconds}
use Rattle.passing.specs.Row.{passes}
use Rattle.directed.specs.Directed.{due_of, Passable, Near}
use Rattle.directed.specs.declared.Directed.{Directed}
use Rattle.directed.proofs.Either.{ordinary-passable, ordinary-near}
use Rattle.heldmap.specs.Directions.{network_in}
use Rattle.heldmap.specs.RowsOfTables.{Lists, stretch_in, numbers_at, walks_in, hops_in, directed_at, row_on}
use Rattle.heldmap.proofs.RowOfNetwork.{IsRow}
use Rattle.heldmap.proofs.RunIsNetwork as ordinary
use Rattle.heldmap.proofs.CourierRow as courier

-- a departing field is two bytes
two_bytes : (v : List ℕ) → ((i : ℕ) → Fits w8 (get_or v i 0)) → (u : ℕ) → (vertex_at v u).departing < 65536
unfolding vertex_at be16
two_bytes v h u = omega (arith, h (12 * u + 8), h (12 * u + 8 + 1))

-- What is due to a vertex in all is what the network has.
pub due_in : (c : Bool) (size : ℕ) (v w h : List ℕ) (Q : Query) → Valid (tables_of size v w h) Q → (a : Directed) → a.courier ≡ c → a.ways ≡ length w / 16 → a.rides ≡ length h / size
    → (u : ℕ) → u < vertex_count (tables_of size v w h) → due_of v a u ≡ held.departs (network_in c (tables_of size v w h) Q) u
due_in true size v w h Q ok a e ways rides u l = cond-true _ _ e ∙ courier.due-arrives size v w h Q ok a ways rides u l
due_in false size v w h Q ok a e ways rides u l = cond-false _ _ e ∙ ordinary.due-departs size v w h Q ok u l

module _ (size : ℕ) (wide : 16 ≤ size) (v w h list : List ℕ) (Q : Query) (ok : Valid (tables_of size v w h) Q) (x d : ℕ) (low : x < length v / 12) (near : d ≤ allowed Q) (A : Seconds) (clock : clocked A.0 ≡ Q.arrival) where
  abbrev pub row_for : Bool → Directed
  row_for c = directed_at c size v w h (stretch_in c size w h x) x d A Q.speed (allowed Q)

  pub row_in : (c : Bool) → Lists c size w h list → IsRow (network_in c (tables_of size v w h) Q) x d (row_on c size v w h list x (row_for c)) (passes (row_for c).arriving)
  unfolding stretch_in walks_in hops_in directed_at
  row_in true L = courier.is_row size wide v w h list Q ok (L.right refl) (L.long refl) x d near A clock
  row_in false L = ordinary.is_row size wide v w h Q ok x d low near A clock

  pub passable-in : (c : Bool) → Lists c size w h list → Passable (walks_in c v w x) (hops_in c size v h x) (numbers_at list (stretch_in c size w h x)) (row_for c)
  unfolding stretch_in walks_in hops_in directed_at
  passable-in true L = record { here = λ e. never refl e; there = λ e. courier.sound size wide v w h list Q ok (L.right refl) (L.long refl) x d near A clock }
  passable-in false L = ordinary-passable _ _ _ _ refl (ordinary.sound size wide v w h Q ok x d low near A clock)

  pub near-in : (c : Bool) → Lists c size w h list → Near v (walks_in c v w x) (hops_in c size v h x) (numbers_at list (stretch_in c size w h x)) (row_for c)
  unfolding stretch_in walks_in hops_in directed_at
  near-in true L = courier.ends size wide v w h list Q ok (L.right refl) (L.long refl) x d near A clock
  near-in false L = ordinary-near _ _ _ _ refl v (ordinary.leaves size wide v w h Q ok x d low near A clock)

  -- the stretch stands in the list
  pub stretch-in : (c : Bool) → Lists c size w h list → (stretch_in c size w h x).first + (stretch_in c size w h x).many ≤ length list / 4
  unfolding stretch_in
  stretch-in true L = omega (arith, courier.inside size wide v w h list Q ok (L.right refl) (L.long refl) x d near A clock, L.long refl)
  stretch-in false L = omega arith

  -- A new vertex has no more records in the row than two bytes count: an ordinary one has no more in all, and the courier's row has no more.
  pub few-in : ((i : ℕ) → Fits w8 (get_or v i 0)) → (c : Bool) → Lists c size w h list → (m : Map)
      → Enough (row_on c size v w h list x (row_for c)) (passes (row_for c).arriving) m → Few (row_on c size v w h list x (row_for c)) (passes (row_for c).arriving) m
  unfolding stretch_in walks_in hops_in directed_at departing_of left
  few-in bytes true L m E u e =
      omega (
        arith,
        count_most (λ i. eqb ((row_on true size v w h list x (row_for true)).from i) u) (passes (row_for true).arriving),
        courier.many size wide v w h list Q ok (L.right refl) (L.long refl) x d near A clock,
        departs size v w h ok.tables x,
        cond-true (vertex_at v x).departing 0 (lt-ltb x (length v / 12) low),
        two_bytes v bytes x,
      )
  few-in bytes false L m E u e =
      let q : leaving (row_on false size v w h list x (row_for false)) u (passes (row_for false).arriving) ≤ (vertex_at v u).departing = subst (λ (y : Entry). leaving (row_on false size v w h list x (row_for false)) u (passes (row_for false).arriving) ≤ left (vertex_at v u).departing y) e (E u) in
      omega (arith, q, two_bytes v bytes u)
