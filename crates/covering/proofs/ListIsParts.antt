-- What is listed by the numbers of the query's road, entry by entry, are the parts of the definitions, in either direction. Assumes nothing.
use mathlib.Core.Path.{◌≡◌, refl, sym, ap, ap₂, ◌∙◌}
use mathlib.Core.Logic.{⊎_elim}
use mathlib.Core.Bool.{Bool, true, false}
use mathlib.Core.List.{List, [], ◌++◌, flat_map, append_assoc}
use Prim.Native.Nat.{ℕ, zero, suc, ◌+◌, ◌-◌, ◌*◌, ◌/◌, ◌≤◌, ◌<◌}
use native.Mathlib.Omega.{arith}
use lib.Dec.{eqb, leb}
use lib.ListN.{length, take}
use borrow.Author.Tests.{eqb-true, leb-true}
use Rattle.journeys.specs.Counting.{none, joined}
use Rattle.journeys.specs.Tables.{Tables, Walk, vertex_count, walk_at, tables_of}
use Rattle.journeys.specs.Query.{Query, allowed}
use Rattle.journeys.specs.Order.{Settled, settled}
use Rattle.journeys.specs.Parts as ordinary
use Rattle.journeys.specs.Parts.{Part}
use Rattle.journeys.specs.CourierParts as courier
use Rattle.journeys.specs.Lists.{allows, vertex_in, distance_at, settled_in}
use Rattle.journeys.proofs.Tests.{or_cases}
use Rattle.journeys.proofs.Counting.{flat-snoc}
use Rattle.journeys.proofs.Decoding.{vertex-count, walk-count, walk_at_lem}
use Rattle.journeys.proofs.Valid.{allowed-high, good-walk}
use Rattle.journeys.proofs.PartAnswers.{settled-next}
use Rattle.lists.proofs.Meaning.{entry-means}
use Rattle.heldmap.proofs.ArrivingRun.{walk-run}
use Rattle.listing.proofs.Froms.{sound, total-is}
use Rattle.stretches.proofs.Numbers.{right-list}
use Rattle.parts.specs.Listing.{road_of}
use Rattle.parts.specs.declared.Road.{Road}
use Rattle.covering.specs.Covering.{Sound, Leaving, Ready, Accepted, entry_on, entry_ahead, first_in, entry_in, listed_in, part_list_in}
use Rattle.covering.proofs.PartsOfRoad.{parts-here, parts_first}
use Rattle.covering.proofs.AheadOfRoad.{aheads-here, aheads-first}

-- The parts of step 0 and of the first k entries, where each entry has its own.
parts-by : (list : List ℕ) (first step₀ : List Part) (g : Settled → List Part) (entry : ℕ → List Part) → first ≡ step₀
    → ((i : ℕ) → i < length list / 8 → g (settled (vertex_in 8 list i) (distance_at 8 list i)) ≡ entry i)
    → (k : ℕ) → k ≤ length list / 8 → first ++ flat_map g (take k (settled_in list)) ≡ listed_in step₀ entry k
unfolding listed_in joined flat_map
parts-by list first step₀ g entry e each zero h = ap (λ (ps : List Part). ps ++ []) e
parts-by list first step₀ g entry e each (suc k) h =
    let x = settled (vertex_in 8 list k) (distance_at 8 list k) in
    ap (λ (S : List Settled). first ++ flat_map g S) (settled-next list k h)
    ∙ ap (λ (ps : List Part). first ++ ps) (flat-snoc g (take k (settled_in list)) x)
    ∙ sym (append_assoc first (flat_map g (take k (settled_in list))) (g x))
    ∙ ap₂ (λ (y z : List Part). y ++ z) (parts-by list first step₀ g entry e each k (omega arith)) (each k h)
    ∙ append_assoc step₀ (joined entry k) (entry k)

module _ (c : Bool) (size : ℕ) (v w h r list : List ℕ) (Q : Query) (a : Accepted c size v w h r list Q) where
  abbrev N : Tables
  N = tables_of size v w h

  abbrev road : Road
  road = road_of w Q

  -- Each entry names a vertex, at a distance within D.
  pub entry-good : (i : ℕ) → i < length list / 8 → (vertex_in 8 list i < vertex_count (tables_of size v w h)) × (distance_at 8 list i ≤ allowed Q)
  unfolding allows
  entry-good i l =
      let p = (entry-means 8 (vertex_count N) (allowed Q) list i).0 (a.good i l) in (
        p.0,
        ⊎_elim (λ (t : eqb (allowed Q) none ≡ true). absurd (let z : ⊥ = omega (arith, eqb-true (allowed Q) none t, allowed-high a.valid.query) in z))
            (λ (t : leb (distance_at 8 list i) (allowed Q) ≡ true). leb-true _ _ t)
            (or_cases (eqb (allowed Q) none) _ p.1),
      )

  vertex-low : (i : ℕ) → i < length list / 8 → vertex_in 8 list i < length v / 12
  vertex-low i l = omega (arith, (entry-good i l).0, vertex-count size v w h)

  -- Each entry is what listing its parts asks for.
  entry-sound : (i : ℕ) → i < length list / 8 → Sound v w list (allowed Q) i
  entry-sound i l =
      let run = walk-run size v w h a.valid.tables (vertex_in 8 list i) (vertex-low i l) in
      record { vertex = vertex-low i l; distance = (entry-good i l).1; order = run.order; fit = omega (arith, run.fit, walk-count size v w h) }

  pub leaving : c ≡ true → Leaving size v w h r
  leaving t =
      let s = sound size v w h a.valid.tables (omega (arith, a.wide)) in
      record { sound = s; long = a.long t ∙ ap (λ (n : ℕ). 4 * n) (total-is size v w h); right = right-list size v w h s (a.matches t) }

  road-low : Q.offset + ((walk_at w Q.walk).len - Q.offset) < 4294967296
  road-low =
      let g = good-walk N a.valid.tables Q.walk a.valid.query.walk_low in
      omega (arith, g.len-high, a.valid.query.offset_low, ap (λ (x : Walk). x.len) (walk_at_lem size v w h Q.walk (omega (arith, a.valid.query.walk_low, walk-count size v w h))))

  pub ready : Ready c size v w h r list (road_of w Q) (allowed Q)
  ready = record {
    few = omega (arith, a.valid.tables.walks_few, walk-count size v w h);
    speed = a.valid.query.speed_high;
    road = road-low;
    distance = λ i l. (entry-good i l).1;
    here = λ t. entry-sound;
    there = leaving;
  }

-- The parts of step 0 and of the first k entries.
pub parts_are : (c : Bool) (size : ℕ) (v w h r list : List ℕ) (Q : Query) (a : Accepted c size v w h r list Q) (k : ℕ) → k ≤ length list / 8
    → part_list_in c (tables_of size v w h) Q (take k (settled_in list)) ≡ listed_in (first_in c (road_of w Q) (allowed Q)) (entry_in c size v w h r list (road_of w Q) (allowed Q)) k
unfolding part_list_in first_in entry_in entry_on entry_ahead ordinary.part_list courier.part_list
parts_are false size v w h r list Q a k l =
    parts-by list _ _ (ordinary.parts_at (tables_of size v w h) Q) (entry_on v w list (road_of w Q) (allowed Q)) (parts_first size v w h Q a.valid)
    (λ i m. parts-here size v w h Q a.valid (vertex_in 8 list i) (distance_at 8 list i) (vertex-low false size v w h r list Q a i m)) k l
parts_are true size v w h r list Q a k l =
    parts-by list _ _ (courier.parts_at (tables_of size v w h) Q) (entry_ahead size w h r list (road_of w Q) (allowed Q)) (aheads-first size v w h Q a.valid)
    (λ i m. aheads-here size v w h Q a.valid (leaving true size v w h r list Q a refl).right (vertex_in 8 list i) (distance_at 8 list i)) k l
