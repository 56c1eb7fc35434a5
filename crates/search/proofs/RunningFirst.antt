-- Step 0: the seeds are entered, and the run stands at its beginning. Assumes nothing.
use Rattle.std.specs.Prelude.{Result, Ok, Err}
use mathlib.Core.Path.{◌≡◌, refl, sym, ap, ap₂, subst, ◌∙◌}
use mathlib.Core.Bool.{Bool}
use mathlib.Core.List.{List, [], flat_map}
use Prim.Native.Nat.{ℕ, ◌/◌, ◌%◌, ◌≤◌, ◌<◌, min}
use native.Mathlib.Omega.{arith}
use lib.ListN.{length}
use borrow.Author.Tests.{lt-leb}
use Rattle.journeys.specs.Tables.{Tables, vertex_count}
use Rattle.journeys.specs.Query.{Query}
use Rattle.journeys.specs.Network.{Network, distance_in}
use Rattle.journeys.specs.Answers.{Lent, tables}
use Rattle.journeys.specs.RunAnswers.{held_for, RoomFor, room_for}
use Rattle.journeys.specs.Valid.{Valid}
use Rattle.journeys.proofs.Fits.{held-most}
use Rattle.journeys.proofs.Held.{departs}
use Rattle.words.specs.declared.Seconds.{Seconds}
use Rattle.words.specs.declared.Ticks.{Ticks}
use Rattle.worktable.specs.Map.{Map}
use Rattle.directed.specs.Directed.{due_of}
use Rattle.directed.specs.declared.Directed.{Directed}
use Rattle.heldmap.specs.Directions.{network_in}
use Rattle.heldmap.proofs.RowsInDirection.{due_in}
use Rattle.parts.specs.declared.Road.{Road}
use Rattle.intake.proofs.FirstFault.{failed}
use Rattle.stepping.specs.declared.Progress.{Progress}
use Rattle.words.specs.Told.{number_of}
use Rattle.words.specs.Refusal.{Refusal}
use Rattle.opening.specs.Seeds.{RoadFits, PairFits, pair_of, pair_map, seed_count, no_records, Opens, Shut, OpenIs}
use Rattle.opening.proofs.FirstHeld as first
use Rattle.opening.proofs.FirstHeld.{vertices-as, first-held, seeds-sized, road-needs}
use Rattle.steps.specs.Running.{Running, Short, EndedIs, Stands, Ends}
use Rattle.steps.specs.declared.Ended.{Ended}

-- the end of the steps, with the length of the held buffer as it was lent
pub ends_as : (c : Bool) (N : Tables) (m m' n : ℕ) (Q : Query) (limit : ℕ) (held settled : List ℕ) (r : Result Ended Refusal) → m ≡ m' → Ends c N m n Q limit held settled r → Ends c N m' n Q limit held settled r
ends_as c N m m' n Q limit held settled r e = subst (λ (k : ℕ). Ends c N k n Q limit held settled r) e

module _ (c : Bool) (b : Lent) (Q : Query) (ok : Valid (tables b) Q) (A : Seconds) (D : Ticks) where
  abbrev N : Tables
  N = tables b

  abbrev G : Network
  G = network_in c N Q

  abbrev road : Road
  road = first.road b Q ok

  abbrev capacity : ℕ
  capacity = first.capacity b Q ok

  -- the row that tells what is due, the seeds, their map and their number
  abbrev blank : Directed
  blank = no_records c b.hop_size b.walks b.hops A Q.speed D

  abbrev M : Map
  M = pair_map b.vertices blank (pair_of c b.walks road)

  abbrev many : ℕ
  many = seed_count (pair_of c b.walks road)

  due : (u : ℕ) → u < vertex_count N → due_of b.vertices blank u ≡ departs G u
  due = due_in c b.hop_size b.vertices b.walks b.hops Q ok blank refl refl refl

  -- The run stands before its first step.
  pub begins : (held' : List ℕ) (p : Progress) → Opens capacity M many held' p → length held' ≡ length b.held
      → Stands c N (length held') (length b.settled) Q p held' b.settled
  unfolding Stands flat_map
  begins held' p H same x y same-held same-settled l O = subst (λ (z : Progress). Running G x y l z held' b.settled) whole-p at_zero
    where
      p0 : Progress
      p0 = record { table = p.table; settled = 0 }

      whole-p : p0 ≡ p
      whole-p = ap (λ (n : ℕ). record { table = p.table; settled = n }) (sym H.count)

      at_zero : Running G x y l p0 held' b.settled
      at_zero =
          record {
            made = omega arith;
            table = record { order = H.table.order; map = H.table.map ∙ first-held b Q ok blank c due };
            slots = H.slots ∙ ap₂ (λ (m n : ℕ). min (m / 16) (min n 65536)) (sym (same-held ∙ same)) (sym (vertices-as b Q ok));
            long = sym same-settled;
            listed = refl;
            room = λ j h. subst (RoomFor G x y l) (let z : 0 ≡ j = omega arith in z) (omega (arith, seeds-sized b Q ok blank c due l, H.fits, same-held, same), omega arith);
          }

  -- There is no room for step 0.
  shut : (limit : ℕ) (why : Refusal) (held settled : List ℕ) → Shut capacity many (number_of why.reason) → why.place ≡ 0 → Ends c N (length b.held) (length b.settled) Q limit held settled (Err why)
  unfolding Ends EndedIs room_for
  shut limit why held settled h first x y same-held same-settled l O =
      subst (λ (j : ℕ). Short G x y l limit n j) (sym first) (record { made = omega arith; refusal = refused; some = omega (arith, h.0); before = λ j z. absurd (omega arith) })
    where
      n : ℕ
      n = number_of why.reason

      few : length (held_for G l 0) ≤ min (length b.vertices / 12) 65536
      few = omega (arith, held-most G (distance_in []), ok.tables.vertices_few, vertices-as b Q ok)

      refused : room_for G x y l 0 ≡ record { number = n; place = 0 }
      refused =
          failed _ 8 0 _ (omega arith) (lt-leb (length (held_for G l 0)) (length x / 16) (omega (arith, seeds-sized b Q ok blank c due l, h.1, few, same-held)))
          ∙ ap (λ (z : ℕ). record { number = z; place = 0 }) (sym h.0)

  -- ---- the same with the road and the row as the code has them
  module _ (r : Road) (e : r ≡ road) (a : Directed) (f : a ≡ blank) where
    -- what the road has to be
    pub needs-as : length b.held % 16 ≡ 0
        → ((length b.held % 16 ≡ 0) × (length b.vertices / 12 ≤ 65536) × RoadFits b.walks r) × PairFits (length b.vertices / 12) (pair_of a.courier b.walks r)
    needs-as h = road-needs b Q ok r e a.courier h

    module _ (held' : List ℕ) (y : Result Progress Refusal) (T : OpenIs capacity (pair_map b.vertices a (pair_of a.courier b.walks r)) (seed_count (pair_of a.courier b.walks r)) held' y) where
      open-as : OpenIs capacity M many held' y
      open-as =
          subst (λ (z : Road). OpenIs capacity (pair_map b.vertices blank (pair_of c b.walks z)) (seed_count (pair_of c b.walks z)) held' y) e
          (subst (λ (z : Directed). OpenIs capacity (pair_map b.vertices z (pair_of z.courier b.walks r)) (seed_count (pair_of z.courier b.walks r)) held' y) f T)

      pub opens_as : (p : Progress) → y ≡ Ok p → Opens capacity M many held' p
      unfolding OpenIs
      opens_as p q = subst (OpenIs capacity M many held') q open-as

      pub shut-as : (limit : ℕ) (why : Refusal) (held settled : List ℕ) → y ≡ Err why → Ends c N (length b.held) (length b.settled) Q limit held settled (Err why)
      unfolding OpenIs
      shut-as limit why held settled q =
          let s = subst (OpenIs capacity M many held') q open-as in
          shut limit why held settled s.0 s.1
