-- More time, same beginning, of the courier's calls: two calls of `siltbrow_courier` over the same tables, both accepted and finished, whose queries differ in the duration
-- alone, whatever the rooms; and a call of `siltbrow_courier_parts` behind each. Assumes nothing.
use mathlib.Core.Path.{◌≡◌, ap, subst, ◌∙◌}
use mathlib.Core.Logic.{◌⊎◌, ◌↔◌, ◌≢◌}
use mathlib.Core.List.{List, flat_map}
use Prim.Native.Nat.{ℕ, ◌+◌, ◌-◌, ◌*◌, ◌≤◌, ◌<◌}
use lib.ListN.{length, take}
use Rattle.journeys.specs.Counting.{none}
use Rattle.journeys.specs.Bytes.{be32, filled}
use Rattle.journeys.specs.Tables.{Tables, walk, walk_count}
use Rattle.journeys.specs.Query.{allowed}
use Rattle.journeys.specs.Order.{Settled}
use Rattle.journeys.specs.Answers.{settled_bytes}
use Rattle.siltbrow.specs.CourierRun.{CourierCall, CourierCompleted, CourierFollows, refusal, settled_count, finished, read}
use Rattle.siltbrow.specs.CourierCall.{CourierPartsCall, CourierPartsCompleted, courier_refusal}
use Rattle.siltbrow.proofs.CourierInBytes.{valid, the_order, is_order, settled-are, finished-whole}
use Rattle.siltbrow.proofs.CourierPlaces.{Lies, place-covered}
use Rattle.slider.specs.Longer.{Longer}
use Rattle.slider.specs.Directions.{couriers, Finished, Covers}
use Rattle.slider.proofs.Lawful.{courier-lawful}
use Rattle.slider.proofs.Beginning.{stays-covered, point-stays-covered}
use Rattle.slider.proofs.InBytes as bytes

-- a call that is accepted and finished
pub record Whole (c : CourierCall) : Type 0 where
  pub completed : CourierCompleted c
  pub accepted : refusal c ≡ 0
  pub all : finished c ≡ 1

-- it leaves its whole order
whole-finished : (c : CourierCall) → Whole c → Finished (couriers (read c)) c.query (settled_count c) c.lent.lent.settled c.settled
whole-finished c W =
    let l = the_order c W.completed W.accepted in
    let O = is_order c W.completed W.accepted in
    let are = settled-are c W.completed W.accepted l O in
    let e = finished-whole c W.completed W.accepted l O W.all in
    record {
      order = l;
      is_order = O;
      counted = are.0 ∙ ap length e;
      listed = are.1 ∙ ap (λ (m : List Settled). filled c.lent.lent.settled (flat_map settled_bytes m)) e;
    }

module _ (c c' : CourierCall) (W : Whole c) (W' : Whole c') (same : read c' ≡ read c) (longer : Longer c.query c'.query) where
  other : Finished (couriers (read c)) c'.query (settled_count c') c'.lent.lent.settled c'.settled
  other = subst (λ (N : Tables). Finished (couriers N) c'.query (settled_count c') c'.lent.lent.settled c'.settled) same (whole-finished c' W')

  -- The settled bytes of the shorter run are the beginning of the longer one's, distances included.
  pub settled-begin : (settled_count c ≤ settled_count c') × (take (8 * settled_count c) c.settled ≡ take (8 * settled_count c) c'.settled)
  settled-begin =
      let N = read c in (
        bytes.counts-grow N (couriers N) (courier-lawful N) c.query c'.query longer (whole-finished c W) other,
        bytes.bytes-begin N (couriers N) (courier-lawful N) c.query c'.query longer (whole-finished c W) other,
      )

  -- A slider may cut the longer list at the first distance above the new D: what stands before it is the shorter list.
  pub settled-cut : (j : ℕ) → j < settled_count c' → (j < settled_count c) ↔ (be32 c'.settled (8 * j + 4) ≤ allowed c.query)
  settled-cut =
      let N = read c in
      bytes.cut-exactly N (couriers N) (courier-lawful N) c.query c'.query longer (whole-finished c W) other (valid c W.completed W.accepted)

  -- an accepted call for the parts of each run's list
  module _ (p p' : CourierPartsCall) (P : CourierPartsCompleted p) (P' : CourierPartsCompleted p') (own : CourierFollows c p) (own' : CourierFollows c' p') (fine : courier_refusal p ≡ 0)
      (fine' : courier_refusal p' ≡ 0) where
    covers : Covers (read c) (couriers (read c)) c.query (Lies p)
    covers = record { exactly = place-covered c W.completed W.accepted W.all p P own fine }

    covers' : Covers (read c) (couriers (read c)) c'.query (Lies p')
    covers' = subst (λ (N : Tables). Covers N (couriers N) c'.query (Lies p')) same (record { exactly = place-covered c' W'.completed W'.accepted W'.all p' P' own' fine' })

    -- Every whole-decimetre place inside a road record that lies in a counted part of the shorter lies in one of the longer.
    pub places-stay : (i x : ℕ) → i < walk_count (read c) → 0 < x → x < (walk (read c) i).len → Lies p i x → Lies p' i x
    places-stay = let N = read c in stays-covered N (couriers N) (courier-lawful N) c.query c'.query longer covers covers'

    -- So does every point of a road with a twin, in a part of either record.
    pub points-stay : (i x : ℕ) → i < walk_count (read c) → (walk (read c) i).twin ≢ none → 0 < x → x < (walk (read c) i).len
        → Lies p i x ⊎ Lies p (walk (read c) i).twin ((walk (read c) i).len - x) → Lies p' i x ⊎ Lies p' (walk (read c) i).twin ((walk (read c) i).len - x)
    points-stay =
        let N = read c in
        point-stays-covered N (couriers N) (courier-lawful N) c.query c'.query longer (valid c W.completed W.accepted) covers covers'
