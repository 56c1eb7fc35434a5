-- The second demand, of the courier's part bytes: which places inside a road they cover, where an accepted and finished run's own list was handed to an accepted call for
-- parts. Assumes nothing.
use mathlib.Core.Path.{◌≡◌, sym, ap, subst, ◌∙◌}
use mathlib.Core.Logic.{◌⊎◌, ◌↔◌, ◌≢◌}
use mathlib.Core.List.{List, flat_map}
use Prim.Native.Nat.{ℕ, ◌-◌, ◌*◌, ◌≤◌, ◌<◌}
use lib.ListN.{length, take}
use Rattle.journeys.specs.Counting.{none}
use Rattle.journeys.specs.Bytes.{filled}
use Rattle.journeys.specs.Tables.{Tables, walk, walk_count}
use Rattle.journeys.specs.Query.{Query, allowed}
use Rattle.journeys.specs.Order.{Settled}
use Rattle.journeys.specs.Answers.{settled_bytes}
use Rattle.journeys.specs.Lists.{settled_in}
use Rattle.journeys.specs.PartAnswers.{parts_tables}
use Rattle.journeys.specs.CourierJourneys.{InsideReached}
use Rattle.journeys.specs.CourierOrder.{IsCourierOrder}
use Rattle.journeys.specs.CourierPartAnswers.{CourierPartsLent}
use Rattle.journeys.proofs.Valid.{on-either}
use Rattle.siltbrow.specs.CourierRun.{CourierCall, CourierCompleted, CourierFollows, refusal, settled_count, finished, read}
use Rattle.siltbrow.specs.CourierCall.{CourierPartsCall, CourierPartsCompleted, courier_refusal, courier_count, courier_read}
use Rattle.siltbrow.proofs.ListHandedOn.{handed-on}
use Rattle.siltbrow.proofs.PlacesInBytes.{LiesIn}
use Rattle.siltbrow.proofs.CourierInBytes.{valid, the_order, is_order, settled-are, finished-whole}
use Rattle.siltbrow.proofs.CourierPartsDemands.{courier-place-covered}

-- the place x of the walk record i lies in a counted part record that names i
abbrev pub Lies : CourierPartsCall → ℕ → ℕ → Type 0
Lies p = LiesIn p.parts (courier_count p)

module _ (c : CourierCall) (E : CourierCompleted c) (accepted : refusal c ≡ 0) (f : finished c ≡ 1) where
  -- the counted records of the settled bytes are the whole order
  whole-list : settled_in (take (8 * settled_count c) c.settled) ≡ the_order c E accepted
  whole-list =
      let l = the_order c E accepted in
      let are = settled-are c E accepted l (is_order c E accepted) in
      let e = finished-whole c E accepted l (is_order c E accepted) f in
      handed-on c.settled c.lent.lent.settled (settled_count c) l (are.0 ∙ ap length e) (are.1 ∙ ap (λ (m : List Settled). filled c.lent.lent.settled (flat_map settled_bytes m)) e)

  module _ (p : CourierPartsCall) (F : CourierPartsCompleted p) (own : CourierFollows c p) (fine : courier_refusal p ≡ 0) where
    same : courier_read p ≡ read c
    same = ap (λ (b : CourierPartsLent). parts_tables b.lent) own.lent

    -- After a finished run a whole-decimetre place inside a road record lies in a counted part record exactly if the courier can be there within the allowed time.
    pub place-covered : (i x : ℕ) → i < walk_count (read c) → 0 < x → x < (walk (read c) i).len → Lies p i x ↔ ((d : ℕ) × (d ≤ allowed c.query) × InsideReached (read c) c.query i x d)
    place-covered =
        let l = the_order c E accepted in
        let O : IsCourierOrder (courier_read p) p.query l =
        subst (λ (q : Query). IsCourierOrder (courier_read p) q l) (sym own.query) (subst (λ (N : Tables). IsCourierOrder N c.query l) (sym same) (is_order c E accepted)) in
        let list : settled_in p.lent.lent.list ≡ l = ap (λ (b : CourierPartsLent). settled_in b.lent.list) own.lent ∙ whole-list in
        subst (λ (q : Query). (i x : ℕ) → i < walk_count (read c) → 0 < x → x < (walk (read c) i).len → Lies p i x ↔ ((d : ℕ) × (d ≤ allowed q) × InsideReached (read c) q i x d)) own.query
        (subst (λ (N : Tables). (i x : ℕ) → i < walk_count N → 0 < x → x < (walk N i).len → Lies p i x ↔ ((d : ℕ) × (d ≤ allowed p.query) × InsideReached N p.query i x d)) same
        (courier-place-covered p F fine l O list))

    -- A physical point of a road with a twin lies in a counted part record of either record exactly if the courier can be there along either.
    pub point-covered : (i x : ℕ) → i < walk_count (read c) → (walk (read c) i).twin ≢ none → 0 < x → x < (walk (read c) i).len
        → (Lies p i x ⊎ Lies p (walk (read c) i).twin ((walk (read c) i).len - x))
        ↔ (((d : ℕ) × (d ≤ allowed c.query) × InsideReached (read c) c.query i x d)
        ⊎ ((d : ℕ) × (d ≤ allowed c.query) × InsideReached (read c) c.query (walk (read c) i).twin ((walk (read c) i).len - x) d))
    point-covered = on-either (read c) (valid c E accepted).tables (Lies p) (λ i x. (d : ℕ) × (d ≤ allowed c.query) × InsideReached (read c) c.query i x d) place-covered
