-- The first two demands, of `siltbrow_courier_parts` itself. All is said of a call that has completed as its contract says, with an answer slice of 12 bytes
-- (`CourierPartsCompleted`), and each theorem says in one sentence what it means. Assumes nothing.
use mathlib.Core.Path.{◌≡◌, subst}
use mathlib.Core.Logic.{◌⊎◌, inl, inr, ⊎_elim, ◌↔◌, ◌≢◌}
use mathlib.Core.List.{List, flat_map}
use Prim.Native.Nat.{ℕ, ◌-◌, ◌/◌, ◌≤◌, ◌<◌}
use native.Mathlib.Omega.{arith}
use lib.ListN.{length}
use Rattle.journeys.specs.Bytes.{filled, cleared}
use Rattle.journeys.specs.Counting.{none}
use Rattle.journeys.specs.Tables.{walk, walk_count}
use Rattle.journeys.specs.Query.{allowed}
use Rattle.journeys.specs.Order.{Settled}
use Rattle.journeys.specs.Parts.{part_bytes, Covered}
use Rattle.journeys.specs.Lists.{settled_in}
use Rattle.journeys.specs.Valid.{Valid}
use Rattle.journeys.specs.CourierJourneys.{InsideReached}
use Rattle.journeys.specs.CourierOrder.{IsCourierOrder}
use Rattle.journeys.specs.CourierParts.{first_parts, parts_at, part_list}
use Rattle.journeys.specs.CourierPartAnswers.{courier_parts_early, courier_parts_answer}
use Rattle.journeys.proofs.CourierDemands.{place-exactly, point-exactly}
use Rattle.covering.proofs.Accepting.{courier-accepted}
use Rattle.covering.proofs.RefusalNumbers.{courier-numbers}
use Rattle.answered.proofs.Parts as over
use Rattle.answered.proofs.Parts.{PartsComplete, turn-grows}
use Rattle.siltbrow.specs.CourierCall.{CourierPartsCall, CourierPartsCompleted, courier_refusal, courier_place, courier_count, courier_read, courier_parts, courier_over, CourierLacks}
use Rattle.siltbrow.proofs.PlacesInBytes.{LiesIn, lies-are}

module _ (c : CourierPartsCall) (E : CourierPartsCompleted c) where
  complete : PartsComplete (courier_over c)
  unfolding courier_parts_answer part_list
  complete =
      record {
        parts_is = (E.0.answered E.1).1;
        answer-is = (E.0.answered E.1).2;
        grows = turn-grows (first_parts (courier_read c) c.query) (parts_at (courier_read c) c.query) c.lent.lent.list;
        other = λ e. ten e (courier-numbers c.lent c.query);
      }
    where
      ten : {x : ℕ} → x ≡ 10 → (x ≤ 7) ⊎ (x ≡ 21) ⊎ (x ≡ 22) → ⊥
      ten e (inl h) = omega arith
      ten e (inr (inl h)) = omega arith
      ten e (inr (inr h)) = omega arith

  -- Every call with an answer slice of 12 bytes is answered.
  pub courier-answered-always : c.returned ≡ 0
  courier-answered-always = (E.0.answered E.1).0

  -- Bad input is refused by number and place, for the first reason in the fixed order, 22 between 6 and 7; nothing is counted, and no byte of the part buffer is changed.
  pub courier-refused-first : (courier_parts_early c.lent c.query).number ≢ 0
      → (courier_refusal c ≡ (courier_parts_early c.lent c.query).number) × (courier_place c ≡ (courier_parts_early c.lent c.query).place) × (courier_count c ≡ 0) × (c.parts ≡ c.lent.lent.parts)
  courier-refused-first = over.parts-refused (courier_over c) complete

  -- Sound input that lacks room is refused with 10 at the first entry whose parts do not fit, counted from 1, and 0 for those of step 0; the part buffer is zero.
  pub courier-room-refused : (courier_parts_early c.lent c.query).number ≡ 0 → (k : ℕ) → CourierLacks c k
      → (courier_refusal c ≡ 10) × (courier_place c ≡ k) × (courier_count c ≡ 0) × (c.parts ≡ cleared c.lent.lent.parts)
  courier-room-refused = over.parts-short (courier_over c) complete

  -- Sound input with room for all its parts is accepted: they are counted and stand in the part buffer in their order, with zero behind them.
  pub courier-parts-accepted : (courier_parts_early c.lent c.query).number ≡ 0 → length (courier_parts c) ≤ length c.lent.lent.parts / 12
      → (courier_refusal c ≡ 0) × (courier_place c ≡ 0) × (courier_count c ≡ length (courier_parts c)) × (c.parts ≡ filled c.lent.lent.parts (flat_map part_bytes (courier_parts c)))
  courier-parts-accepted = over.parts-fit (courier_over c) complete

  -- A call is refused with 10 at k exactly if its input is sound and the parts of step 0 and of the first k entries are the first that are more than lent.
  pub courier-room-exactly : (k : ℕ) → ((courier_refusal c ≡ 10) × (courier_place c ≡ k)) ↔ (((courier_parts_early c.lent c.query).number ≡ 0) × CourierLacks c k)
  courier-room-exactly = over.short-exactly (courier_over c) complete

  -- A call is accepted exactly if its input is sound and there is room for all its parts.
  pub courier-accepted-exactly : (courier_refusal c ≡ 0) ↔ (((courier_parts_early c.lent c.query).number ≡ 0) × (length (courier_parts c) ≤ length c.lent.lent.parts / 12))
  courier-accepted-exactly = over.fit-exactly (courier_over c) complete

  -- ---- the places, where the call is accepted
  module _ (fine : courier_refusal c ≡ 0) where
    sound : ((courier_parts_early c.lent c.query).number ≡ 0) × (length (courier_parts c) ≤ length c.lent.lent.parts / 12)
    sound = courier-accepted-exactly.0 fine

    valid : Valid (courier_read c) c.query
    valid = (courier-accepted c.lent c.query sound.0).valid

    -- The counted part records are the parts of step 0 and of every entry of the settled list.
    pub courier-lies : (i x : ℕ) → LiesIn c.parts (courier_count c) i x ↔ Covered (courier_parts c) i x
    courier-lies = let t = courier-parts-accepted sound.0 sound.1 in lies-are c.parts c.lent.lent.parts (courier_count c) (courier_parts c) t.2 t.3

    -- the settled list is the whole order of the courier
    module _ (l : List Settled) (O : IsCourierOrder (courier_read c) c.query l) (own : settled_in c.lent.lent.list ≡ l) where
      lies : (i x : ℕ) → LiesIn c.parts (courier_count c) i x ↔ Covered (part_list (courier_read c) c.query l) i x
      lies i x = subst (λ (m : List Settled). LiesIn c.parts (courier_count c) i x ↔ Covered (part_list (courier_read c) c.query m) i x) own (courier-lies i x)

      -- A whole-decimetre place inside a road record lies in a counted part record exactly if the courier can be there within the allowed time.
      pub courier-place-covered : (i x : ℕ) → i < walk_count (courier_read c) → 0 < x → x < (walk (courier_read c) i).len
          → LiesIn c.parts (courier_count c) i x ↔ ((d : ℕ) × (d ≤ allowed c.query) × InsideReached (courier_read c) c.query i x d)
      courier-place-covered i x il x0 xl =
          let e = place-exactly (courier_read c) c.query valid O i x il x0 xl in
          (λ y. e.0 ((lies i x).0 y), λ y. (lies i x).1 (e.1 y))

      -- A physical point of a road with a twin lies in a counted part record of either record exactly if the courier can be there along either.
      pub courier-point-covered : (i x : ℕ) → i < walk_count (courier_read c) → (walk (courier_read c) i).twin ≢ none → 0 < x → x < (walk (courier_read c) i).len
          → (LiesIn c.parts (courier_count c) i x ⊎ LiesIn c.parts (courier_count c) (walk (courier_read c) i).twin ((walk (courier_read c) i).len - x))
          ↔ (((d : ℕ) × (d ≤ allowed c.query) × InsideReached (courier_read c) c.query i x d) ⊎ ((d : ℕ) × (d ≤ allowed c.query) × InsideReached (courier_read c) c.query (walk (courier_read c) i).twin ((walk (courier_read c) i).len - x) d))
      courier-point-covered i x il n x0 xl =
          let e = point-exactly (courier_read c) c.query valid O i x il n x0 xl in
          let here = lies i x in
          let there = lies (walk (courier_read c) i).twin ((walk (courier_read c) i).len - x) in
          (λ y. e.0 (⊎_elim (λ z. inl (here.0 z)) (λ z. inr (there.0 z)) y), λ y. ⊎_elim (λ z. inl (here.1 z)) (λ z. inr (there.1 z)) (e.1 y))
