-- The first demand, of `siltbrow_parts` itself. All is said of a call that has completed as its contract says, with an answer slice of 12 bytes
-- (`PartsCompleted`), and each theorem says in one sentence what it means. Assumes nothing.
use mathlib.Core.Path.{◌≡◌, sym, subst}
use mathlib.Core.Logic.{◌⊎◌, ⊎_elim, ◌↔◌, ◌≢◌}
use mathlib.Core.List.{List, flat_map}
use Prim.Native.Nat.{ℕ, ◌/◌, ◌≤◌}
use native.Mathlib.Omega.{arith}
use lib.ListN.{length}
use Rattle.journeys.specs.Bytes.{filled, cleared}
use Rattle.journeys.specs.Parts.{first_parts, parts_at, part_list, part_bytes}
use Rattle.journeys.specs.PartAnswers.{parts_tables, parts_early}
use Rattle.covering.proofs.RefusalNumbers.{early-numbers}
use Rattle.answered.proofs.Parts as over
use Rattle.answered.proofs.Parts.{PartsComplete, turn-grows}
use Rattle.siltbrow.specs.PartsCall.{PartsCall, PartsCompleted, parts_refusal, parts_place, parts_count, the_parts, parts_over, Lacks}

module _ (c : PartsCall) (E : PartsCompleted c) where
  complete : PartsComplete (parts_over c)
  unfolding part_list
  complete =
      record {
        parts_is = (E.0.answered E.1).1;
        answer-is = (E.0.answered E.1).2;
        grows = turn-grows (first_parts (parts_tables c.lent) c.query) (parts_at (parts_tables c.lent) c.query) c.lent.list;
        other = λ e.
            ⊎_elim (λ (h : (parts_early c.lent c.query).number ≤ 7). let z : ⊥ = omega (arith, e) in z) (λ (h : (parts_early c.lent c.query).number ≡ 21). let z : ⊥ = omega (arith, e) in z)
            (early-numbers c.lent c.query);
      }

  -- Every call with an answer slice of 12 bytes is answered.
  pub parts-answered-always : c.returned ≡ 0
  parts-answered-always = (E.0.answered E.1).0

  -- Bad input is refused by number and place, for the first reason in the fixed order, 1 to 7 or 21; nothing is counted, and no byte of the part buffer is changed.
  pub parts-refused-first : (parts_early c.lent c.query).number ≢ 0
      → ((parts_refusal c ≤ 7) ⊎ (parts_refusal c ≡ 21)) × (parts_refusal c ≡ (parts_early c.lent c.query).number) × (parts_place c ≡ (parts_early c.lent c.query).place)
      × (parts_count c ≡ 0) × (c.parts ≡ c.lent.parts)
  parts-refused-first bad =
      let t = over.parts-refused (parts_over c) complete bad in
      (subst (λ (x : ℕ). (x ≤ 7) ⊎ (x ≡ 21)) (sym t.0) (early-numbers c.lent c.query), t.0, t.1, t.2, t.3)

  -- Sound input that lacks room is refused with 10 at the first entry whose parts do not fit, counted from 1, and 0 for those of step 0; the part buffer is zero.
  pub parts-room-refused : (parts_early c.lent c.query).number ≡ 0 → (k : ℕ) → Lacks c.lent c.query k
      → (parts_refusal c ≡ 10) × (parts_place c ≡ k) × (parts_count c ≡ 0) × (c.parts ≡ cleared c.lent.parts)
  parts-room-refused = over.parts-short (parts_over c) complete

  -- Sound input with room for all its parts is accepted: they are counted and stand in the part buffer in their order, with zero behind them.
  pub parts-accepted : (parts_early c.lent c.query).number ≡ 0 → length (the_parts c) ≤ length c.lent.parts / 12
      → (parts_refusal c ≡ 0) × (parts_place c ≡ 0) × (parts_count c ≡ length (the_parts c)) × (c.parts ≡ filled c.lent.parts (flat_map part_bytes (the_parts c)))
  parts-accepted = over.parts-fit (parts_over c) complete

  -- A call is refused with 10 at k exactly if its input is sound and the parts of step 0 and of the first k entries are the first that are more than lent.
  pub parts-room-exactly : (k : ℕ) → ((parts_refusal c ≡ 10) × (parts_place c ≡ k)) ↔ (((parts_early c.lent c.query).number ≡ 0) × Lacks c.lent c.query k)
  parts-room-exactly = over.short-exactly (parts_over c) complete

  -- A call is accepted exactly if its input is sound and there is room for all its parts.
  pub parts-accepted-exactly : (parts_refusal c ≡ 0) ↔ (((parts_early c.lent c.query).number ≡ 0) × (length (the_parts c) ≤ length c.lent.parts / 12))
  parts-accepted-exactly = over.fit-exactly (parts_over c) complete
