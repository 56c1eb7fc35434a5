-- The courier's run and parts: there is an answer for every input, and any two answers that the definitions allow are equal. Assumes nothing.
use mathlib.Core.Path.{◌≡◌, sym, ap, ◌∙◌}
use mathlib.Core.Logic.{⊎_elim, ◌≢◌}
use mathlib.Core.Bool.{true, false, cond}
use mathlib.Core.List.{List, []}
use Prim.Native.Nat.{ℕ, ◌≤◌, ◌<◌}
use lib.Dec.{eqb}
use lib.ListN.{length}
use borrow.Author.Tests.{eqb-true, eqb-false, eq-eqb, ne_eqb}
use Rattle.journeys.specs.Bytes.{cleared}
use Rattle.journeys.specs.Tables.{vertex_count}
use Rattle.journeys.specs.Query.{Query, allowed}
use Rattle.journeys.specs.Order.{Settled}
use Rattle.journeys.specs.Refusals.{table_lengths, buffer_lengths, contents, query_refusal}
use Rattle.journeys.specs.Valid.{Valid}
use Rattle.journeys.specs.Lists as lists
use Rattle.journeys.specs.Answers.{Answer, tables, refused_early}
use Rattle.journeys.specs.ListAnswers.{PartsRoomFor, parts_refused_for, parts_accepted_for}
use Rattle.journeys.specs.PartAnswers.{parts_tables, list_lengths}
use Rattle.journeys.specs.CourierRecords.{network}
use Rattle.journeys.specs.CourierList.{list_length, list_refusal}
use Rattle.journeys.specs.CourierParts.{part_list}
use Rattle.journeys.specs.CourierAnswers.{CourierLent, courier_early, courier_over, CourierAllowed}
use Rattle.journeys.specs.CourierPartAnswers.{CourierPartsLent, courier_parts_early, courier_parts_answer}
use Rattle.journeys.proofs.Tests.{split, cond-true, cond-false}
use Rattle.journeys.proofs.Greedy.{run}
use Rattle.journeys.proofs.Refusals.{or-fine}
use Rattle.journeys.proofs.Valid.{lengths-valid, query-valid}
use Rattle.journeys.proofs.PartAnswers.{refused-before, refused-short, all-fits}
use Rattle.journeys.proofs.CourierOrder.{order_of, order_is, order-unique}

-- What the courier's run does not refuse at once is valid, and its list matches the tables.
pub courier-links : (b : CourierLent) (Q : Query) → (courier_early b Q).number ≡ 0
    → Valid (tables b.lent) Q × ((list_length (tables b.lent) b.records).number ≡ 0) × ((list_refusal (tables b.lent) b.records).number ≡ 0)
unfolding courier_early
courier-links b Q e =
    let l = b.lent in
    let x = or-fine (table_lengths l.hop_size l.vertices l.walks l.hops) _ e in
    let y = or-fine (buffer_lengths l.held l.settled) _ x.1 in
    let z = or-fine (list_length (tables l) b.records) _ y.1 in
    let w = or-fine (contents (tables l)) _ z.1 in
    let u = or-fine (list_refusal (tables l) b.records) _ w.1 in
    (record { tables = lengths-valid l.hop_size l.vertices l.walks l.hops x.0 w.0; query = query-valid (tables l) Q u.1 }, z.0, u.0)

-- the answer, computed: for the existence and for the cases
unfoldable pub courier_computed : CourierLent → Query → ℕ → Answer
courier_computed b Q limit =
    cond (eqb (courier_early b Q).number 0) (courier_over b Q (run (network (tables b.lent) Q) (allowed Q) (vertex_count (tables b.lent)) []) limit)
    (refused_early b.lent (courier_early b Q))

module _ (b : CourierLent) (Q : Query) (limit : ℕ) where
  valid : (courier_early b Q).number ≡ 0 → Valid (tables b.lent) Q
  valid e = (courier-links b Q e).0

  computed-order : (e : (courier_early b Q).number ≡ 0) → courier_computed b Q limit ≡ courier_over b Q (order_of (tables b.lent) Q (valid e)) limit
  unfolding courier_computed order_of
  computed-order e = cond-true _ (refused_early b.lent (courier_early b Q)) (eq-eqb (courier_early b Q).number 0 e)

  computed-refused : (courier_early b Q).number ≢ 0 → courier_computed b Q limit ≡ refused_early b.lent (courier_early b Q)
  unfolding courier_computed
  computed-refused n = cond-false _ (refused_early b.lent (courier_early b Q)) (ne_eqb (courier_early b Q).number 0 n)

  -- Every input gets an answer.
  pub courier-exists : CourierAllowed b Q limit (courier_computed b Q limit)
  courier-exists =
      record {
        refused = computed-refused;
        accepted = λ e. (order_of (tables b.lent) Q (valid e), order_is (tables b.lent) Q (valid e), computed-order e);
      }

  pub courier-is : (a : Answer) → CourierAllowed b Q limit a → a ≡ courier_computed b Q limit
  courier-is a A =
      ⊎_elim
      (λ (t : eqb (courier_early b Q).number 0 ≡ true).
      let e = eqb-true (courier_early b Q).number 0 t in
      let x = A.accepted e in
      x.2 ∙ ap (λ (l : List Settled). courier_over b Q l limit) (order-unique (tables b.lent) Q (valid e) x.1 (order_is (tables b.lent) Q (valid e))) ∙ sym (computed-order e))
      (λ (t : eqb (courier_early b Q).number 0 ≡ false). let n = eqb-false (courier_early b Q).number 0 t in A.refused n ∙ sym (computed-refused n))
      (split (eqb (courier_early b Q).number 0))

  -- And no input gets two.
  pub courier-unique : (a a' : Answer) → CourierAllowed b Q limit a → CourierAllowed b Q limit a' → a ≡ a'
  courier-unique a a' A A' = courier-is a A ∙ sym (courier-is a' A')

-- ---- the parts operation
-- What it does not refuse at once is valid, its list of records matches the tables, and its settled list is good.
pub courier-parts-links : (b : CourierPartsLent) (Q : Query) → (courier_parts_early b Q).number ≡ 0
    → Valid (parts_tables b.lent) Q
    × ((list_length (parts_tables b.lent) b.records).number ≡ 0)
    × ((list_refusal (parts_tables b.lent) b.records).number ≡ 0)
    × ((lists.list_refusal 8 (vertex_count (parts_tables b.lent)) (allowed Q) b.lent.list).number ≡ 0)
unfolding courier_parts_early
courier-parts-links b Q e =
    let l = b.lent in
    let x = or-fine (table_lengths l.hop_size l.vertices l.walks l.hops) _ e in
    let y = or-fine (list_lengths l.list l.parts) _ x.1 in
    let z = or-fine (list_length (parts_tables l) b.records) _ y.1 in
    let w = or-fine (contents (parts_tables l)) _ z.1 in
    let u = or-fine (list_refusal (parts_tables l) b.records) _ w.1 in
    let s = or-fine (query_refusal (parts_tables l) Q) _ u.1 in
    (record { tables = lengths-valid l.hop_size l.vertices l.walks l.hops x.0 w.0; query = query-valid (parts_tables l) Q s.0 }, z.0, u.0, s.1)

-- Its three ways to end.
module _ (b : CourierPartsLent) (Q : Query) where
  pub courier-parts-refused : (courier_parts_early b Q).number ≢ 0 → courier_parts_answer b Q ≡ parts_refused_for (courier_parts_early b Q) b.lent.parts
  unfolding courier_parts_answer
  courier-parts-refused = refused-before (part_list (parts_tables b.lent) Q) b.lent.list b.lent.parts (courier_parts_early b Q)

  pub courier-parts-short : (courier_parts_early b Q).number ≡ 0 → (k : ℕ) → k ≤ length (lists.settled_in b.lent.list)
      → (PartsRoomFor (part_list (parts_tables b.lent) Q) b.lent.list b.lent.parts k → ⊥)
      → ((j : ℕ) → j < k → PartsRoomFor (part_list (parts_tables b.lent) Q) b.lent.list b.lent.parts j)
      → courier_parts_answer b Q ≡ parts_refused_for (record { number = 10; place = k }) (cleared b.lent.parts)
  unfolding courier_parts_answer
  courier-parts-short = refused-short (part_list (parts_tables b.lent) Q) b.lent.list b.lent.parts (courier_parts_early b Q)

  pub courier-parts-fit : (courier_parts_early b Q).number ≡ 0
      → ((j : ℕ) → j ≤ length (lists.settled_in b.lent.list) → PartsRoomFor (part_list (parts_tables b.lent) Q) b.lent.list b.lent.parts j)
      → courier_parts_answer b Q ≡ parts_accepted_for (part_list (parts_tables b.lent) Q) b.lent.list b.lent.parts
  unfolding courier_parts_answer
  courier-parts-fit = all-fits (part_list (parts_tables b.lent) Q) b.lent.list b.lent.parts (courier_parts_early b Q)
