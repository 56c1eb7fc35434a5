-- There is an answer for every input, and any two answers that the definitions allow are equal. Assumes nothing.
use mathlib.Core.Path.{◌≡◌, sym, ap, ◌∙◌, refl, subst}
use mathlib.Core.Logic.{◌⊎◌, inl, inr, ⊎_elim, ◌≢◌}
use mathlib.Core.Bool.{true, false, cond}
use mathlib.Core.List.{List, [], flat_map}
use Prim.Native.Nat.{ℕ, min, ◌≤◌, ◌/◌}
use native.Mathlib.Omega.{arith}
use lib.Dec.{eqb, leb}
use lib.ListN.{length, take}
use lib.Seq.{take_all}
use borrow.Author.Tests.{eqb-true, eqb-false, eq-eqb, ne_eqb, leb-true}
use Rattle.journeys.proofs.Refusals.{room-exactly}
use Rattle.journeys.specs.Bytes.{filled}
use Rattle.journeys.specs.Tables.{vertex_count}
use Rattle.journeys.specs.Query.{Query, allowed}
use Rattle.journeys.specs.Order.{Settled, IsOrder}
use Rattle.journeys.specs.Records.{network}
use Rattle.journeys.specs.Answers.{Lent, Answer, tables, early, refused_early, refused_late, settled_bytes, room_up_to, accepted_after, answer_over, Allowed, late_for, accepted_for, answer_for}
use Rattle.journeys.proofs.Tests.{split, cond-true, cond-false}
use Rattle.journeys.proofs.Greedy.{run}
use Rattle.journeys.proofs.Valid.{early-valid}
use Rattle.journeys.proofs.OrderLaws.{order_of, order_is, order-unique}

-- the answer, computed: for the existence and for the marked cases
unfoldable pub computed : Lent → Query → ℕ → Answer
computed b Q limit =
    cond (eqb (early b Q).number 0) (answer_over b Q (run (network (tables b) Q) (allowed Q) (vertex_count (tables b)) []) limit) (refused_early b (early b Q))

module _ (b : Lent) (Q : Query) (limit : ℕ) where
  computed-order : (e : (early b Q).number ≡ 0) → computed b Q limit ≡ answer_over b Q (order_of (tables b) Q (early-valid b Q e)) limit
  unfolding computed order_of
  computed-order e = cond-true _ (refused_early b (early b Q)) (eq-eqb (early b Q).number 0 e)

  computed-refused : (early b Q).number ≢ 0 → computed b Q limit ≡ refused_early b (early b Q)
  unfolding computed
  computed-refused n = cond-false _ (refused_early b (early b Q)) (ne_eqb (early b Q).number 0 n)

  -- Every input gets an answer.
  pub answer-exists : Allowed b Q limit (computed b Q limit)
  answer-exists =
      record {
        refused = computed-refused;
        accepted = λ e. (order_of (tables b) Q (early-valid b Q e), order_is (tables b) Q (early-valid b Q e), computed-order e);
      }

  pub answer-is : (a : Answer) → Allowed b Q limit a → a ≡ computed b Q limit
  answer-is a A =
      ⊎_elim
      (λ (t : eqb (early b Q).number 0 ≡ true).
      let e = eqb-true (early b Q).number 0 t in
      let x = A.accepted e in
      let ok = early-valid b Q e in
      x.2 ∙ ap (λ (l : List Settled). answer_over b Q l limit) (order-unique (tables b) Q ok x.1 (order_is (tables b) Q ok)) ∙ sym (computed-order e))
      (λ (t : eqb (early b Q).number 0 ≡ false). let n = eqb-false (early b Q).number 0 t in A.refused n ∙ sym (computed-refused n))
      (split (eqb (early b Q).number 0))

  -- And no input gets two.
  pub answer-unique : (a a' : Answer) → Allowed b Q limit a → Allowed b Q limit a' → a ≡ a'
  answer-unique a a' A A' = answer-is a A ∙ sym (answer-is a' A')

  -- an accepted run: the order, the steps made, room at each of them
  pub record Accepted (a : Answer) : Type 0 where
    pub fine : (early b Q).number ≡ 0
    pub order : List Settled
    pub is_order : IsOrder (tables b) Q order
    pub room : (room_up_to b Q order (min limit (length order))).number ≡ 0
    pub is : a ≡ accepted_after b Q order (min limit (length order))

  -- Refusal 0 means accepted.
  pub accepted-run : (a : Answer) → Allowed b Q limit a → a.refusal ≡ 0 → Accepted a
  unfolding answer_for late_for refused_early
  accepted-run a A r =
      ⊎_elim
      (λ (t : eqb (early b Q).number 0 ≡ true).
      let e = eqb-true (early b Q).number 0 t in
      let x = A.accepted e in
      over e x.0 x.1 (split (eqb (room_up_to b Q x.0 (min limit (length x.0))).number 0)) x.2)
      (λ (t : eqb (early b Q).number 0 ≡ false).
      let n = eqb-false (early b Q).number 0 t in
      absurd (n (ap (λ (y : Answer). y.refusal) (sym (A.refused n)) ∙ r)))
      (split (eqb (early b Q).number 0))
    where
      over : (early b Q).number ≡ 0 → (l : List Settled) → IsOrder (tables b) Q l
          → (eqb (room_up_to b Q l (min limit (length l))).number 0 ≡ true) ⊎ (eqb (room_up_to b Q l (min limit (length l))).number 0 ≡ false) → a ≡ answer_over b Q l limit → Accepted a
      over e l O (inl t) q = record { fine = e; order = l; is_order = O; room = eqb-true _ 0 t; is = q ∙ cond-true (accepted_after b Q l (min limit (length l))) _ t }
      over e l O (inr t) q =
          let late = refused_late b (room_up_to b Q l (min limit (length l))) in
          absurd (eqb-false (room_up_to b Q l (min limit (length l))).number 0 t (ap (λ (y : Answer). y.refusal) (sym (q ∙ cond-false (accepted_after b Q l (min limit (length l))) late t)) ∙ r))

  -- An accepted run that is finished lists the whole order.
  pub finished-all : (a : Answer) (x : Accepted a) → a.finished ≡ 1
      → (a.settled_count ≡ length x.order) × (a.settled ≡ filled b.settled (flat_map settled_bytes x.order))
  unfolding accepted_for
  finished-all a x f =
      ⊎_elim
      (λ (t : leb (length x.order) k ≡ true).
      let q : take k x.order ≡ x.order = take_all k x.order (leb-true (length x.order) k t) in (
        ap (λ (y : Answer). y.settled_count) x.is ∙ ap length q,
        ap (λ (y : Answer). y.settled) x.is ∙ ap (λ (S : List Settled). filled b.settled (flat_map settled_bytes S)) q,
      ))
      (λ (t : leb (length x.order) k ≡ false).
      let z : cond (leb (length x.order) k) 1 0 ≡ 1 = sym (ap (λ (y : Answer). y.finished) x.is) ∙ f in
      absurd (let w : ◌≡◌ {A = ℕ} 0 1 = rw t at z in omega arith))
      (split (leb (length x.order) k))
    where
      k : ℕ
      k = min limit (length x.order)

-- An answer counts no more records than were lent.
module _ (b : Lent) (Q : Query) (limit : ℕ) where
  abbrev pub Within : Answer → Type 0
  Within a = (a.settled_count ≤ length b.settled / 8) × (a.held_count ≤ length b.held / 16)

  none-counted : (a : Answer) → a.settled_count ≡ 0 → a.held_count ≡ 0 → Within a
  none-counted a x y = (omega arith, omega arith)

  over-within : (l : List Settled) → Within (answer_over b Q l limit)
  unfolding answer_for accepted_for late_for
  over-within l = go (split (eqb (room_up_to b Q l k).number 0))
    where
      k : ℕ
      k = min limit (length l)

      go : (eqb (room_up_to b Q l k).number 0 ≡ true) ⊎ (eqb (room_up_to b Q l k).number 0 ≡ false)
          → Within (cond (eqb (room_up_to b Q l k).number 0) (accepted_after b Q l k) (refused_late b (room_up_to b Q l k)))
      go (inl t) =
          let R = (room-exactly b Q l k).0 (eqb-true _ 0 t) k (let z : k ≤ k = omega arith in z) in
          subst Within (sym (cond-true (accepted_after b Q l k) (refused_late b (room_up_to b Q l k)) t)) (R.1, R.0)
      go (inr t) =
          subst Within (sym (cond-false (accepted_after b Q l k) (refused_late b (room_up_to b Q l k)) t)) (none-counted (refused_late b (room_up_to b Q l k)) refl refl)

  pub counts-within : (a : Answer) → Allowed b Q limit a → Within a
  unfolding refused_early
  counts-within a A =
      ⊎_elim (λ (t : eqb (early b Q).number 0 ≡ true). let x = A.accepted (eqb-true _ 0 t) in subst Within (sym x.2) (over-within x.0))
      (λ (t : eqb (early b Q).number 0 ≡ false).
      subst Within (sym (A.refused (eqb-false _ 0 t))) (none-counted (refused_early b (early b Q)) refl refl)) (split (eqb (early b Q).number 0))
