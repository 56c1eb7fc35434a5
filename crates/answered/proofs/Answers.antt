-- The first demand over any network, and what an accepted run leaves in the lent bytes. Each theorem says in one sentence what it means. Assumes nothing.
use mathlib.Core.Path.{◌≡◌, refl, sym, ap, subst, ◌∙◌}
use mathlib.Core.Logic.{⊎_elim, ◌↔◌, ◌≢◌}
use mathlib.Core.Bool.{true, false, cond}
use mathlib.Core.List.{List, flat_map}
use Prim.Native.Nat.{ℕ, ◌≤◌, ◌<◌}
use native.Mathlib.Omega.{arith}
use lib.Dec.{eqb, leb}
use lib.ListN.{length}
use lib.Seq.{take_all}
use borrow.Author.Tests.{eqb-true, eqb-false, eq-eqb, ne_eqb, leb-true}
use Rattle.journeys.specs.Bytes.{be32, filled, cleared}
use Rattle.journeys.specs.Order.{Settled}
use Rattle.journeys.specs.Network.{distance_in, held_list}
use Rattle.journeys.specs.Refusals as refusals
use Rattle.journeys.specs.Answers.{Answer, held_bytes, settled_bytes}
use Rattle.journeys.specs.RunAnswers.{RoomFor, room_for, room_up_to_for, accepted_for, late_for, answer_for}
use Rattle.journeys.proofs.Tests.{split, cond-true, cond-false}
use Rattle.journeys.proofs.Refusals.{room_for-is, room_for-exactly, room_for-first}
use Rattle.journeys.proofs.Ways.{Ways}
use Rattle.journeys.proofs.Told as theory
use Rattle.journeys.proofs.Told.{Told}
use Rattle.calls.specs.CallBytes.{answer_bytes}
use Rattle.answered.proofs.SixNumbers.{six-0, six-4, six-8, six-12, six-16, six-20}
use Rattle.answered.specs.Search.{Search, Orders, Ruled, refusal, place, settled_count, part_count, held_count, finished, steps, S}

-- the six numbers as they stand in the answer slice
pub refusal-read : (a : Answer) → be32 (answer_bytes a) 0 ≡ a.refusal
refusal-read a = six-0 a.refusal a.place a.settled_count 0 a.held_count a.finished

place_read : (a : Answer) → be32 (answer_bytes a) 4 ≡ a.place
place_read a = six-4 a.refusal a.place a.settled_count 0 a.held_count a.finished

pub settled-read : (a : Answer) → be32 (answer_bytes a) 8 ≡ a.settled_count
settled-read a = six-8 a.refusal a.place a.settled_count 0 a.held_count a.finished

parts-read : (a : Answer) → be32 (answer_bytes a) 12 ≡ 0
parts-read a = six-12 a.refusal a.place a.settled_count 0 a.held_count a.finished

held-read : (a : Answer) → be32 (answer_bytes a) 16 ≡ a.held_count
held-read a = six-16 a.refusal a.place a.settled_count 0 a.held_count a.finished

pub finished-read : (a : Answer) → be32 (answer_bytes a) 20 ≡ a.finished
finished-read a = six-20 a.refusal a.place a.settled_count 0 a.held_count a.finished

-- The call has completed as its contract says, with an answer slice of 24 bytes; and where its input is not refused, the distances are those of the network.
pub record Complete (s : Search) : Type 1 where
  pub ways : Ways
  pub told : s.early.number ≡ 0 → Told s.network ways s.distance
  pub given : Answer
  pub ruled : Ruled s given
  pub held_is : s.held_after ≡ given.held
  pub settled_is : s.settled_after ≡ given.settled
  pub answer-is : s.answer ≡ answer_bytes given

-- an answer that refuses counts nothing
abbrev NoneCounted : Answer → Type 0
NoneCounted a = (a.settled_count ≡ 0) × (a.held_count ≡ 0) × (a.finished ≡ 0)

-- what the steps may end in: the answer with room after all of them, or that the earliest lacks it
module _ (s : Search) (l : List Settled) where
  abbrev k : ℕ
  k = steps s l

  abbrev after : Answer
  after = accepted_for s.network s.held s.settled l k

  abbrev up_to : refusals.Refusal
  up_to = room_up_to_for s.network s.held s.settled l k

  abbrev late : Answer
  late = late_for s.held s.settled up_to

  abbrev over : Answer
  over = answer_for s.network s.held s.settled l s.limit

  over-fits : up_to.number ≡ 0 → over ≡ after
  unfolding answer_for
  over-fits e = cond-true after late (eq-eqb up_to.number 0 e)

  over-late : up_to.number ≢ 0 → over ≡ late
  unfolding answer_for
  over-late n = cond-false after late (ne_eqb up_to.number 0 n)

  over-counts : over.refusal ≢ 0 → NoneCounted over
  unfolding accepted_for late_for
  over-counts n =
      ⊎_elim (λ (t : eqb up_to.number 0 ≡ true). absurd (n (ap (λ (a : Answer). a.refusal) (over-fits (eqb-true up_to.number 0 t)))))
      (λ (t : eqb up_to.number 0 ≡ false). subst NoneCounted (sym (over-late (eqb-false up_to.number 0 t))) (refl, refl, refl))
      (split (eqb up_to.number 0))

  -- accepted means that no step lacks room
  over-room : over.refusal ≡ 0 → up_to.number ≡ 0
  unfolding late_for
  over-room e =
      ⊎_elim (λ (t : eqb up_to.number 0 ≡ true). eqb-true up_to.number 0 t)
      (λ (t : eqb up_to.number 0 ≡ false). absurd (eqb-false up_to.number 0 t (ap (λ (a : Answer). a.refusal) (sym (over-late (eqb-false up_to.number 0 t))) ∙ e)))
      (split (eqb up_to.number 0))

module _ (s : Search) (C : Complete s) where
  abbrev a : Answer
  a = C.given

  number : (i : ℕ) (field : Answer → ℕ) → ((x : Answer) → be32 (answer_bytes x) i ≡ field x) → be32 s.answer i ≡ field a
  number i field h = ap (λ (l : List ℕ). be32 l i) C.answer-is ∙ h a

  -- ---- demand 1
  -- Bad input is refused by number and place, for the first reason in the fixed order, and no byte of the two buffers is changed.
  pub refused-first : s.early.number ≢ 0
      → (refusal s ≡ s.early.number) × (place s ≡ s.early.place) × (s.held_after ≡ s.held) × (s.settled_after ≡ s.settled)
  refused-first n =
      let e = C.ruled.refused n in (
        number 0 (λ x. x.refusal) refusal-read ∙ ap (λ (x : Answer). x.refusal) e,
        number 4 (λ x. x.place) place_read ∙ ap (λ (x : Answer). x.place) e,
        C.held_is ∙ ap (λ (x : Answer). x.held) e,
        C.settled_is ∙ ap (λ (x : Answer). x.settled) e,
      )

  -- the answer by the one order of settling
  over-order : s.early.number ≡ 0 → (l : List Settled) → Orders s l → a ≡ over s l
  over-order sound l O =
      let x = C.ruled.accepted sound in
      x.2 ∙ ap (over s) (theory.order-unique s.network C.ways s.distance (C.told sound) x.1 O)

  -- Sound input that lacks room is refused at the earliest step after which a table or list would be larger than lent, with the lowest number there, and both
  -- buffers are zero.
  pub room-refused : s.early.number ≡ 0 → (l : List Settled) → Orders s l → (j : ℕ) → j ≤ steps s l → ¬ RoomFor s.network s.held s.settled l j
      → ((i : ℕ) → i < j → RoomFor s.network s.held s.settled l i)
      → (refusal s ≡ (room_for s.network s.held s.settled l j).number)
      × (place s ≡ (room_for s.network s.held s.settled l j).place)
      × (s.held_after ≡ cleared s.held)
      × (s.settled_after ≡ cleared s.settled)
  unfolding late_for
  room-refused sound l O j h lacks before =
      let first = room_for-first s.network s.held s.settled l (steps s l) j h lacks before in
      let some : (up_to s l).number ≢ 0 = λ z. lacks ((room_for-is s.network s.held s.settled l j).0 (ap (λ (y : refusals.Refusal). y.number) (sym first) ∙ z)) in
      let e : a ≡ late_for s.held s.settled (room_for s.network s.held s.settled l j) =
      over-order sound l O ∙ over-late s l some ∙ ap (late_for s.held s.settled) first in (
        number 0 (λ x. x.refusal) refusal-read ∙ ap (λ (x : Answer). x.refusal) e,
        number 4 (λ x. x.place) place_read ∙ ap (λ (x : Answer). x.place) e,
        C.held_is ∙ ap (λ (x : Answer). x.held) e,
        C.settled_is ∙ ap (λ (x : Answer). x.settled) e,
      )

  -- Sound input with room after every step made is accepted.
  pub room-accepted : s.early.number ≡ 0 → (l : List Settled) → Orders s l → ((j : ℕ) → j ≤ steps s l → RoomFor s.network s.held s.settled l j) → refusal s ≡ 0
  unfolding accepted_for
  room-accepted sound l O all =
      number 0 (λ x. x.refusal) refusal-read
      ∙ ap (λ (x : Answer). x.refusal) (over-order sound l O ∙ over-fits s l ((room_for-exactly s.network s.held s.settled l (steps s l)).1 all))

  -- A run counts no parts.
  pub parts_none : part_count s ≡ 0
  parts_none = number 12 (λ x. 0) parts-read

  none-counted : a.refusal ≢ 0 → NoneCounted a
  none-counted n =
      ⊎_elim
      (λ (t : eqb s.early.number 0 ≡ true).
      let x = C.ruled.accepted (eqb-true s.early.number 0 t) in
      subst NoneCounted (sym x.2) (over-counts s x.0 (λ z. n (ap (λ (y : Answer). y.refusal) x.2 ∙ z))))
      (λ (t : eqb s.early.number 0 ≡ false). subst NoneCounted (sym (C.ruled.refused (eqb-false s.early.number 0 t))) (refl, refl, refl))
      (split (eqb s.early.number 0))

  -- In every refusal nothing is counted: the settled, part and held counts are 0, and finished is 0.
  pub refused-counts : refusal s ≢ 0 → (settled_count s ≡ 0) × (part_count s ≡ 0) × (held_count s ≡ 0) × (finished s ≡ 0)
  refused-counts n =
      let z = none-counted (λ e. n (number 0 (λ x. x.refusal) refusal-read ∙ e)) in (
        number 8 (λ x. x.settled_count) settled-read ∙ z.0,
        parts_none,
        number 16 (λ x. x.held_count) held-read ∙ z.1,
        number 20 (λ x. x.finished) finished-read ∙ z.2,
      )

  -- ---- an accepted run
  -- its input is sound
  pub accepted-sound : refusal s ≡ 0 → s.early.number ≡ 0
  accepted-sound accepted =
      ⊎_elim (λ (t : eqb s.early.number 0 ≡ true). eqb-true s.early.number 0 t)
      (λ (t : eqb s.early.number 0 ≡ false).
      let n = eqb-false s.early.number 0 t in
      absurd (n (sym (refused-first n).0 ∙ accepted)))
      (split (eqb s.early.number 0))

  -- it has an order
  pub the_order : refusal s ≡ 0 → List Settled
  the_order accepted = (C.ruled.accepted (accepted-sound accepted)).0

  pub is_order : (accepted : refusal s ≡ 0) → Orders s (the_order accepted)
  unfolding the_order
  is_order accepted = (C.ruled.accepted (accepted-sound accepted)).1

  had-room : (accepted : refusal s ≡ 0) (l : List Settled) → Orders s l → (up_to s l).number ≡ 0
  had-room accepted l O = over-room s l (ap (λ (x : Answer). x.refusal) (sym (over-order (accepted-sound accepted) l O)) ∙ sym (number 0 (λ x. x.refusal) refusal-read) ∙ accepted)

  -- A call is accepted exactly if its input is sound and has room after every step made.
  pub accepted-exactly : (refusal s ≡ 0) ↔ ((s.early.number ≡ 0) × ((l : List Settled) → Orders s l → (j : ℕ) → j ≤ steps s l → RoomFor s.network s.held s.settled l j))
  accepted-exactly = (
    λ accepted. (accepted-sound accepted, λ l O. (room_for-exactly s.network s.held s.settled l (steps s l)).0 (had-room accepted l O)),
    λ p.
        let told = C.told p.0 in
        let l = theory.order_of s.network C.ways s.distance told in
        let O = theory.order_is s.network C.ways s.distance told in
        room-accepted p.0 l O (p.1 l O),
  )

  -- ---- what an accepted run leaves; l is the order of settling
  module _ (accepted : refusal s ≡ 0) (l : List Settled) (O : Orders s l) where
    is : a ≡ after s l
    is = over-order (accepted-sound accepted) l O ∙ over-fits s l (had-room accepted l O)

    -- The settled bytes are S in its order, with zero behind it.
    pub settled-are : (settled_count s ≡ length (S s l)) × (s.settled_after ≡ filled s.settled (flat_map settled_bytes (S s l)))
    unfolding accepted_for
    settled-are = (number 8 (λ x. x.settled_count) settled-read ∙ ap (λ (x : Answer). x.settled_count) is, C.settled_is ∙ ap (λ (x : Answer). x.settled) is)

    -- The held bytes are the working table ascending by vertex, with zero behind it.
    pub held-are :
        (held_count s ≡ length (held_list s.network (distance_in (S s l))))
        × (s.held_after ≡ filled s.held (flat_map held_bytes (held_list s.network (distance_in (S s l)))))
    unfolding accepted_for
    held-are = (number 16 (λ x. x.held_count) held-read ∙ ap (λ (x : Answer). x.held_count) is, C.held_is ∙ ap (λ (x : Answer). x.held) is)

    -- A finished run has settled the whole order.
    pub finished-whole : finished s ≡ 1 → S s l ≡ l
    unfolding accepted_for
    finished-whole f =
        let z : ◌≡◌ {A = ℕ} (cond (leb (length l) (steps s l)) 1 0) 1 = sym (number 20 (λ x. x.finished) finished-read ∙ ap (λ (x : Answer). x.finished) is) ∙ f in
        ⊎_elim (λ (t : leb (length l) (steps s l) ≡ true). take_all (steps s l) l (leb-true (length l) (steps s l) t))
        (λ (t : leb (length l) (steps s l) ≡ false). absurd (let w : ◌≡◌ {A = ℕ} 0 1 = rw t at z in omega arith))
        (split (leb (length l) (steps s l)))
