-- The first demand, of `siltbrow_run_boarding` itself, and what an accepted run leaves in the lent bytes. All is said of a call that has completed as its contract says,
-- with an answer slice of 24 bytes (`RideCompleted`), and each theorem says in one sentence what it means. Assumes nothing.
use mathlib.Core.Path.{◌≡◌, refl, sym, ap, subst, ◌∙◌}
use mathlib.Core.Logic.{⊎_elim, ◌↔◌, ◌≢◌}
use mathlib.Core.Bool.{true, false, cond}
use mathlib.Core.List.{List, flat_map}
use Prim.Native.Nat.{ℕ, ◌+◌, ◌/◌, ◌≤◌, ◌<◌, min}
use native.Mathlib.Omega.{arith}
use lib.Dec.{eqb, leb}
use lib.ListN.{length, take, length-take}
use lib.Seq.{take_all}
use borrow.Author.Tests.{eqb-true, eqb-false, eq-eqb, ne_eqb, leb-true, le-leb, lt-leb}
use Rattle.journeys.specs.Bytes.{be32, filled, cleared}
use Rattle.journeys.specs.Query.{Query}
use Rattle.journeys.specs.Settled.{Settled}
use Rattle.journeys.specs.Refusals.{Refusal, unless, fine}
use Rattle.journeys.specs.Answers.{settled_bytes}
use Rattle.journeys.specs.Valid.{Valid}
use Rattle.journeys.proofs.Tests.{split, le-or-lt, cond-true, cond-false}
use Rattle.journeys.proofs.Refusals.{from-none, from_first, unless-good, unless-bad}
use Rattle.boarding.specs.RideAnswers.{RideLent, RideAnswer, ride_tables, mode_of, ride_early, ride_refused, list_room, ride_accepted, ride_over, RideAllowed}
use Rattle.boarding.proofs.RideOrder.{order_of, order_is, order-unique}
use Rattle.boarding.proofs.RideAnswers.{ride-links}
use Rattle.boarding.proofs.RideFits as fits
use Rattle.answered.proofs.SixNumbers.{six-0, six-4, six-8, six-12, six-16, six-20}
use Rattle.ride_demands.specs.RideRan.{ride_answer_bytes}
use Rattle.ride_demands.specs.RideCall.{RideCall, RideCompleted, refusal, place, settled_count, part_count, held_count, finished, read, mode, Orders, steps, S, room}

-- ---- the room of the list: each step lists one vertex more
module _ (b : RideLent) (l : List Settled) (k : ℕ) (made : k ≤ length l) where
  abbrev most : ℕ
  most = length b.settled / 8

  abbrev at : ℕ → Refusal
  at j = unless (leb (length (take j l)) most) 9 j

  listed : (j : ℕ) → j ≤ k → length (take j l) ≡ j
  listed j h = length-take j l ∙ (let z : min j (length l) ≡ j = omega arith in z)

  fits-at : (j : ℕ) → j ≤ k → j ≤ most → at j ≡ fine
  fits-at j h m = unless-good (leb (length (take j l)) most) 9 j (le-leb (length (take j l)) most (omega (arith, listed j h)))

  -- there is room for the list
  room-all : k ≤ most → (list_room b l k).number ≡ 0
  unfolding list_room
  room-all h = ap (λ (r : Refusal). r.number) (from-none at (k + 1) 0 (λ j a c. ap (λ (r : Refusal). r.number) (fits-at j (omega arith) (omega arith))))

  -- or the step behind the last that fits lacks it
  room-short : most < k → list_room b l k ≡ record { number = 9; place = most + 1 }
  unfolding list_room
  room-short h =
      let bad : at (most + 1) ≡ record { number = 9; place = most + 1 } =
      unless-bad (leb (length (take (most + 1) l)) most) 9 (most + 1) (lt-leb (length (take (most + 1) l)) most (omega (arith, listed (most + 1) (omega arith)))) in
      from_first at (k + 1) 0 (most + 1) (omega arith) (omega arith) (λ z. let w : ◌≡◌ {A = ℕ} 9 0 = sym (ap (λ (r : Refusal). r.number) bad) ∙ z in omega (arith, w))
      (λ j a c. ap (λ (r : Refusal). r.number) (fits-at j (omega arith) (omega arith)))
      ∙ bad

-- ---- what the steps may end in
module _ (b : RideLent) (l : List Settled) (limit : ℕ) where
  abbrev k : ℕ
  k = min limit (length l)

  over-fits : k ≤ length b.settled / 8 → ride_over b l limit ≡ ride_accepted b l k
  unfolding ride_over
  over-fits h =
      cond-true (ride_accepted b l k) (ride_refused (list_room b l k) (cleared b.settled) (cleared b.scratch)) (eq-eqb (list_room b l k).number 0 (room-all b l k (omega arith) h))

  over-short : length b.settled / 8 < k → ride_over b l limit ≡ ride_refused (record { number = 9; place = length b.settled / 8 + 1 }) (cleared b.settled) (cleared b.scratch)
  unfolding ride_over
  over-short h =
      let e = room-short b l k (omega arith) h in
      let n : (list_room b l k).number ≢ 0 = λ z. (let w : ◌≡◌ {A = ℕ} 9 0 = sym (ap (λ (r : Refusal). r.number) e) ∙ z in omega (arith, w)) in
      cond-false (ride_accepted b l k) (ride_refused (list_room b l k) (cleared b.settled) (cleared b.scratch)) (ne_eqb (list_room b l k).number 0 n)
      ∙ ap (λ (r : Refusal). ride_refused r (cleared b.settled) (cleared b.scratch)) e

module _ (c : RideCall) (E : RideCompleted c) where
  abbrev b : RideLent
  b = c.lent

  abbrev Q : Query
  Q = c.query

  abbrev early : Refusal
  early = ride_early b Q c.boarding

  abbrev pub given : RideAnswer
  given = (E.0.answered E.1).1.0

  pub allowed-is : RideAllowed b Q c.boarding c.limit given
  allowed-is = (E.0.answered E.1).1.1

  number : (i : ℕ) (field : RideAnswer → ℕ) → ((x : RideAnswer) → be32 (ride_answer_bytes x) i ≡ field x) → be32 c.answer i ≡ field given
  number i field h = ap (λ (l : List ℕ). be32 l i) (E.0.answered E.1).1.4 ∙ h given

  -- the six numbers are those of the answer
  pub numbers-are : (refusal c ≡ given.refusal) × (place c ≡ given.place) × (settled_count c ≡ given.settled_count) × (part_count c ≡ given.part_count) × (held_count c ≡ given.held_count) × (finished c ≡ given.finished)
  numbers-are = (
    number 0 (λ x. x.refusal) (λ x. six-0 x.refusal x.place x.settled_count x.part_count x.held_count x.finished),
    number 4 (λ x. x.place) (λ x. six-4 x.refusal x.place x.settled_count x.part_count x.held_count x.finished),
    number 8 (λ x. x.settled_count) (λ x. six-8 x.refusal x.place x.settled_count x.part_count x.held_count x.finished),
    number 12 (λ x. x.part_count) (λ x. six-12 x.refusal x.place x.settled_count x.part_count x.held_count x.finished),
    number 16 (λ x. x.held_count) (λ x. six-16 x.refusal x.place x.settled_count x.part_count x.held_count x.finished),
    number 20 (λ x. x.finished) (λ x. six-20 x.refusal x.place x.settled_count x.part_count x.held_count x.finished),
  )

  -- what stands in the bytes, where the answer is x
  abbrev Says : RideAnswer → Type 0
  Says x =
      (refusal c ≡ x.refusal) × (place c ≡ x.place) × (settled_count c ≡ x.settled_count) × (finished c ≡ x.finished) × (c.settled ≡ x.settled) × (c.scratch ≡ x.scratch)

  says : (x : RideAnswer) → given ≡ x → Says x
  says x e =
      let n = numbers-are in
      subst Says e (n.0, n.1, n.2, n.5, (E.0.answered E.1).1.2, (E.0.answered E.1).1.3)

  -- ---- demand 1
  -- Every call with an answer slice of 24 bytes is answered.
  pub answered-always : c.returned ≡ 0
  answered-always = (E.0.answered E.1).0

  -- Bad input is refused by number and place, for the first reason in the fixed order, 7 with place 5 for the boarding time and then 18 for the scratch; no byte of
  -- the list's buffer or of the scratch is changed.
  pub refused-first : early.number ≢ 0 → (refusal c ≡ early.number) × (place c ≡ early.place) × (c.settled ≡ b.settled) × (c.scratch ≡ b.scratch)
  unfolding ride_refused
  refused-first n = let s = says (ride_refused early b.settled b.scratch) (allowed-is.refused n) in (s.0, s.1, s.4, s.5)

  -- the answer by the one order of settling
  over-order : early.number ≡ 0 → (l : List Settled) → Orders c l → given ≡ ride_over b l c.limit
  over-order sound l O =
      let x = allowed-is.accepted sound in
      x.2 ∙ ap (λ (m : List Settled). ride_over b m c.limit) (order-unique (read c) Q (mode c) (ride-links b Q c.boarding sound).0 x.1 O)

  -- Sound input is refused for room at the step behind the last that fits, with 9, and list and scratch are zero.
  pub room-refused : early.number ≡ 0 → (l : List Settled) → Orders c l → room c < steps c l
      → (refusal c ≡ 9) × (place c ≡ room c + 1) × (c.settled ≡ cleared b.settled) × (c.scratch ≡ cleared b.scratch)
  unfolding ride_refused
  room-refused sound l O h =
      let s = says (ride_refused (record { number = 9; place = room c + 1 }) (cleared b.settled) (cleared b.scratch)) (over-order sound l O ∙ over-short b l c.limit h) in
      (s.0, s.1, s.4, s.5)

  -- Sound input with room for the list after the steps made is accepted.
  pub room-accepted : early.number ≡ 0 → (l : List Settled) → Orders c l → steps c l ≤ room c → refusal c ≡ 0
  unfolding ride_accepted
  room-accepted sound l O h = (says (ride_accepted b l (steps c l)) (over-order sound l O ∙ over-fits b l c.limit h)).0

  -- its input is sound
  pub accepted-sound : refusal c ≡ 0 → early.number ≡ 0
  accepted-sound accepted =
      ⊎_elim (λ (t : eqb early.number 0 ≡ true). eqb-true early.number 0 t)
      (λ (t : eqb early.number 0 ≡ false).
      let n = eqb-false early.number 0 t in
      absurd (n (sym (refused-first n).0 ∙ accepted)))
      (split (eqb early.number 0))

  had-room : refusal c ≡ 0 → (l : List Settled) → Orders c l → steps c l ≤ room c
  had-room accepted l O =
      ⊎_elim (λ (h : steps c l ≤ room c). h)
      (λ (h : room c < steps c l). absurd (let w : ◌≡◌ {A = ℕ} 9 0 = sym (room-refused (accepted-sound accepted) l O h).0 ∙ accepted in omega (arith, w)))
      (le-or-lt (steps c l) (room c))

  -- Only then is sound input refused with 9.
  pub short-exactly : early.number ≡ 0 → (l : List Settled) → Orders c l → ((refusal c ≡ 9) × (place c ≡ room c + 1)) ↔ (room c < steps c l)
  short-exactly sound l O = (
    λ p.
        ⊎_elim (λ (h : steps c l ≤ room c). absurd (let w : ◌≡◌ {A = ℕ} 9 0 = sym p.0 ∙ room-accepted sound l O h in omega (arith, w)))
        (λ (h : room c < steps c l). h)
        (le-or-lt (steps c l) (room c)),
    λ h. let z = room-refused sound l O h in (z.0, z.1),
  )

  -- A call is accepted exactly if its input is sound and its list has room after the steps made.
  pub accepted-exactly : (refusal c ≡ 0) ↔ ((early.number ≡ 0) × ((l : List Settled) → Orders c l → steps c l ≤ room c))
  accepted-exactly = (
    λ accepted. (accepted-sound accepted, had-room accepted),
    λ p.
        let ok = (ride-links b Q c.boarding p.0).0 in
        let l = order_of (read c) Q (mode c) ok in
        let O = order_is (read c) Q (mode c) ok in
        room-accepted p.0 l O (p.1 l O),
  )

  -- In every refusal nothing is listed: the settled count and finished are 0.
  pub refused-counts : refusal c ≢ 0 → (settled_count c ≡ 0) × (finished c ≡ 0)
  unfolding ride_refused
  refused-counts n =
      ⊎_elim
      (λ (t : eqb early.number 0 ≡ true).
      let sound = eqb-true early.number 0 t in
      let x = allowed-is.accepted sound in
      ⊎_elim (λ (h : steps c x.0 ≤ room c). absurd (n (room-accepted sound x.0 x.1 h)))
      (λ (h : room c < steps c x.0).
      let s = says (ride_refused (record { number = 9; place = room c + 1 }) (cleared b.settled) (cleared b.scratch)) (x.2 ∙ over-short b x.0 c.limit h) in
      (s.2, s.3))
      (le-or-lt (steps c x.0) (room c)))
      (λ (t : eqb early.number 0 ≡ false). let s = says (ride_refused early b.settled b.scratch) (allowed-is.refused (eqb-false early.number 0 t)) in (s.2, s.3))
      (split (eqb early.number 0))

  -- No answer counts a held record or a part, and 8 never occurs.
  pub none-held : (held_count c ≡ 0) × (part_count c ≡ 0)
  none-held = let z = fits.none-held b Q c.boarding c.limit given allowed-is in (numbers-are.4 ∙ z.0, numbers-are.3 ∙ z.1)

  pub never-8 : refusal c ≢ 8
  never-8 e = fits.never-8 b Q c.boarding c.limit given allowed-is (sym numbers-are.0 ∙ e)

  -- ---- what an accepted run leaves; l is the order of settling
  module _ (accepted : refusal c ≡ 0) where
    pub valid : Valid (read c) Q
    valid = (ride-links b Q c.boarding (accepted-sound accepted)).0

    abbrev pub the_order : List Settled
    the_order = order_of (read c) Q (mode c) valid

    pub is_order : Orders c the_order
    is_order = order_is (read c) Q (mode c) valid

    module _ (l : List Settled) (O : Orders c l) where
      left : Says (ride_accepted b l (steps c l))
      left = says (ride_accepted b l (steps c l)) (over-order (accepted-sound accepted) l O ∙ over-fits b l c.limit (had-room accepted l O))

      -- The settled bytes are S in its order, with zero behind it,
      pub settled-are : (settled_count c ≡ length (S c l)) × (c.settled ≡ filled b.settled (flat_map settled_bytes (S c l)))
      unfolding ride_accepted
      settled-are = (left.2, left.4)

      -- the scratch is zero,
      pub scratch-zero : c.scratch ≡ cleared b.scratch
      unfolding ride_accepted
      scratch-zero = left.5

      -- and a finished run has settled the whole order.
      pub finished-whole : finished c ≡ 1 → S c l ≡ l
      unfolding ride_accepted
      finished-whole f =
          let z : ◌≡◌ {A = ℕ} (cond (leb (length l) (steps c l)) 1 0) 1 = sym left.3 ∙ f in
          ⊎_elim (λ (t : leb (length l) (steps c l) ≡ true). take_all (steps c l) l (leb-true (length l) (steps c l) t))
          (λ (t : leb (length l) (steps c l) ≡ false). absurd (let w : ◌≡◌ {A = ℕ} 0 1 = rw t at z in omega arith))
          (split (leb (length l) (steps c l)))
