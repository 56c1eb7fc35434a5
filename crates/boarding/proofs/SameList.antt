-- With no boarding time an accepted ordinary run and the mode give the same settled list, byte for byte, whatever the trips are. Assumes nothing.
use mathlib.Core.Path.{◌≡◌, refl, sym, ap, ap₂, ◌∙◌}
use mathlib.Core.List.{List}
use Prim.Native.Nat.{ℕ, ◌+◌, ◌*◌, ◌/◌, ◌≤◌, min}
use native.Mathlib.Omega.{arith}
use lib.Dec.{leb}
use lib.ListN.{length, take}
use borrow.Author.Tests.{eq-eqb, le-leb}
use Rattle.journeys.specs.Tables.{hop_count}
use Rattle.journeys.specs.Query.{Query}
use Rattle.journeys.specs.Settled.{Settled}
use Rattle.journeys.specs.Refusals.{Refusal, unless, or_else, whole_of, table_lengths, buffer_lengths, contents, query_refusal}
use Rattle.journeys.specs.Answers.{Lent, Answer, tables, early, room_up_to, Allowed, accepted_for}
use Rattle.journeys.specs.PartAnswers.{parts_answer}
use Rattle.journeys.specs.OneRun.{own_list}
use Rattle.journeys.specs.Marked.{parts_over}
use Rattle.journeys.proofs.Tests.{cond-true}
use Rattle.journeys.proofs.Refusals.{or-fine, or-next, from-none, unless-good, room-exactly}
use Rattle.journeys.proofs.Valid.{early-valid}
use Rattle.journeys.proofs.OrderLaws.{order-unique}
use Rattle.journeys.proofs.Determined.{accepted-run}
use Rattle.boarding.specs.RideAnswers.{RideLent, RideAnswer, mode_of, ride_early, list_room, ride_accepted, ride_over, RideAllowed}
use Rattle.boarding.proofs.Changing.{no-time-order}

-- the same tables and list buffer, and a scratch in place of the held buffer
abbrev pub with_scratch : Lent → List ℕ → RideLent
with_scratch b scratch = record { vertices = b.vertices; walks = b.walks; hops = b.hops; hop_size = b.hop_size; settled = b.settled; scratch = scratch }

module _ (b : Lent) (scratch : List ℕ) (Q : Query) where
  -- What the ordinary run does not refuse at once is not refused here, if the scratch is long enough.
  pub not-refused : (early b Q).number ≡ 0 → 4 * hop_count (tables b) ≤ length scratch → (ride_early (with_scratch b scratch) Q 0).number ≡ 0
  unfolding early ride_early buffer_lengths
  not-refused e h =
      let x = or-fine (table_lengths b.hop_size b.vertices b.walks b.hops) _ e in
      let y = or-fine (buffer_lengths b.held b.settled) _ x.1 in
      let w = or-fine (unless (whole_of 16 b.held) 1 3) _ y.0 in
      let z = or-fine (contents (tables b)) _ y.1 in
      let room : (unless (leb (4 * hop_count (tables b)) (length scratch)) 18 0).number ≡ 0 =
      ap (λ (r : Refusal). r.number) (unless-good (leb (4 * hop_count (tables b)) (length scratch)) 18 0 (le-leb _ _ h)) in
      let low : (unless (leb 0 600) 7 5).number ≡ 0 = ap (λ (r : Refusal). r.number) (unless-good (leb 0 600) 7 5 refl) in
      let q = both (unless (leb 0 600) 7 5) _ low room in
      let u = both (query_refusal (tables b) Q) _ z.1 q in
      both (table_lengths b.hop_size b.vertices b.walks b.hops) _ x.0 (both (unless (whole_of 8 b.settled) 1 4) _ w.1 (both (contents (tables b)) _ z.0 u))
    where
      both : (a c : Refusal) → a.number ≡ 0 → c.number ≡ 0 → (or_else a c).number ≡ 0
      both a c p q = ap (λ (r : Refusal). r.number) (or-next a c p) ∙ q

  -- where the ordinary run has room at every step, so has the list
  room-here : (l : List Settled) (k : ℕ) → (room_up_to b Q l k).number ≡ 0 → (list_room (with_scratch b scratch) l k).number ≡ 0
  unfolding list_room
  room-here l k r =
      let R = (room-exactly b Q l k).0 r in
      ap (λ (x : Refusal). x.number)
      (from-none (λ j. unless (leb (length (take j l)) (length b.settled / 8)) 9 j) (k + 1) 0
      (λ j z h. ap (λ (x : Refusal). x.number) (unless-good (leb (length (take j l)) (length b.settled / 8)) 9 j (le-leb _ _ (R j (let q : j ≤ k = omega arith in q)).1))))

  -- With no boarding time the mode accepts what the ordinary run accepts, and its list is the same: the count, the bytes, and whether it is finished.
  pub no-time-answer : (limit : ℕ) (a : Answer) → Allowed b Q limit a → a.refusal ≡ 0 → 4 * hop_count (tables b) ≤ length scratch
      → (c : RideAnswer) → RideAllowed (with_scratch b scratch) Q 0 limit c
      → (c.refusal ≡ 0) × (c.settled_count ≡ a.settled_count) × (c.finished ≡ a.finished) × (c.settled ≡ a.settled)
  unfolding ride_over ride_accepted accepted_for
  no-time-answer limit a A r h c C =
      let x = accepted-run b Q limit a A r in
      let y = C.accepted (not-refused x.fine h) in
      let ok = early-valid b Q x.fine in
      let l = x.order in
      let k = min limit (length l) in
      let same : y.0 ≡ l = order-unique (tables b) Q ok ((no-time-order (tables b) Q (mode_of (with_scratch b scratch) 0) ok refl).0 y.1) x.is_order in
      let is : c ≡ ride_accepted (with_scratch b scratch) l k =
      y.2 ∙ ap (λ (m : List Settled). ride_over (with_scratch b scratch) m limit) same ∙ cond-true (ride_accepted (with_scratch b scratch) l k) _ (eq-eqb _ 0 (room-here l k x.room)) in (
        ap (λ (z : RideAnswer). z.refusal) is,
        ap (λ (z : RideAnswer). z.settled_count) is ∙ sym (ap (λ (z : Answer). z.settled_count) x.is),
        ap (λ (z : RideAnswer). z.finished) is ∙ sym (ap (λ (z : Answer). z.finished) x.is),
        ap (λ (z : RideAnswer). z.settled) is ∙ sym (ap (λ (z : Answer). z.settled) x.is),
      )

  -- So are the parts that are made of the two lists, in any part buffer.
  pub no-time-parts : (limit : ℕ) (a : Answer) → Allowed b Q limit a → a.refusal ≡ 0 → 4 * hop_count (tables b) ≤ length scratch
      → (c : RideAnswer) → RideAllowed (with_scratch b scratch) Q 0 limit c → (parts : List ℕ)
      → parts_answer (parts_over b (take (8 * c.settled_count) c.settled) parts) Q ≡ parts_answer (parts_over b (own_list a) parts) Q
  no-time-parts limit a A r h c C parts =
      let e = no-time-answer limit a A r h c C in
      ap (λ (l : List ℕ). parts_answer (parts_over b l parts) Q) (ap₂ (λ (n : ℕ) (x : List ℕ). take (8 * n) x) e.1 e.3)
