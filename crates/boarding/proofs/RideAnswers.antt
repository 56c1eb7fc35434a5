-- The run with a boarding time: there is an answer for every input, and any two answers that the definitions allow are equal. Assumes nothing.
use mathlib.Core.Path.{◌≡◌, sym, ap, ◌∙◌}
use mathlib.Core.Logic.{⊎_elim, ◌≢◌}
use mathlib.Core.Bool.{true, false, cond}
use mathlib.Core.List.{List, []}
use Prim.Native.Nat.{ℕ, ◌*◌, ◌≤◌}
use native.Mathlib.Omega.{arith}
use lib.Dec.{eqb, leb}
use lib.ListN.{length}
use borrow.Author.Tests.{eqb-true, eqb-false, leb-true, eq-eqb, ne_eqb}
use Rattle.journeys.specs.Tables.{vertex_count, hop_count}
use Rattle.journeys.specs.Query.{Query, allowed}
use Rattle.journeys.specs.Settled.{Settled}
use Rattle.journeys.specs.Refusals.{unless, whole_of, table_lengths, contents, query_refusal}
use Rattle.journeys.specs.Valid.{Valid}
use Rattle.journeys.proofs.Tests.{split, cond-true, cond-false}
use Rattle.journeys.proofs.Greedy.{run}
use Rattle.journeys.proofs.Refusals.{or-fine, unless-fine}
use Rattle.journeys.proofs.Valid.{lengths-valid, query-valid}
use Rattle.boarding.specs.RideAnswers.{RideLent, RideAnswer, ride_tables, mode_of, ride_early, ride_refused, ride_over, RideAllowed}
use Rattle.boarding.proofs.Boards.{boarded, aboard_in}
use Rattle.boarding.proofs.Rides.{network_by}
use Rattle.boarding.proofs.RideOrder.{order_of, order_is, order-unique}

-- What is not refused at once is valid, its boarding time is at most 600 s and its scratch has 4 bytes for each hop.
pub ride-links : (b : RideLent) (Q : Query) (boarding : ℕ) → (ride_early b Q boarding).number ≡ 0
    → Valid (ride_tables b) Q × (boarding ≤ 600) × (4 * hop_count (ride_tables b) ≤ length b.scratch)
unfolding ride_early
ride-links b Q boarding e =
    let N = ride_tables b in
    let x = or-fine (table_lengths b.hop_size b.vertices b.walks b.hops) _ e in
    let y = or-fine (unless (whole_of 8 b.settled) 1 4) _ x.1 in
    let z = or-fine (contents N) _ y.1 in
    let w = or-fine (query_refusal N Q) _ z.1 in
    let u = or-fine (unless (leb boarding 600) 7 5) _ w.1 in (
      record { tables = lengths-valid b.hop_size b.vertices b.walks b.hops x.0 z.0; query = query-valid N Q w.0 },
      leb-true boarding 600 (unless-fine (leb boarding 600) 7 5 (omega arith) u.0),
      leb-true (4 * hop_count N) (length b.scratch) (unless-fine _ 18 0 (omega arith) u.1),
    )

-- the answer, computed: for the existence and for the cases
unfoldable pub ride_computed : RideLent → Query → ℕ → ℕ → RideAnswer
ride_computed b Q boarding limit =
    let N = ride_tables b in
    let M = mode_of b boarding in
    cond (eqb (ride_early b Q boarding).number 0) (ride_over b (run (network_by N Q M (aboard_in N Q (boarded N Q M))) (allowed Q) (vertex_count N) []) limit)
    (ride_refused (ride_early b Q boarding) b.settled b.scratch)

module _ (b : RideLent) (Q : Query) (boarding limit : ℕ) where
  valid : (ride_early b Q boarding).number ≡ 0 → Valid (ride_tables b) Q
  valid e = (ride-links b Q boarding e).0

  computed-order : (e : (ride_early b Q boarding).number ≡ 0) → ride_computed b Q boarding limit ≡ ride_over b (order_of (ride_tables b) Q (mode_of b boarding) (valid e)) limit
  unfolding ride_computed order_of
  computed-order e = cond-true _ (ride_refused (ride_early b Q boarding) b.settled b.scratch) (eq-eqb (ride_early b Q boarding).number 0 e)

  computed-refused : (ride_early b Q boarding).number ≢ 0 → ride_computed b Q boarding limit ≡ ride_refused (ride_early b Q boarding) b.settled b.scratch
  unfolding ride_computed
  computed-refused n = cond-false _ (ride_refused (ride_early b Q boarding) b.settled b.scratch) (ne_eqb (ride_early b Q boarding).number 0 n)

  -- Every input gets an answer.
  pub ride-exists : RideAllowed b Q boarding limit (ride_computed b Q boarding limit)
  ride-exists =
      record {
        refused = computed-refused;
        accepted = λ e.
            (order_of (ride_tables b) Q (mode_of b boarding) (valid e), order_is (ride_tables b) Q (mode_of b boarding) (valid e), computed-order e);
      }

  pub ride-is : (a : RideAnswer) → RideAllowed b Q boarding limit a → a ≡ ride_computed b Q boarding limit
  ride-is a A =
      ⊎_elim
      (λ (t : eqb (ride_early b Q boarding).number 0 ≡ true).
      let e = eqb-true (ride_early b Q boarding).number 0 t in
      let x = A.accepted e in
      x.2
      ∙ ap (λ (l : List Settled). ride_over b l limit) (order-unique (ride_tables b) Q (mode_of b boarding) (valid e) x.1 (order_is (ride_tables b) Q (mode_of b boarding) (valid e)))
      ∙ sym (computed-order e))
      (λ (t : eqb (ride_early b Q boarding).number 0 ≡ false). let n = eqb-false (ride_early b Q boarding).number 0 t in A.refused n ∙ sym (computed-refused n))
      (split (eqb (ride_early b Q boarding).number 0))

  -- And no input gets two.
  pub ride-unique : (a a' : RideAnswer) → RideAllowed b Q boarding limit a → RideAllowed b Q boarding limit a' → a ≡ a'
  ride-unique a a' A A' = ride-is a A ∙ sym (ride-is a' A')
