-- The second demand with rides in place of hops, of the settled bytes: which vertices an accepted call lists there, and with which figure. Assumes nothing.
use mathlib.Core.Path.{◌≡◌, refl, subst}
use mathlib.Core.Logic.{◌↔◌}
use mathlib.Core.List.{List}
use Prim.Native.Nat.{ℕ, ◌+◌, ◌*◌, ◌≤◌, ◌<◌}
use Rattle.journeys.specs.Counting.{In}
use Rattle.journeys.specs.Bytes.{be32}
use Rattle.journeys.specs.Query.{Query, allowed}
use Rattle.journeys.specs.Settled as entries
use Rattle.journeys.specs.Settled.{Settled}
use Rattle.boarding.specs.RideJourneys.{RideJourney, RideDistance}
use Rattle.boarding.proofs.RideOrder.{listed-exactly, figure-exactly}
use Rattle.answered.proofs.SettledRecords.{stands-exactly, names-exactly}
use Rattle.answered.proofs.Vertices.{in_order_lem}
use Rattle.ride_demands.specs.RideCall.{RideCall, RideCompleted, refusal, settled_count, finished, read, mode, Orders, steps, S, SettledNames}
use Rattle.ride_demands.proofs.Demands.{valid, the_order, is_order, settled-are, finished-whole}

module _ (c : RideCall) (E : RideCompleted c) (accepted : refusal c ≡ 0) where
  abbrev Q : Query
  Q = c.query

  module _ (l : List Settled) (O : Orders c l) where
    -- The counted records of the settled bytes are S: a vertex and a distance stand in one of them exactly if they are in S.
    pub settled-record : (v d : ℕ)
        → ((i : ℕ) × (i < settled_count c) × (be32 c.settled (8 * i) ≡ v) × (be32 c.settled (8 * i + 4) ≡ d)) ↔ In (entries.settled v d) (S c l)
    settled-record = let are = settled-are c E accepted l O in stands-exactly c.settled c.lent.settled (S c l) (settled_count c) are.0 are.1

    -- In a finished run they are the whole order.
    pub whole-record : finished c ≡ 1 → (v d : ℕ)
        → ((i : ℕ) × (i < settled_count c) × (be32 c.settled (8 * i) ≡ v) × (be32 c.settled (8 * i + 4) ≡ d)) ↔ In (entries.settled v d) l
    whole-record f v d =
        subst
        (λ (m : List Settled). ((i : ℕ) × (i < settled_count c) × (be32 c.settled (8 * i) ≡ v) × (be32 c.settled (8 * i + 4) ≡ d)) ↔ In (entries.settled v d) m)
        (finished-whole c E accepted l O f) (settled-record v d)

    names-listed : finished c ≡ 1 → (v : ℕ) → SettledNames c v ↔ ((d : ℕ) × In (entries.settled v d) l)
    names-listed f v =
        let are = settled-are c E accepted l O in
        subst (λ (m : List Settled). SettledNames c v ↔ ((d : ℕ) × In (entries.settled v d) m)) (finished-whole c E accepted l O f)
        (names-exactly c.settled c.lent.settled (S c l) (settled_count c) are.0 are.1 v)

  -- The second word of a counted record is the figure of the vertex in its first word: the arrival hour less the latest start of a journey with rides from there.
  pub vertex-figure : (i : ℕ) → i < settled_count c → RideDistance (read c) Q (mode c) (be32 c.settled (8 * i)) (be32 c.settled (8 * i + 4))
  vertex-figure i h =
      let l = the_order c E accepted in
      let O = is_order c E accepted in
      let v = be32 c.settled (8 * i) in
      let d = be32 c.settled (8 * i + 4) in
      figure-exactly (read c) Q (mode c) (valid c E accepted) O v d (in_order_lem (steps c l) l (entries.settled v d) ((settled-record l O v d).0 (i, h, refl, refl)))

  -- In a finished run a counted record of the settled bytes names a vertex exactly if a journey with rides from it starts within the allowed time and arrives by the set hour.
  pub vertex-listed : finished c ≡ 1 → (v : ℕ) → SettledNames c v ↔ ((d : ℕ) × (d ≤ allowed Q) × RideJourney (read c) Q (mode c) v d)
  vertex-listed f v =
      let names = names-listed (the_order c E accepted) (is_order c E accepted) f v in
      let exactly = listed-exactly (read c) Q (mode c) (valid c E accepted) (is_order c E accepted) v in
      (λ p. exactly.0 (names.0 p), λ p. names.1 (exactly.1 p))
