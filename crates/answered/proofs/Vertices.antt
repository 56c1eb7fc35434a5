-- The second demand over any network, of the settled bytes: which vertices an accepted call lists there, and with which figure. Assumes nothing.
use mathlib.Core.Path.{◌≡◌, refl, subst}
use mathlib.Core.Logic.{◌↔◌}
use mathlib.Core.List.{List, []}
use Prim.Native.Nat.{ℕ, ◌+◌, ◌*◌, ◌<◌}
use lib.ListN.{take, drop, take-append-drop}
use Rattle.journeys.specs.Counting.{In}
use Rattle.journeys.specs.Bytes.{be32}
use Rattle.journeys.specs.Order as order
use Rattle.journeys.specs.Order.{Settled}
use Rattle.journeys.proofs.Counting.{in_left}
use Rattle.journeys.proofs.Firsts.{follows-each}
use Rattle.answered.specs.Search.{Search, Orders, refusal, settled_count, finished, steps, S, SettledNames}
use Rattle.answered.proofs.SettledRecords.{stands-exactly, names-exactly}
use Rattle.answered.proofs.Answers.{Complete, the_order, is_order, settled-are, finished-whole}

-- S is part of the order
pub in_order_lem : (k : ℕ) (l : List Settled) (x : Settled) → In x (take k l) → In x l
in_order_lem k l x i = subst (In x) (take-append-drop k l) (in_left (take k l) (drop k l) x i)

module _ (s : Search) (C : Complete s) (accepted : refusal s ≡ 0) where
  module _ (l : List Settled) (O : Orders s l) where
    -- The counted records of the settled bytes are S: a vertex and a distance stand in one of them exactly if they are in S.
    pub settled-record : (v d : ℕ)
        → ((i : ℕ) × (i < settled_count s) × (be32 s.settled_after (8 * i) ≡ v) × (be32 s.settled_after (8 * i + 4) ≡ d)) ↔ In (order.settled v d) (S s l)
    settled-record = let are = settled-are s C accepted l O in stands-exactly s.settled_after s.settled (S s l) (settled_count s) are.0 are.1

    -- In a finished run a counted record names a vertex exactly if the order has it.
    pub names-listed : finished s ≡ 1 → (v : ℕ) → SettledNames s v ↔ ((d : ℕ) × In (order.settled v d) l)
    names-listed f v =
        let are = settled-are s C accepted l O in
        subst (λ (m : List Settled). SettledNames s v ↔ ((d : ℕ) × In (order.settled v d) m)) (finished-whole s C accepted l O f)
        (names-exactly s.settled_after s.settled (S s l) (settled_count s) are.0 are.1 v)

  -- The second word of a counted record is the distance of the vertex in its first word.
  pub vertex-figure : (i : ℕ) → i < settled_count s → s.distance (be32 s.settled_after (8 * i)) (be32 s.settled_after (8 * i + 4))
  vertex-figure i h =
      let l = the_order s C accepted in
      let O = is_order s C accepted in
      let v = be32 s.settled_after (8 * i) in
      let d = be32 s.settled_after (8 * i + 4) in
      (follows-each s.network s.distance s.network.allowed [] l O.steps (order.settled v d) (in_order_lem (steps s l) l (order.settled v d) ((settled-record l O v d).0 (i, h, refl, refl)))).0
