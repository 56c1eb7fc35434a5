-- The second demand, of the settled bytes: which vertices an accepted call lists there, and with which figure. Assumes nothing.
use mathlib.Core.Path.{◌≡◌}
use mathlib.Core.Logic.{◌↔◌}
use mathlib.Core.List.{List}
use Prim.Native.Nat.{ℕ, ◌+◌, ◌*◌, ◌≤◌, ◌<◌}
use Rattle.journeys.specs.Counting.{In}
use Rattle.journeys.specs.Bytes.{be32}
use Rattle.journeys.specs.Query.{Query, allowed}
use Rattle.journeys.specs.Journeys.{Journey, Distance}
use Rattle.journeys.specs.Order as order
use Rattle.journeys.specs.Order.{Settled}
use Rattle.journeys.proofs.Demands.{listed-exactly}
use Rattle.answered.specs.Search as search
use Rattle.answered.proofs.Vertices as answered
use Rattle.siltbrow.specs.Call.{Call, Completed, refusal, settled_count, finished, read, Orders, S}
use Rattle.siltbrow.proofs.Demands.{search_of, complete, valid, the_order, is_order}

-- some counted record of the settled bytes names v
abbrev pub SettledNames : Call → ℕ → Type 0
SettledNames c v = search.SettledNames (search_of c) v

module _ (c : Call) (E : Completed c) (accepted : refusal c ≡ 0) where
  abbrev Q : Query
  Q = c.query

  -- The counted records of the settled bytes are S: a vertex and a distance stand in one of them exactly if they are in S.
  pub settled-record : (l : List Settled) → Orders c l → (v d : ℕ)
      → ((i : ℕ) × (i < settled_count c) × (be32 c.settled (8 * i) ≡ v) × (be32 c.settled (8 * i + 4) ≡ d)) ↔ In (order.settled v d) (S c l)
  settled-record = answered.settled-record (search_of c) (complete c E) accepted

  -- The second word of a counted record is the figure of the vertex in its first word: the arrival hour less the latest start of a journey from there.
  pub vertex-figure : (i : ℕ) → i < settled_count c → Distance (read c) Q (be32 c.settled (8 * i)) (be32 c.settled (8 * i + 4))
  vertex-figure = answered.vertex-figure (search_of c) (complete c E) accepted

  -- In a finished run a counted record of the settled bytes names a vertex exactly if a journey from it starts within the allowed time and arrives by the set hour.
  pub vertex-listed : finished c ≡ 1 → (v : ℕ) → SettledNames c v ↔ ((d : ℕ) × (d ≤ allowed Q) × Journey (read c) Q v d)
  vertex-listed f v =
      let names = answered.names-listed (search_of c) (complete c E) accepted (the_order c E accepted) (is_order c E accepted) f v in
      let exactly = listed-exactly (read c) Q (valid c E accepted) (is_order c E accepted) v in
      (λ p. exactly.0 (names.0 p), λ p. names.1 (exactly.1 p))
