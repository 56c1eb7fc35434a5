-- The third demand, of the held bytes: which vertices an accepted call holds at its limit, what each record says, and that a dropped or forgotten vertex does not come back.
-- Each is the theorem of `answered` for the ordinary network. Assumes nothing.
use mathlib.Core.Path.{◌≡◌, ap₂, subst}
use mathlib.Core.Logic.{◌⊎◌, ◌↔◌}
use mathlib.Core.Bool.{true, cond}
use mathlib.Core.List.{List}
use Prim.Native.Nat.{ℕ, ◌+◌, ◌*◌, ◌≤◌, ◌<◌}
use Rattle.journeys.specs.Bytes.{be32}
use Rattle.journeys.specs.Tables.{Tables, vertex_count}
use Rattle.journeys.specs.Query.{Query}
use Rattle.journeys.specs.Journeys.{Distance}
use Rattle.journeys.specs.Order.{Settled, IsOrder}
use Rattle.journeys.specs.Network.{Network, distance_in, within, known, remaining, met, Dropped, Forgotten}
use Rattle.journeys.specs.Records.{network}
use Rattle.answered.specs.Search as search
use Rattle.answered.proofs.Held as answered
use Rattle.siltbrow.specs.Call.{Call, Completed, refusal, held_count, read, Orders, S}
use Rattle.siltbrow.proofs.Demands.{search_of, complete, the_order, is_order}
use Rattle.siltbrow.proofs.VerticesInBytes.{SettledNames}

-- some counted record of the held bytes names v
abbrev pub HeldNames : Call → ℕ → Type 0
HeldNames c v = search.HeldNames (search_of c) v

module _ (c : Call) (E : Completed c) (accepted : refusal c ≡ 0) (l : List Settled) (O : Orders c l) where
  -- the records of the tables, and the distances of S
  abbrev G : Network
  G = network (read c) c.query

  abbrev far : ℕ → ℕ
  far = distance_in (S c l)

  -- At any limit that fits the room some counted record of the held bytes names a vertex exactly if it is one of the table's, has been met, and is neither settled with all
  -- its departing records leading into S nor unsettled with all of them leading into S and known above D.
  pub held-named : (v : ℕ) → HeldNames c v ↔ ((v < vertex_count (read c)) × (met G far v ≡ true) × ¬ Dropped G far v × ¬ Forgotten G far v)
  held-named = answered.held-named (search_of c) (complete c E) accepted l O

  -- A counted record that names a vertex says what is known of it, 1 if it is settled and 0 if not, and how many of its departing records do not lead into S.
  pub held-record : (i v : ℕ) → i < held_count c → be32 c.held (16 * i) ≡ v
      → (be32 c.held (16 * i + 4) ≡ known G far v) × (be32 c.held (16 * i + 8) ≡ cond (within far v) 1 0) × (be32 c.held (16 * i + 12) ≡ remaining G far v)
  held-record = answered.held-record (search_of c) (complete c E) accepted l O

  -- Its state is 1 if some counted record of the settled bytes names that vertex, and 0 if none does.
  pub held-state : (i v : ℕ) → i < held_count c → be32 c.held (16 * i) ≡ v
      → ((be32 c.held (16 * i + 8) ≡ 1) × SettledNames c v) ⊎ ((be32 c.held (16 * i + 8) ≡ 0) × ¬ SettledNames c v)
  held-state = answered.held-state (search_of c) (complete c E) accepted l O

  -- Of a settled vertex the distance there is its figure: the arrival hour less the latest start of a journey from it.
  pub held-figure : (i v : ℕ) → i < held_count c → be32 c.held (16 * i) ≡ v → be32 c.held (16 * i + 8) ≡ 1 → Distance (read c) c.query v (be32 c.held (16 * i + 4))
  held-figure = answered.held-figure (search_of c) (complete c E) accepted l O

  -- A vertex has been dropped exactly if the settled bytes name it and the held bytes do not.
  pub dropped-exactly : (v : ℕ) → Dropped G far v ↔ (SettledNames c v × ¬ HeldNames c v)
  dropped-exactly = answered.dropped-exactly (search_of c) (complete c E) accepted l O

  -- A vertex of the table that has been met is forgotten exactly if neither the settled bytes nor the held bytes name it.
  pub forgotten-exactly : (v : ℕ) → v < vertex_count (read c) → met G far v ≡ true → Forgotten G far v ↔ (¬ SettledNames c v × ¬ HeldNames c v)
  forgotten-exactly = answered.forgotten-exactly (search_of c) (complete c E) accepted l O

-- Two accepted calls over the same tables and query, the second of which may go at least as far, with whatever room.
module _ (c c₂ : Call) (E : Completed c) (E₂ : Completed c₂) (a : refusal c ≡ 0) (a₂ : refusal c₂ ≡ 0) (same : read c ≡ read c₂) (asked : c.query ≡ c₂.query) (more : c.limit ≤ c₂.limit) where
  other : Orders c₂ (the_order c E a)
  other = subst (λ (q : Query). IsOrder (read c₂) q (the_order c E a)) asked (subst (λ (n : Tables). IsOrder n c.query (the_order c E a)) same (is_order c E a))

  -- Forgotten stays forgotten: a vertex that the first has met and neither settled nor held, no counted record of the settled bytes or of the held bytes names after the second.
  pub forgotten-for-good : (v : ℕ) → v < vertex_count (read c) → met (network (read c) c.query) (distance_in (S c (the_order c E a))) v ≡ true → ¬ SettledNames c v → ¬ HeldNames c v
      → ¬ SettledNames c₂ v × ¬ HeldNames c₂ v
  forgotten-for-good =
      answered.forgotten-for-good (search_of c) (search_of c₂) (complete c E) (complete c₂ E₂) a a₂ (ap₂ network same asked) more (the_order c E a) (is_order c E a) other

  -- Dropped stays dropped: what the first has settled and no longer holds, no counted record of the held bytes names after the second.
  pub dropped-for-good : (v : ℕ) → SettledNames c v → ¬ HeldNames c v → ¬ HeldNames c₂ v
  dropped-for-good =
      answered.dropped-for-good (search_of c) (search_of c₂) (complete c E) (complete c₂ E₂) a a₂ (ap₂ network same asked) more (the_order c E a) (is_order c E a) other
