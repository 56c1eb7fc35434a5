-- Runs one after the other, RULES 24: each with its query, its share of the settled buffer, and the held buffer as the one before left it. Assumes nothing.
use Rattle.std.specs.Prelude.{◌≡◌, List, [], ◌∷◌, ◌++◌, ℕ, zero, suc, ◌*◌, ◌/◌, length, take, drop}
use Rattle.journeys.specs.Query.{Query}
use Rattle.calls.specs.CallBytes.{query_in, limit_in}

-- what one run is asked
pub record Ask : Type 0 where
  pub query : Query
  pub limit : ℕ

-- n records of 24 bytes from number i on
unfoldable pub asks_from : List ℕ → ℕ → ℕ → List Ask
asks_from queries zero i = []
asks_from queries (suc n) i = record { query = query_in queries (24 * i); limit = limit_in queries (24 * i) } ∷ asks_from queries n (suc i)

-- the bytes of one of n equal shares: whole records
unfoldable pub share_of : ℕ → List ℕ → ℕ
share_of n settled = 8 * (length settled / 8 / n)

-- `One held share ask held' share' answer` says that a single run that is lent `held` and `share` and is asked `ask` leaves the other three: the held buffer, the
-- share and the bytes of its answer. `size` is the length of a share.
module _ (One : List ℕ → List ℕ → Ask → List ℕ → List ℕ → List ℕ → Type 0) (size : ℕ) where
  -- the runs that are asked leave held', settled' and these answers, one behind the other; behind the last share nothing is written
  unfoldable pub InTurn : List Ask → List ℕ → List ℕ → List ℕ → List ℕ → List ℕ → Type 0
  InTurn [] held settled held' settled' answers = (held' ≡ held) × (settled' ≡ settled) × (answers ≡ [])
  InTurn (q ∷ asks) held settled held' settled' answers =
      (h : List ℕ) × (share : List ℕ) × (answer : List ℕ) × (rest : List ℕ) × (others : List ℕ)
      × One held (take size settled) q h share answer × InTurn asks h (drop size settled) held' rest others × (settled' ≡ share ++ rest) × (answers ≡ answer ++ others)
