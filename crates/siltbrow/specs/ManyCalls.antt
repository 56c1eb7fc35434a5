-- What the call for many queries answers and leaves in every lent byte, by the single call: RULES 24. Assumes nothing.
use Rattle.std.specs.Prelude.{◌≡◌, ◌⊎◌, ◌≢◌, List, ℕ, ◌/◌, ◌%◌, length}
use Rattle.intake.specs.Lending.{lent}
use Rattle.queries.specs.InTurn.{Ask, asks_from, share_of, InTurn}
use Rattle.siltbrow.specs.Ran.{Ran}

-- a call of `siltbrow_run` with an answer slice of 24 bytes, over the tables that all the queries have
abbrev pub Alone : List ℕ → List ℕ → List ℕ → ℕ → List ℕ → List ℕ → Ask → List ℕ → List ℕ → List ℕ → Type 0
Alone v w h size held share q held' share' answer =
    (slice : List ℕ) → length slice ≡ 24 → Ran (lent v w h size held share) q.query q.limit slice held' share' answer 0

-- Where the queries are no whole number of records, or the answers are not 24 bytes for each, nothing is written. Else each query gets what a call of its own
-- leaves: with its share of the settled buffer, and the held buffer as the call before left it.
pub record ManyRan (v w h : List ℕ) (size : ℕ) (queries held settled answers held' settled' answers' : List ℕ) (r : ℕ) : Type 0 where
  pub untouched : (length queries % 24 ≢ 0) ⊎ (length answers ≢ length queries) → (r ≡ 1) × (held' ≡ held) × (settled' ≡ settled) × (answers' ≡ answers)
  pub answered : length queries % 24 ≡ 0 → length answers ≡ length queries
      → (r ≡ 0) × InTurn (Alone v w h size) (share_of (length queries / 24) settled) (asks_from queries (length queries / 24) 0) held settled held' settled' answers'
