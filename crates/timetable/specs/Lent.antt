-- The texts and the target of a call, as one feed; and what the answer is to be. Assumes nothing.
use Rattle.std.specs.Prelude.{◌≡◌, ◌≢◌, Result, List, ◌++◌, ℕ, length}
use Rattle.journeys.specs.Bytes.{word}
use Rattle.feed.specs.Answers.{Feed, feed_refusal, hop_count, target_after}
use Rattle.words.specs.Refusal.{Refusal}
use Rattle.words.specs.Told.{told}
use Rattle.departures.specs.Answered.{hops_told}

abbrev pub feed_of : List ℕ → List ℕ → List ℕ → List ℕ → Feed
feed_of text stops trips target = record { stop_times = text; stops = stops; trips = trips; target = target }

-- an answer, and the target after it, are those of a feed
pub record Answers (F : Feed) (a : Result ℕ Refusal) (after : List ℕ) : Type 0 where
  pub refusal : told a ≡ feed_refusal F
  pub hops : hops_told a ≡ hop_count F
  pub target : after ≡ target_after F

-- the 12 bytes of an answer
unfoldable pub answer_bytes : Feed → List ℕ
answer_bytes F = word (feed_refusal F).number ++ word (feed_refusal F).place ++ word (hop_count F)

-- `slice` is the answer slice as it was lent; behind it stand the target and the slice after the call, and what it returns. A slice that is not 12
-- bytes gets nothing, nor does the target then.
pub record Called (F : Feed) (slice target' slice' : List ℕ) (r : ℕ) : Type 0 where
  pub untouched : length slice ≢ 12 → (r ≡ 1) × (target' ≡ F.target) × (slice' ≡ slice)
  pub answered : length slice ≡ 12 → (r ≡ 0) × (target' ≡ target_after F) × (slice' ≡ answer_bytes F)
