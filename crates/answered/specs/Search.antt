-- A call for a run in either direction by name: what it is asked and lent, and what it leaves. Assumes nothing.
use Rattle.std.specs.Prelude.{◌≡◌, ◌≢◌, List, ℕ, ◌*◌, ◌<◌, min, length, take}
use Rattle.journeys.specs.Bytes.{be32}
use Rattle.journeys.specs.Order.{Settled, Order}
use Rattle.journeys.specs.Network.{Network}
use Rattle.journeys.specs.Refusals.{Refusal}
use Rattle.journeys.specs.Answers.{Answer}
use Rattle.journeys.specs.RunAnswers.{answer_for}
use Rattle.calls.specs.CallBytes.{answer_bytes}

pub record Search : Type 1 where
  -- the network and the distances of its journeys, the refusal of the input or none, the step limit, the two buffers before the call
  pub network : Network
  pub distance : ℕ → ℕ → Type 0
  pub early : Refusal
  pub limit : ℕ
  pub held : List ℕ
  pub settled : List ℕ
  -- after the call: the two buffers and the answer slice
  pub held_after : List ℕ
  pub settled_after : List ℕ
  pub answer : List ℕ

-- refusals of the input, which change no byte of the two buffers
abbrev pub refused_as : Search → Answer
refused_as s =
    record { refusal = s.early.number; place = s.early.place; settled_count = 0; held_count = 0; finished = 0; held = s.held; settled = s.settled }

-- l is the order of settling
abbrev pub Orders : Search → List Settled → Type 0
Orders s l = Order s.network s.distance s.network.allowed l

-- the answer that the search may give
pub record Ruled (s : Search) (a : Answer) : Type 0 where
  pub refused : s.early.number ≢ 0 → a ≡ refused_as s
  pub accepted : s.early.number ≡ 0 → (l : List Settled) × Orders s l × (a ≡ answer_for s.network s.held s.settled l s.limit)

-- the six numbers as they stand in the answer slice
abbrev pub refusal : Search → ℕ
refusal s = be32 s.answer 0

abbrev pub place : Search → ℕ
place s = be32 s.answer 4

abbrev pub settled_count : Search → ℕ
settled_count s = be32 s.answer 8

abbrev pub part_count : Search → ℕ
part_count s = be32 s.answer 12

abbrev pub held_count : Search → ℕ
held_count s = be32 s.answer 16

abbrev pub finished : Search → ℕ
finished s = be32 s.answer 20

-- how many steps the run makes, and S after them
abbrev pub steps : Search → List Settled → ℕ
steps s l = min s.limit (length l)

abbrev pub S : Search → List Settled → List Settled
S s l = take (steps s l) l

-- some counted record of the settled bytes, or of the held bytes, names v
abbrev pub SettledNames : Search → ℕ → Type 0
SettledNames s v = (i : ℕ) × (i < settled_count s) × (be32 s.settled_after (8 * i) ≡ v)

abbrev pub HeldNames : Search → ℕ → Type 0
HeldNames s v = (i : ℕ) × (i < held_count s) × (be32 s.held_after (16 * i) ≡ v)
