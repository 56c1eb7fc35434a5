-- A call for the parts of a settled list in either direction by name: what it is lent, and what it leaves. Assumes nothing.
use Rattle.std.specs.Prelude.{List, ◌++◌, ℕ, ◌/◌, ◌≤◌, ◌<◌, length}
use Rattle.journeys.specs.Bytes.{be32, word}
use Rattle.journeys.specs.Order.{Settled}
use Rattle.journeys.specs.Parts.{Part}
use Rattle.journeys.specs.Lists.{settled_in}
use Rattle.journeys.specs.Refusals.{Refusal}
use Rattle.journeys.specs.PartAnswers.{PartsAnswer}
use Rattle.journeys.specs.ListAnswers.{parts_to_for, PartsRoomFor, parts_answer_for}

-- the 12 bytes of an answer
abbrev pub parts_answer_bytes : PartsAnswer → List ℕ
parts_answer_bytes a = word a.refusal ++ word a.place ++ word a.part_count

-- the parts of step 0 and of the first k entries are more than the buffer can take, and k is the first such number
pub record Lacking (parts_of : List Settled → List Part) (list parts : List ℕ) (k : ℕ) : Type 0 where
  pub listed : k ≤ length list / 8
  pub over : length parts / 12 < length (parts_to_for parts_of list k)
  pub before : (j : ℕ) → j < k → PartsRoomFor parts_of list parts j

pub record PartsOver : Type 0 where
  -- the parts that a settled list gives, the refusal of the input or none, the list and the part buffer before the call
  pub parts_of : List Settled → List Part
  pub early : Refusal
  pub list : List ℕ
  pub parts : List ℕ
  -- after the call: the part buffer and the answer slice
  pub parts_after : List ℕ
  pub answer : List ℕ

-- the answer of the definitions
abbrev pub parts_answered : PartsOver → PartsAnswer
parts_answered s = parts_answer_for s.parts_of s.list s.parts s.early

-- the three numbers as they stand in the answer slice
abbrev pub refusal_of : PartsOver → ℕ
refusal_of s = be32 s.answer 0

abbrev pub place_of : PartsOver → ℕ
place_of s = be32 s.answer 4

abbrev pub count_of : PartsOver → ℕ
count_of s = be32 s.answer 8

-- the parts of step 0 and of every entry of the list
abbrev pub all_parts : PartsOver → List Part
all_parts s = s.parts_of (settled_in s.list)

-- there is room for all of them
abbrev pub Roomy : PartsOver → Type 0
Roomy s = length (all_parts s) ≤ length s.parts / 12
