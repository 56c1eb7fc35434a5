-- A call of `siltbrow_parts` by name: what it is lent, and what it leaves. The theorems on parts speak of it. Assumes nothing.
use Rattle.std.specs.Prelude.{◌≡◌, List, ℕ, length}
use Rattle.journeys.specs.Bytes.{be32}
use Rattle.journeys.specs.Query.{Query}
use Rattle.journeys.specs.Parts.{Part, part_list}
use Rattle.journeys.specs.Lists.{settled_in}
use Rattle.journeys.specs.PartAnswers.{PartsLent, parts_tables, parts_early}
use Rattle.answered.specs.PartsOver.{PartsOver, Lacking}
use Rattle.siltbrow.specs.PartsRan.{PartsRan}

pub record PartsCall : Type 0 where
  -- before the call: the tables, the list and the part buffer, the query, the answer slice
  pub lent : PartsLent
  pub query : Query
  pub slice : List ℕ
  -- after the call: the bytes of the part buffer and of the answer slice, and the number that the call returns
  pub parts : List ℕ
  pub answer : List ℕ
  pub returned : ℕ

-- The call has completed as its contract says, and its answer slice has 12 bytes.
abbrev pub PartsCompleted : PartsCall → Type 0
PartsCompleted c = PartsRan c.lent c.query c.slice c.parts c.answer c.returned × (length c.slice ≡ 12)

-- the three numbers as they stand in the answer slice
abbrev pub parts_refusal : PartsCall → ℕ
parts_refusal c = be32 c.answer 0

abbrev pub parts_place : PartsCall → ℕ
parts_place c = be32 c.answer 4

abbrev pub parts_count : PartsCall → ℕ
parts_count c = be32 c.answer 8

-- the parts of step 0 and of every entry of its list
abbrev pub the_parts : PartsCall → List Part
the_parts c = part_list (parts_tables c.lent) c.query (settled_in c.lent.list)

-- the call as one for the parts of a settled list, in whichever direction
abbrev pub parts_over : PartsCall → PartsOver
parts_over c =
    record {
      parts_of = part_list (parts_tables c.lent) c.query;
      early = parts_early c.lent c.query;
      list = c.lent.list;
      parts = c.lent.parts;
      parts_after = c.parts;
      answer = c.answer;
    }

-- the parts of step 0 and of the first k entries are more than the buffer can take, and k is the first such number
abbrev pub Lacks : PartsLent → Query → ℕ → Type 0
Lacks b Q = Lacking (part_list (parts_tables b) Q) b.list b.parts
