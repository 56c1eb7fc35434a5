-- A call of `siltbrow_courier_parts` by name: what it is lent, and what it leaves. The theorems on the courier's parts speak of it. Assumes nothing.
use Rattle.std.specs.Prelude.{◌≡◌, List, ℕ, length}
use Rattle.journeys.specs.Bytes.{be32}
use Rattle.journeys.specs.Tables.{Tables}
use Rattle.journeys.specs.Query.{Query}
use Rattle.journeys.specs.Parts.{Part}
use Rattle.journeys.specs.Lists.{settled_in}
use Rattle.journeys.specs.PartAnswers.{parts_tables}
use Rattle.journeys.specs.CourierParts.{part_list}
use Rattle.journeys.specs.CourierPartAnswers.{CourierPartsLent, courier_parts_early}
use Rattle.answered.specs.PartsOver.{PartsOver, Lacking}
use Rattle.siltbrow.specs.PartsRan.{CourierPartsRan}

pub record CourierPartsCall : Type 0 where
  -- before the call: the tables, the list by "from", the settled list and the part buffer, the query, the answer slice
  pub lent : CourierPartsLent
  pub query : Query
  pub slice : List ℕ
  -- after the call: the bytes of the part buffer and of the answer slice, and the number that the call returns
  pub parts : List ℕ
  pub answer : List ℕ
  pub returned : ℕ

-- The call has completed as its contract says, and its answer slice has 12 bytes.
abbrev pub CourierPartsCompleted : CourierPartsCall → Type 0
CourierPartsCompleted c = CourierPartsRan c.lent c.query c.slice c.parts c.answer c.returned × (length c.slice ≡ 12)

-- the three numbers as they stand in the answer slice
abbrev pub courier_refusal : CourierPartsCall → ℕ
courier_refusal c = be32 c.answer 0

abbrev pub courier_place : CourierPartsCall → ℕ
courier_place c = be32 c.answer 4

abbrev pub courier_count : CourierPartsCall → ℕ
courier_count c = be32 c.answer 8

-- the tables that it reads; the parts of step 0 and of every entry of its settled list
abbrev pub courier_read : CourierPartsCall → Tables
courier_read c = parts_tables c.lent.lent

abbrev pub courier_parts : CourierPartsCall → List Part
courier_parts c = part_list (courier_read c) c.query (settled_in c.lent.lent.list)

-- the call as one for the parts of a settled list, in whichever direction
abbrev pub courier_over : CourierPartsCall → PartsOver
courier_over c =
    record {
      parts_of = part_list (courier_read c) c.query;
      early = courier_parts_early c.lent c.query;
      list = c.lent.lent.list;
      parts = c.lent.lent.parts;
      parts_after = c.parts;
      answer = c.answer;
    }

-- the parts of step 0 and of the first k entries are more than the buffer can take, and k is the first such number
abbrev pub CourierLacks : CourierPartsCall → ℕ → Type 0
CourierLacks c = Lacking (part_list (courier_read c) c.query) c.lent.lent.list c.lent.lent.parts
