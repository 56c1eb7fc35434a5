-- A call of `siltbrow_run` by name: what it is lent, and what it leaves. The theorems of the three demands speak of it. Assumes nothing.
use Rattle.std.specs.Prelude.{◌≡◌, List, ℕ, min, length, take}
use Rattle.journeys.specs.Bytes.{be32}
use Rattle.journeys.specs.Tables.{Tables}
use Rattle.journeys.specs.Query.{Query}
use Rattle.journeys.specs.Order.{Settled, IsOrder}
use Rattle.journeys.specs.Answers.{Lent, tables}
use Rattle.siltbrow.specs.Ran.{Ran}

pub record Call : Type 0 where
  -- before the call: the tables and the two buffers, the query, the step limit, the answer slice
  pub lent : Lent
  pub query : Query
  pub limit : ℕ
  pub slice : List ℕ
  -- after the call: the bytes of the two buffers and of the answer slice, and the number that the call returns
  pub held : List ℕ
  pub settled : List ℕ
  pub answer : List ℕ
  pub returned : ℕ

-- The call has completed as its contract says, and its answer slice has 24 bytes.
abbrev pub Completed : Call → Type 0
Completed c = Ran c.lent c.query c.limit c.slice c.held c.settled c.answer c.returned × (length c.slice ≡ 24)

-- the six numbers as they stand in the answer slice
abbrev pub refusal : Call → ℕ
refusal c = be32 c.answer 0

abbrev pub place : Call → ℕ
place c = be32 c.answer 4

abbrev pub settled_count : Call → ℕ
settled_count c = be32 c.answer 8

abbrev pub part_count : Call → ℕ
part_count c = be32 c.answer 12

abbrev pub held_count : Call → ℕ
held_count c = be32 c.answer 16

abbrev pub finished : Call → ℕ
finished c = be32 c.answer 20

-- the tables that the call reads
abbrev pub read : Call → Tables
read c = tables c.lent

-- l is the order of settling of its tables and query
abbrev pub Orders : Call → List Settled → Type 0
Orders c l = IsOrder (read c) c.query l

-- how many steps the run makes, and S after them
abbrev pub steps : Call → List Settled → ℕ
steps c l = min c.limit (length l)

abbrev pub S : Call → List Settled → List Settled
S c l = take (steps c l) l
