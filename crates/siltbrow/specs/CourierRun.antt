-- A call of `siltbrow_courier` by name: what it is lent, and what it leaves. The theorems of the three demands speak of it. Assumes nothing.
use Rattle.std.specs.Prelude.{◌≡◌, List, ℕ, ◌*◌, min, length, take}
use Rattle.journeys.specs.Bytes.{be32}
use Rattle.journeys.specs.Tables.{Tables}
use Rattle.journeys.specs.Query.{Query}
use Rattle.journeys.specs.Order.{Settled}
use Rattle.journeys.specs.Answers.{tables}
use Rattle.journeys.specs.CourierOrder.{IsCourierOrder}
use Rattle.journeys.specs.CourierAnswers.{CourierLent}
use Rattle.covering.specs.Lending.{courier_parts_lent}
use Rattle.siltbrow.specs.Ran.{CourierRan}
use Rattle.siltbrow.specs.CourierCall.{CourierPartsCall}

pub record CourierCall : Type 0 where
  -- before the call: the tables, the list by "from" and the two buffers, the query, the step limit, the answer slice
  pub lent : CourierLent
  pub query : Query
  pub limit : ℕ
  pub slice : List ℕ
  -- after the call: the bytes of the two buffers and of the answer slice, and the number that the call returns
  pub held : List ℕ
  pub settled : List ℕ
  pub answer : List ℕ
  pub returned : ℕ

-- The call has completed as its contract says, and its answer slice has 24 bytes.
abbrev pub CourierCompleted : CourierCall → Type 0
CourierCompleted c = CourierRan c.lent c.query c.limit c.slice c.held c.settled c.answer c.returned × (length c.slice ≡ 24)

-- the six numbers as they stand in the answer slice
abbrev pub refusal : CourierCall → ℕ
refusal c = be32 c.answer 0

abbrev pub place : CourierCall → ℕ
place c = be32 c.answer 4

abbrev pub settled_count : CourierCall → ℕ
settled_count c = be32 c.answer 8

abbrev pub part_count : CourierCall → ℕ
part_count c = be32 c.answer 12

abbrev pub held_count : CourierCall → ℕ
held_count c = be32 c.answer 16

abbrev pub finished : CourierCall → ℕ
finished c = be32 c.answer 20

-- the tables that the call reads
abbrev pub read : CourierCall → Tables
read c = tables c.lent.lent

-- l is the courier's order of settling of its tables and query
abbrev pub Orders : CourierCall → List Settled → Type 0
Orders c l = IsCourierOrder (read c) c.query l

-- how many steps the run makes, and S after them
abbrev pub steps : CourierCall → List Settled → ℕ
steps c l = min c.limit (length l)

abbrev pub S : CourierCall → List Settled → List Settled
S c l = take (steps c l) l

-- The second call has the tables, the list by "from" and the query of the first; its settled list is the counted records of the settled bytes, and the zero tail stays behind.
pub record CourierFollows (c : CourierCall) (p : CourierPartsCall) : Type 0 where
  pub lent : p.lent
      ≡ courier_parts_lent c.lent.lent.vertices c.lent.lent.walks c.lent.lent.hops c.lent.lent.hop_size c.lent.records (take (8 * settled_count c) c.settled) p.lent.lent.parts
  pub query : p.query ≡ c.query
