-- A call of `siltbrow_judge` by name: what it is lent, and what it returns. The theorems on bought lists speak of it. Assumes nothing.
use Rattle.std.specs.Prelude.{◌≡◌, List, ℕ, ◌+◌, ◌*◌, ◌/◌, ◌<◌, length, take, get_or}
use Rattle.journeys.specs.Bytes.{be32}
use Rattle.journeys.specs.Tables.{Tables}
use Rattle.journeys.specs.Query.{Query}
use Rattle.journeys.specs.Order.{Settled, settled}
use Rattle.journeys.specs.Records.{network}
use Rattle.journeys.specs.Lists.{settled_in}
use Rattle.journeys.specs.VendorLists.{Reason, JudgeLent, judge_tables, judge_refusal, with_records}
use Rattle.vendors.specs.Lending.{judge_lent}
use Rattle.siltbrow.specs.Packed.{packed}
use Rattle.siltbrow.specs.Call.{Call, settled_count, read}

pub record JudgeCall : Type 0 where
  pub lent : JudgeLent
  pub query : Query
  pub returned : ℕ

-- The call has completed as its contract says.
abbrev pub JudgeCompleted : JudgeCall → Type 0
JudgeCompleted j = j.returned ≡ packed (judge_refusal j.lent j.query)

-- the tables that it reads, and how many entries its list has
abbrev pub judge_read : JudgeCall → Tables
judge_read j = judge_tables j.lent

abbrev pub judge_count : JudgeCall → ℕ
judge_count j = length j.lent.list / 12

-- the three words of entry i
abbrev pub vertex_word : JudgeCall → ℕ → ℕ
vertex_word j i = be32 j.lent.list (12 * i)

abbrev pub distance_word : JudgeCall → ℕ → ℕ
distance_word j i = be32 j.lent.list (12 * i + 4)

abbrev pub record_word : JudgeCall → ℕ → ℕ
record_word j i = be32 j.lent.list (12 * i + 8)

-- ---- the list of a run, handed over to be judged
-- its counted records: vertex and distance
abbrev pub own_entries : Call → List Settled
own_entries c = settled_in (take (8 * settled_count c) c.settled)

-- `records` tells for each of them where its distance comes from
abbrev pub Tells : Call → (ℕ → ℕ) → Type 0
Tells c records = (i : ℕ) → i < settled_count c → Reason (network (read c) c.query) (λ i. get_or (own_entries c) i (settled 0 0)) i (records i)

-- The call has the tables and the query of the run; its list is the run's counted records, each with its record behind it.
pub record Handed (c : Call) (records : ℕ → ℕ) (j : JudgeCall) : Type 0 where
  pub lent : j.lent ≡ judge_lent c.lent.vertices c.lent.walks c.lent.hops c.lent.hop_size (with_records (own_entries c) records)
  pub query : j.query ≡ c.query
