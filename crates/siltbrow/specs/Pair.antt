-- A call of `siltbrow_run` and a call of `siltbrow_parts` that gets the run's own list. Assumes nothing.
use Rattle.std.specs.Prelude.{◌≡◌, List, ◌++◌, ℕ, ◌*◌, take}
use Rattle.journeys.specs.Bytes.{word}
use Rattle.journeys.specs.OneRun.{OneAnswer}
use Rattle.covering.specs.Lending.{parts_lent}
use Rattle.siltbrow.specs.Call.{Call, settled_count}
use Rattle.siltbrow.specs.PartsCall.{PartsCall}

-- The second call has the tables and the query of the first; its list is the counted records of the settled bytes, and the zero tail stays behind.
pub record Follows (c : Call) (p : PartsCall) : Type 0 where
  pub lent : p.lent ≡ parts_lent c.lent.vertices c.lent.walks c.lent.hops c.lent.hop_size (take (8 * settled_count c) c.settled) p.lent.parts
  pub query : p.query ≡ c.query

-- the 24 bytes of the one run of RULES 11.7
abbrev pub one_bytes : OneAnswer → List ℕ
one_bytes a = word a.refusal ++ word a.place ++ word a.settled_count ++ word a.part_count ++ word a.held_count ++ word a.finished
