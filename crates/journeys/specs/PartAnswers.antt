-- What the parts operation answers for a settled list, and what it leaves in the part buffer. Assumes nothing.
-- The refusals of the input stand here. What is answered behind them stands in `ListAnswers`, once for any parts.
use Rattle.std.specs.Prelude.{List, [], ◌∷◌, ℕ}
use Rattle.journeys.specs.Tables.{Tables, tables_of, vertex_count}
use Rattle.journeys.specs.Query.{Query, allowed}
use Rattle.journeys.specs.Parts.{Part, part_list}
use Rattle.journeys.specs.Lists.{list_refusal}
use Rattle.journeys.specs.Refusals.{Refusal, unless, chain, whole_of, table_lengths, contents, query_refusal}
pub use Rattle.journeys.specs.ListAnswers.{PartsAnswer, parts_to_for, PartsRoomFor}
unfoldable pub use Rattle.journeys.specs.ListAnswers.{parts_room_at_for, parts_room_for, parts_refused_for, parts_accepted_for, parts_answer_for}

-- what is lent: three tables, the size of a hop, the list, which is read only, and the part buffer as it is at the call
pub record PartsLent : Type 0 where
  pub vertices : List ℕ
  pub walks : List ℕ
  pub hops : List ℕ
  pub hop_size : ℕ
  pub list : List ℕ
  pub parts : List ℕ

abbrev pub parts_tables : PartsLent → Tables
parts_tables b = tables_of b.hop_size b.vertices b.walks b.hops

-- 1, places 4 and 5: the list and the part buffer are whole numbers of records
unfoldable pub list_lengths : List ℕ → List ℕ → Refusal
list_lengths list parts = chain (unless (whole_of 8 list) 1 4 ∷ unless (whole_of 12 parts) 1 5 ∷ [])

-- 1 to 7 and 21, which change no lent byte
unfoldable pub parts_early : PartsLent → Query → Refusal
parts_early b Q =
    let N = parts_tables b in
    chain
    (table_lengths b.hop_size b.vertices b.walks b.hops
    ∷ list_lengths b.list b.parts
    ∷ contents N
    ∷ query_refusal N Q
    ∷ list_refusal 8 (vertex_count N) (allowed Q) b.list
    ∷ [])

-- The parts are those of the tables and the query. Each name stands for what `ListAnswers` says of these parts, the list and the part buffer.
module _ (b : PartsLent) (Q : Query) where
  -- the parts of step 0 and of the first k entries
  abbrev pub parts_to : ℕ → List Part
  parts_to k = parts_to_for (part_list (parts_tables b) Q) b.list k

  -- they are no more than the part buffer takes
  abbrev pub PartsRoom : ℕ → Type 0
  PartsRoom k = PartsRoomFor (part_list (parts_tables b) Q) b.list b.parts k

  -- 10 where they are more: at entry k, counted from 1; at 0 for the parts of step 0
  abbrev pub parts_room_at : ℕ → Refusal
  parts_room_at k = parts_room_at_for (part_list (parts_tables b) Q) b.list b.parts k

  -- 10 at the first entry whose parts do not fit
  abbrev pub parts_room : Refusal
  parts_room = parts_room_for (part_list (parts_tables b) Q) b.list b.parts

  -- a refusal, with the part buffer that it leaves
  abbrev pub parts_refused : Refusal → List ℕ → PartsAnswer
  parts_refused r parts = parts_refused_for r parts

  -- every part, in order, with zero behind them
  abbrev pub parts_accepted : PartsAnswer
  parts_accepted = parts_accepted_for (part_list (parts_tables b) Q) b.list b.parts

  -- THE ANSWER, for any bytes and query
  abbrev pub parts_answer : PartsAnswer
  parts_answer = parts_answer_for (part_list (parts_tables b) Q) b.list b.parts (parts_early b Q)
