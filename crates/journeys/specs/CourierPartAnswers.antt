-- What the courier's parts operation answers for a settled list, and what it leaves in the part buffer: RULES 27. Assumes nothing.
use Rattle.std.specs.Prelude.{List, [], ◌∷◌, ℕ}
use Rattle.journeys.specs.Tables.{vertex_count}
use Rattle.journeys.specs.Query.{Query, allowed}
use Rattle.journeys.specs.Lists as lists
use Rattle.journeys.specs.Refusals.{Refusal, chain, table_lengths, contents, query_refusal}
use Rattle.journeys.specs.PartAnswers.{PartsLent, PartsAnswer, parts_tables, list_lengths}
use Rattle.journeys.specs.ListAnswers.{parts_answer_for}
use Rattle.journeys.specs.CourierList.{list_length, list_refusal}
use Rattle.journeys.specs.CourierParts.{part_list}

-- what is lent: as for the parts operation, and the list of records by where they leave, which is read only
pub record CourierPartsLent : Type 0 where
  pub lent : PartsLent
  pub records : List ℕ

-- 1 with the places 0, 1, 2, 4, 5 and 6, 2 to 6, 22, 7 and 21, which change no lent byte
unfoldable pub courier_parts_early : CourierPartsLent → Query → Refusal
courier_parts_early b Q =
    let N = parts_tables b.lent in
    chain
    (table_lengths b.lent.hop_size b.lent.vertices b.lent.walks b.lent.hops
    ∷ list_lengths b.lent.list b.lent.parts
    ∷ list_length N b.records
    ∷ contents N
    ∷ list_refusal N b.records
    ∷ query_refusal N Q
    ∷ lists.list_refusal 8 (vertex_count N) (allowed Q) b.lent.list
    ∷ [])

-- THE ANSWER, for any bytes and query; 10 by entry, as in `ListAnswers`
unfoldable pub courier_parts_answer : CourierPartsLent → Query → PartsAnswer
courier_parts_answer b Q = parts_answer_for (part_list (parts_tables b.lent) Q) b.lent.list b.lent.parts (courier_parts_early b Q)
