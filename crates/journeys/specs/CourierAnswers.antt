-- What the courier's run answers and what it leaves in every lent byte: RULES 27. Assumes nothing.
use Rattle.std.specs.Prelude.{◌≡◌, ◌≢◌, List, [], ◌∷◌, ℕ}
use Rattle.journeys.specs.Query.{Query}
use Rattle.journeys.specs.Order.{Settled}
use Rattle.journeys.specs.Refusals.{Refusal, chain, table_lengths, buffer_lengths, contents, query_refusal}
use Rattle.journeys.specs.Answers.{Lent, Answer, tables, refused_early}
use Rattle.journeys.specs.RunAnswers.{answer_for}
use Rattle.journeys.specs.CourierRecords.{network}
use Rattle.journeys.specs.CourierOrder.{IsCourierOrder}
use Rattle.journeys.specs.CourierList.{list_length, list_refusal}

-- what is lent: as for a run, and the list of records by where they leave, which is read only
pub record CourierLent : Type 0 where
  pub lent : Lent
  pub records : List ℕ

-- 1 with the places 0 to 4 and 6, 2 to 6, 22 and 7, which change no lent byte
unfoldable pub courier_early : CourierLent → Query → Refusal
courier_early b Q =
    let N = tables b.lent in
    chain
    (table_lengths b.lent.hop_size b.lent.vertices b.lent.walks b.lent.hops
    ∷ buffer_lengths b.lent.held b.lent.settled
    ∷ list_length N b.records
    ∷ contents N
    ∷ list_refusal N b.records
    ∷ query_refusal N Q
    ∷ [])

-- what the steps make: that of a run over the courier's network
abbrev pub courier_over : CourierLent → Query → List Settled → ℕ → Answer
courier_over b Q = answer_for (network (tables b.lent) Q) b.lent.held b.lent.settled

-- The answer that a courier's run may give, for any bytes, query and limit: the refusal of the input, or what the order by the courier's distances gives.
pub record CourierAllowed (b : CourierLent) (Q : Query) (limit : ℕ) (a : Answer) : Type 0 where
  pub refused : (courier_early b Q).number ≢ 0 → a ≡ refused_early b.lent (courier_early b Q)
  pub accepted : (courier_early b Q).number ≡ 0 → (l : List Settled) × IsCourierOrder (tables b.lent) Q l × (a ≡ courier_over b Q l limit)
