-- The arrivals of an evening, and the refusals of it in their order: RULES 25. Assumes nothing.
use Rattle.std.specs.Prelude.{Bool, ◌&&◌, List, [], ◌∷◌, ℕ, ◌+◌, ◌-◌, ◌*◌, ◌/◌, eqb, leb, length}
use Rattle.journeys.specs.Bytes.{midnight}
use Rattle.journeys.specs.Query.{Query}
use Rattle.journeys.specs.Refusals.{Refusal, unless, chain, first_bad, table_lengths, buffer_lengths, contents, query_refusal}
use Rattle.journeys.specs.Answers.{Lent, tables}
use Rattle.evening.specs.Patients.{patients_of}

-- the query with the arrival number j: each is `gap` seconds behind the one before
abbrev pub arriving : Query → ℕ → ℕ → Query
arriving Q gap j = record { walk = Q.walk; offset = Q.offset; arrival = Q.arrival + gap * j; duration = Q.duration; speed = Q.speed }

-- 1: one count for each vertex (place 6); 4 bytes for each figure of the report (place 7)
unfoldable pub report_lengths : List ℕ → List ℕ → ℕ → List ℕ → Refusal
report_lengths vertices patients n report =
    chain
    (unless (eqb (length patients) (4 * (length vertices / 12))) 1 6
    ∷ unless (eqb (length report) (4 * (length vertices / 12 + n + 1))) 1 7
    ∷ [])

-- 19: at most 65,535 patients at a vertex
unfoldable pub patients_ok : List ℕ → ℕ → Bool
patients_ok patients v = leb (patients_of patients v) 65535

-- 20: the gap, the number of arrivals, the last arrival
unfoldable pub evening_ok : Query → ℕ → ℕ → Refusal
evening_ok Q gap n =
    chain
    (unless (leb 1 gap && leb gap 3600) 20 0
    ∷ unless (leb 1 n && leb n 96) 20 1
    ∷ unless (leb (Q.arrival + gap * (n - 1)) (midnight + 172800)) 20 2
    ∷ [])

-- all lengths
unfoldable pub evening_lengths : Lent → ℕ → List ℕ → List ℕ → Refusal
evening_lengths b n patients report =
    chain
    (table_lengths b.hop_size b.vertices b.walks b.hops
    ∷ buffer_lengths b.held b.settled
    ∷ report_lengths b.vertices patients n report
    ∷ [])

-- 1 to 7, 19, 20 in this order. They change no lent byte.
unfoldable pub evening_refusal : Lent → Query → ℕ → ℕ → List ℕ → List ℕ → Refusal
evening_refusal b Q gap n patients report =
    chain
    (evening_lengths b n patients report
    ∷ contents (tables b)
    ∷ query_refusal (tables b) Q
    ∷ first_bad 19 (patients_ok patients) (length b.vertices / 12)
    ∷ evening_ok Q gap n
    ∷ [])
