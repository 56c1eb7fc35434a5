-- Evenings over the base job as one table: the refusals in their order, and reports. Assumes nothing.
use mathlib.Core.List.{List, [], ◌∷◌, flat_map}
use Rattle.std.specs.Prelude.{ℕ, ◌+◌, ◌*◌, replicate}
use Rattle.journeys.specs.Bytes.{word, midnight}
use Rattle.journeys.specs.Query.{Query}
use Rattle.journeys.specs.Answers.{Lent, Answer}
use Rattle.journeys.specs.Marked.{base, base_query, rooms, words}

-- what is lent and asked, and what is wanted: refusal and place, then the figures of the report
pub record Row : Type 0 where
  pub lent : Lent
  pub query : Query
  pub gap : ℕ
  pub arrivals : ℕ
  pub patients : List ℕ
  pub report : List ℕ
  pub want : List ℕ

abbrev pub view : Answer → List ℕ → List ℕ
view a report = a.refusal ∷ a.place ∷ words report

-- counts for the five vertices, and a report of so many figures
abbrev pub five : List ℕ
five = flat_map word (10 ∷ 20 ∷ 30 ∷ 40 ∷ 50 ∷ [])

abbrev pub blank : ℕ → List ℕ
blank n = replicate (4 * n) 0

abbrev pub asked : Lent → Query → ℕ → ℕ → List ℕ → ℕ → List ℕ → Row
asked b Q gap n patients size want = record { lent = b; query = Q; gap = gap; arrivals = n; patients = patients; report = blank size; want = want }

abbrev pub late : Query
late = record { walk = 1; offset = 1500; arrival = midnight + 172800; duration = 300; speed = 10 }

unfoldable pub rows : List Row
rows =
    -- the hop is in time for the first two arrivals, and a minute later it is not
    asked base base_query 60 1 five 7 (0 ∷ 0 ∷ 1 ∷ 1 ∷ 1 ∷ 1 ∷ 0 ∷ 100 ∷ 150 ∷ [])
    ∷ asked base base_query 60 3 five 9 (0 ∷ 0 ∷ 3 ∷ 3 ∷ 3 ∷ 2 ∷ 0 ∷ 100 ∷ 100 ∷ 60 ∷ 150 ∷ [])
    -- the first run that lacks room, by its step
    ∷ asked (rooms 3 5) base_query 60 1 five 7 (8 ∷ 1 ∷ 0 ∷ 0 ∷ 0 ∷ 0 ∷ 0 ∷ 0 ∷ 0 ∷ [])
    -- 1 comes before 19, 19 before 20; in 20 the gap, the number, the last arrival
    ∷ asked base base_query 60 1 (word 10) 7 (1 ∷ 6 ∷ 0 ∷ 0 ∷ 0 ∷ 0 ∷ 0 ∷ 0 ∷ 0 ∷ [])
    ∷ asked base base_query 60 2 five 7 (1 ∷ 7 ∷ 0 ∷ 0 ∷ 0 ∷ 0 ∷ 0 ∷ 0 ∷ 0 ∷ [])
    ∷ asked base base_query 0 1 (flat_map word (10 ∷ 20 ∷ 65536 ∷ 40 ∷ 65536 ∷ [])) 7 (19 ∷ 2 ∷ 0 ∷ 0 ∷ 0 ∷ 0 ∷ 0 ∷ 0 ∷ 0 ∷ [])
    ∷ asked base base_query 0 0 five 6 (20 ∷ 0 ∷ 0 ∷ 0 ∷ 0 ∷ 0 ∷ 0 ∷ 0 ∷ [])
    ∷ asked base base_query 3601 1 five 7 (20 ∷ 0 ∷ 0 ∷ 0 ∷ 0 ∷ 0 ∷ 0 ∷ 0 ∷ 0 ∷ [])
    ∷ asked base base_query 3600 0 five 6 (20 ∷ 1 ∷ 0 ∷ 0 ∷ 0 ∷ 0 ∷ 0 ∷ 0 ∷ [])
    ∷ asked base late 1 2 five 8 (20 ∷ 2 ∷ 0 ∷ 0 ∷ 0 ∷ 0 ∷ 0 ∷ 0 ∷ 0 ∷ 0 ∷ [])
    ∷ []
