-- What is lent to the parts operation and what it answers, in the terms of the definitions. Assumes nothing.
use Rattle.std.specs.Prelude.{List, ℕ, Result, Ok, Err}
use Rattle.journeys.specs.PartAnswers as answers
use Rattle.journeys.specs.PartAnswers.{PartsLent}
use Rattle.journeys.specs.CourierPartAnswers.{CourierPartsLent}
use Rattle.words.specs.Told.{told}
use Rattle.words.specs.Refusal.{Refusal}

abbrev pub parts_lent : List ℕ → List ℕ → List ℕ → ℕ → List ℕ → List ℕ → PartsLent
parts_lent v w h size list parts = record { vertices = v; walks = w; hops = h; hop_size = size; list = list; parts = parts }

-- and the list by "from" behind the tables
abbrev pub courier_parts_lent : List ℕ → List ℕ → List ℕ → ℕ → List ℕ → List ℕ → List ℕ → CourierPartsLent
courier_parts_lent v w h size records list parts = record { lent = parts_lent v w h size list parts; records = records }

-- how many parts an answer counts: none where it refuses
abbrev pub count_in : Result ℕ Refusal → ℕ
count_in (Ok n) = n
count_in (Err _) = 0

-- the answer with what is left in the part buffer
abbrev pub parts_answer_of : Result ℕ Refusal → List ℕ → answers.PartsAnswer
parts_answer_of r parts = record { refusal = (told r).number; place = (told r).place; part_count = count_in r; parts = parts }
