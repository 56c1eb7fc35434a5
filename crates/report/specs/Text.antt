-- The printed text of RULES 14.6, in bytes. Assumes nothing.
use Rattle.std.specs.Prelude.{Bool, cond, ◌&&◌, ℕ, zero, suc, ◌+◌, ◌*◌, ◌/◌, ◌%◌, eqb, leb, ltb, length}
use mathlib.Core.List.{List, [], ◌∷◌, ◌++◌, flat_map}
use Rattle.journeys.specs.Counting.{joined}
use Rattle.journeys.specs.Bytes.{be32}
use Rattle.journeys.specs.OneRun.{OneAnswer}
use Rattle.records.specs.declared.Answer as read

-- a number in decimal, in at most so many digits; 20 digits hold every number of 64 bits
unfoldable pub decimal_in : ℕ → ℕ → List ℕ
decimal_in zero n = []
decimal_in (suc places) n = cond (ltb n 10) ((48 + n) ∷ []) (decimal_in places (n / 10) ++ ((48 + n % 10) ∷ []))

unfoldable pub decimal : ℕ → List ℕ
decimal n = decimal_in 20 n

-- a space and a number
unfoldable pub field : ℕ → List ℕ
field n = 32 ∷ decimal n

abbrev pub fields : List ℕ → List ℕ
fields = flat_map field

-- a line: a word, numbers, LF
unfoldable pub line : List ℕ → List ℕ → List ℕ
line label numbers = label ++ numbers ++ (10 ∷ [])

-- the n numbers of 4 bytes from a place on, and a line for each of the first count records of n numbers
unfoldable pub fields_at : List ℕ → ℕ → ℕ → List ℕ
fields_at table from n = joined (λ j. field (be32 table (from + 4 * j))) n

unfoldable pub lines : List ℕ → List ℕ → ℕ → ℕ → List ℕ
lines label table n count = joined (λ i. line label (fields_at table (4 * n * i) n)) count

-- ---- the words
-- "answer"
abbrev pub answer_word : List ℕ
answer_word = 97 ∷ 110 ∷ 115 ∷ 119 ∷ 101 ∷ 114 ∷ []

-- "vertex"
abbrev pub vertex_word : List ℕ
vertex_word = 118 ∷ 101 ∷ 114 ∷ 116 ∷ 101 ∷ 120 ∷ []

-- "part"
abbrev pub part_word : List ℕ
part_word = 112 ∷ 97 ∷ 114 ∷ 116 ∷ []

-- "held"
abbrev pub held_word : List ℕ
held_word = 104 ∷ 101 ∷ 108 ∷ 100 ∷ []

-- "end"
abbrev pub end_word : List ℕ
end_word = 101 ∷ 110 ∷ 100 ∷ []

-- "job"
abbrev pub job_word : List ℕ
job_word = 106 ∷ 111 ∷ 98 ∷ []

-- ---- the whole text of a run's answer and of the parts of its list: of a refusal its first line only
unfoldable pub lists : ℕ → ℕ → ℕ → List ℕ → List ℕ → List ℕ → List ℕ
lists s p h settled parts held = lines vertex_word settled 2 s ++ lines part_word parts 3 p ++ lines held_word held 4 h

unfoldable pub printed : OneAnswer → List ℕ
printed a =
    line answer_word (fields (a.refusal ∷ a.place ∷ []))
    ++ cond (eqb a.refusal 0)
    (lists a.settled_count a.part_count a.held_count a.settled a.parts a.held
    ++ line end_word (fields (a.settled_count ∷ a.part_count ∷ a.held_count ∷ a.finished ∷ [])))
    []

-- the text of a faulty job
unfoldable pub fault : ℕ → List ℕ
fault n = line job_word (fields (n ∷ []))

-- the answer as the code has it, and the bytes of the three buffers
abbrev pub given : read.Answer → List ℕ → List ℕ → List ℕ → OneAnswer
given a settled parts held =
    record {
      refusal = a.refusal;
      place = a.place;
      settled_count = a.settled;
      part_count = a.parts;
      held_count = a.held;
      finished = a.finished;
      held = held;
      settled = settled;
      parts = parts;
    }

-- ---- room: no line is longer than 49 bytes, and that of a faulty job not longer than 25
-- the buffers hold the records that the answer counts, and there is room for so many lines
unfoldable pub fits : OneAnswer → ℕ → Bool
fits a room =
    leb a.settled_count (length a.settled / 8)
    && leb a.part_count (length a.parts / 12)
    && leb a.held_count (length a.held / 16)
    && leb (49 * (a.settled_count + a.part_count + a.held_count + 2)) room

-- what a function writes that has so much room: the text, or nothing
unfoldable pub report : OneAnswer → ℕ → List ℕ
report a room = cond (fits a room) (printed a) []

unfoldable pub fault_in : ℕ → ℕ → List ℕ
fault_in n room = cond (leb 25 room) (fault n) []
