-- What the program prints: RULES 14. Assumes nothing.
use Rattle.std.specs.Prelude.{◌≡◌, List, ℕ, length, replicate}
use Rattle.journeys.specs.Counting.{none}
use Rattle.journeys.specs.Query.{Query}
use Rattle.journeys.specs.Answers.{Lent, Answer, Allowed}
use Rattle.journeys.specs.PartAnswers.{PartsAnswer, parts_answer}
use Rattle.journeys.specs.OneRun.{own_list, OneAnswer, together}
use Rattle.records.specs.Asked.{query_by}
use Rattle.intake.specs.Lending.{lent}
use Rattle.covering.specs.Lending.{parts_lent}
use Rattle.job.specs.Job.{Read, job, faulty, Question, table_of, job_of}
use Rattle.report.specs.Text.{printed, fault}
use Rattle.copying.specs.Write.{over}

-- the tables of a job, with room for all that its 512 vertices can need; for the parts, all that its 1,024 walks can need
abbrev pub roomy : List ℕ → List ℕ → List ℕ → Lent
roomy v w h = lent v w h 16 (replicate 8192 0) (replicate 4096 0)

abbrev pub part_room : List ℕ
part_room = replicate 12312 0

-- the parts of the list of a run, and both answers together
abbrev pub parts_of : List ℕ → List ℕ → List ℕ → Query → Answer → PartsAnswer
parts_of v w h Q a = parts_answer (parts_lent v w h 16 (own_list a) part_room) Q

abbrev pub both : List ℕ → List ℕ → List ℕ → Query → Answer → OneAnswer
both v w h Q a = together a (parts_of v w h Q a)

-- the text is that of an answer that a run may give, with no step limit, and of its parts: RULES 14.5
abbrev pub Texts : List ℕ → List ℕ → List ℕ → Query → List ℕ → Type 0
Texts v w h Q text = (a : Answer) × Allowed (roomy v w h) Q none a × (text ≡ printed (both v w h Q a))

abbrev pub asks : Question → Query
asks q = query_by q.walk q.offset q.arrival q.duration q.speed

-- of a faulty job its line, of a job the text of its run
unfoldable pub SaysOf : List ℕ → Read → List ℕ → Type 0
SaysOf s (job v w h q) text = Texts (table_of s 1 12) (table_of s 2 16) (table_of s 3 16) (asks q) text
SaysOf s (faulty n) text = text ≡ fault n

unfoldable pub Says : List ℕ → List ℕ → Type 0
Says s text = SaysOf s (job_of s) text

-- so many bytes of the text stand at the front of what was lent for it, whose rest is untouched
pub record InFront (text out out' : List ℕ) (r : ℕ) : Type 0 where
  pub bytes : out' ≡ over text out
  pub count : r ≡ length text

unfoldable pub RunTold : List ℕ → List ℕ → List ℕ → Query → List ℕ → List ℕ → ℕ → Type 0
RunTold v w h Q out out' r = (text : List ℕ) × Texts v w h Q text × InFront text out out' r

unfoldable pub Answered : List ℕ → List ℕ → List ℕ → ℕ → Type 0
Answered s out out' r = (text : List ℕ) × Says s text × InFront text out out' r
