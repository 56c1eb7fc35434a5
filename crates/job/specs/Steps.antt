-- What the inner functions of the reader answer: one record, and the end of the input. Assumes nothing.
use Rattle.std.specs.Prelude.{◌≡◌, cond, ◌&&◌, List, ℕ, ◌+◌, ◌*◌, ◌≤◌, eqb, ltb, Result, Ok, Err, length}
use Rattle.journeys.specs.Counting.{joined}
use Rattle.journeys.specs.Bytes.{be32}
use Rattle.job.specs.declared.Item.{Item}
use Rattle.job.specs.declared.Item.TheVariants.{Vertex, Walk, Hop, Query}
use Rattle.job.specs.declared.Job.{Job}
use Rattle.job.specs.Job.{Read, job, faulty, kind_at, question_at, body, table_of}

-- what record i is behind so many sound vertices, walks and hops
unfoldable pub item_of : List ℕ → ℕ → ℕ → ℕ → ℕ → Result Item ℕ
item_of s i v w h =
    cond (eqb (kind_at s i) 1) (cond (eqb (w + h) 0 && ltb v 512 && eqb (be32 s (20 * i + 16)) 0) (Ok Vertex) (Err i))
    (cond (eqb (kind_at s i) 2) (cond (eqb h 0 && ltb w 1024) (Ok Walk) (Err i))
    (cond (eqb (kind_at s i) 3) (cond (ltb h 1024) (Ok Hop) (Err i)) (cond (eqb (kind_at s i) 4) (Ok Query) (Err i))))

-- the job whose query is record i, where nothing follows it
unfoldable pub ended_of : List ℕ → ℕ → ℕ → ℕ → ℕ → Read
ended_of s i v w h = cond (eqb (length s) (20 * (i + 1))) (job v w h (question_at s i)) (faulty (i + 1))

-- the bodies of count records one behind the other
unfoldable pub bodies : List ℕ → ℕ → ℕ → ℕ → List ℕ
bodies s size from count = joined (λ j. body s size (from + j)) count

-- where the tables of a job lie: one behind the other, since kinds ascend
pub record Laid (s : List ℕ) (v w h : ℕ) : Type 0 where
  pub whole : 20 * (v + w + h + 1) ≡ length s
  pub vertex_most : v ≤ 512
  pub walk_most : w ≤ 1024
  pub hop_most : h ≤ 1024
  pub vertex_table : table_of s 1 12 ≡ bodies s 12 0 v
  pub walk_table : table_of s 2 16 ≡ bodies s 16 v w
  pub hop_table : table_of s 3 16 ≡ bodies s 16 (v + w) h

abbrev pub LaidOut : List ℕ → Result Job ℕ → Type 0
LaidOut s (Ok j) = Laid s j.counts.vertices j.counts.walks j.counts.hops
LaidOut s (Err n) = Unit
