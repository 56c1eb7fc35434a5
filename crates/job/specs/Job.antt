-- The job of RULES 14: 20-byte records with no header, a 4-byte kind and 16 bytes, numbered from 0. Assumes nothing.
use Rattle.std.specs.Prelude.{Bool, not, cond, ◌&&◌, ◌||◌, List, [], ℕ, zero, suc, ◌+◌, ◌-◌, ◌*◌, ◌/◌, eqb, leb, ltb, ℤ, Result, Ok, Err, length, get_or, take, drop}
use Rattle.std.proofs.Math.IntN.{sub_ℕ}
use Rattle.journeys.specs.Counting.{count, joined}
use Rattle.journeys.specs.Bytes.{be32, clock, midnight}
use Rattle.records.specs.declared.Query.{Query}
use Rattle.job.specs.declared.Job.{Job}

-- ---- what is faulty
unfoldable pub kind_at : List ℕ → ℕ → ℕ
kind_at s i = be32 s (20 * i)

-- how many of the first n records are of kind k
unfoldable pub of_kind : List ℕ → ℕ → ℕ → ℕ
of_kind s k n = count (λ i. eqb (kind_at s i) k) n

-- how many records of a kind there may be: vertices, walks, hops, the query; none of an unknown kind
unfoldable pub most : ℕ → ℕ
most k = cond (eqb k 1) 512 (cond (eqb k 2) 1024 (cond (eqb k 3) 1024 (cond (eqb k 4) 1 0)))

-- record i is not faulty: its kind is not below the kind before it (record 0 is compared with itself), it is not one too many of its kind, and the
-- pad of a vertex is zero. What comes after the query is of a lower kind or a query too many.
unfoldable pub sound : List ℕ → ℕ → Bool
sound s i =
    leb (kind_at s (i - 1)) (kind_at s i)
    && ltb (of_kind s (kind_at s i) i) (most (kind_at s i))
    && (not (eqb (kind_at s i) 1) || eqb (be32 s (20 * i + 16)) 0)

-- the first faulty one of the n records from i on, or the number behind them
unfoldable pub first_faulty : List ℕ → ℕ → ℕ → ℕ
first_faulty s zero i = i
first_faulty s (suc n) i = cond (sound s i) (first_faulty s n (i + 1)) i

-- ---- what a job holds
-- the query: arrival in signed seconds from midnight
pub record Question : Type 0 where
  pub walk : ℕ
  pub offset : ℕ
  pub arrival : ℤ
  pub duration : ℕ
  pub speed : ℕ

unfoldable pub be24 : List ℕ → ℕ → ℕ
be24 b i = get_or b i 0 * 65536 + get_or b (i + 1) 0 * 256 + get_or b (i + 2) 0

-- 32 bits as signed seconds from midnight
unfoldable pub seconds : ℕ → ℤ
seconds bits = sub_ℕ (clock bits) midnight

unfoldable pub question_at : List ℕ → ℕ → Question
question_at s i =
    record {
      walk = be32 s (20 * i + 4);
      offset = be32 s (20 * i + 8);
      arrival = seconds (be32 s (20 * i + 12));
      duration = be24 s (20 * i + 16);
      speed = get_or s (20 * i + 19) 0;
    }

-- the first bytes of record i behind its kind
unfoldable pub body : List ℕ → ℕ → ℕ → List ℕ
body s size i = take size (drop (20 * i + 4) s)

-- the table of a kind: 12 bytes of each vertex, 16 of each walk and hop, in their order
unfoldable pub table_of : List ℕ → ℕ → ℕ → List ℕ
table_of s kind size = joined (λ i. cond (eqb (kind_at s i) kind) (body s size i) []) (length s / 20)

-- ---- what is read: the numbers of vertices, walks and hops with the query, or N
pub data Read : Type 0 where
  job : ℕ → ℕ → ℕ → Question → Read
  faulty : ℕ → Read

-- Where all n whole records are sound and nothing follows them, one query makes the job: it is the last, since kinds ascend. Otherwise N is the
-- first record that is not sound; the number n is that of a cut record, and the count where only the query is missing.
unfoldable pub read_as : List ℕ → ℕ → Read
read_as s n =
    cond (eqb (first_faulty s n 0) n && eqb (20 * n) (length s) && eqb (of_kind s 4 n) 1)
    (job (of_kind s 1 n) (of_kind s 2 n) (of_kind s 3 n) (question_at s (n - 1)))
    (faulty (first_faulty s n 0))

unfoldable pub job_of : List ℕ → Read
job_of s = read_as s (length s / 20)

-- a job's table; nothing of a job that is faulty
abbrev pub taken : Read → List ℕ → List ℕ
taken (job v w h q) table = table
taken (faulty n) table = []

-- ---- the code's answers in the words of RULES 14
abbrev pub question : Query → Question
question q =
    record {
      walk = q.walk;
      offset = q.offset.0;
      arrival = q.arrival.0;
      duration = q.duration;
      speed = q.speed;
    }

abbrev pub told : Result Job ℕ → Read
told (Ok j) = job j.counts.vertices j.counts.walks j.counts.hops (question j.asked)
told (Err n) = faulty n
