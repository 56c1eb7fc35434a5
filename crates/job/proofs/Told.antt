-- The code's answer and the words of RULES 14 say the same: nothing is lost, and the query is that of `journeys`. Assumes nothing.
use mathlib.Core.Path.{◌≡◌, refl, sym, ap, ◌∙◌}
use mathlib.Core.List.{List}
use Prim.Native.Nat.{ℕ, ◌+◌, ◌*◌, ◌<◌}
use lib.ListN.{get_or}
use Rattle.journeys.specs.Bytes.{be32, clock, clocked}
use Rattle.journeys.specs.Query as query
use Rattle.records.specs.declared.Query.{Query}
use Rattle.job.specs.declared.Job.{Job}
use Rattle.std.specs.Prelude.{Result, Ok, Err}
use Rattle.job.specs.Job.{Read, job, faulty, Question, question_at, be24, told}
use Rattle.job.proofs.Seconds.{seconds-clocked}

asked : Question → Query
asked q = record { walk = q.walk; offset = record { 0 = q.offset }; arrival = record { 0 = q.arrival }; duration = q.duration; speed = q.speed }

back : Read → Result Job ℕ
back (job v w h q) = Ok (record { counts = record { vertices = v; walks = w; hops = h }; asked = asked q })
back (faulty n) = Err n

back-told : (r : Result Job ℕ) → back (told r) ≡ r
unfolding back asked
back-told (Ok j) = refl
back-told (Err n) = refl

-- `told` is injective
pub told-one : (r r' : Result Job ℕ) → told r ≡ told r' → r ≡ r'
told-one r r' e = sym (back-told r) ∙ ap back e ∙ back-told r'

-- the query by `clock`, as the definitions of a run have it
abbrev pub query_of : Question → query.Query
query_of q = record { walk = q.walk; offset = q.offset; arrival = clocked q.arrival; duration = q.duration; speed = q.speed }

pub query-clocked : (s : List ℕ) (i : ℕ) → be32 s (20 * i + 12) < 4294967296
    → query_of (question_at s i)
    ≡ record {
      walk = be32 s (20 * i + 4);
      offset = be32 s (20 * i + 8);
      arrival = clock (be32 s (20 * i + 12));
      duration = be24 s (20 * i + 16);
      speed = get_or s (20 * i + 19) 0;
    }
unfolding question_at
query-clocked s i b =
    ap
    (λ (t : ℕ). record { walk = be32 s (20 * i + 4); offset = be32 s (20 * i + 8); arrival = t; duration = be24 s (20 * i + 16); speed = get_or s (20 * i + 19) 0 })
    (seconds-clocked (be32 s (20 * i + 12)) b)
