-- Any two texts that the definitions allow the program are equal, and so is what its functions return and leave in the lent bytes. Assumes nothing.
use mathlib.Core.Path.{◌≡◌, sym, ap, ◌∙◌}
use mathlib.Core.List.{List}
use Prim.Native.Nat.{ℕ, ◌≤◌}
use native.Mathlib.Omega.{arith}
use lib.ListN.{length, take, length-take}
use lib.Seq.{take_all}
use Rattle.journeys.specs.Counting.{none}
use Rattle.journeys.specs.Query.{Query}
use Rattle.journeys.specs.Answers.{Answer}
use Rattle.journeys.proofs.Determined.{answer-unique}
use Rattle.job.specs.Job.{Read, job, faulty, job_of}
use Rattle.report.specs.Text.{printed}
use Rattle.copying.specs.Write.{over}
use Rattle.reach.specs.Says.{both, Texts, SaysOf, Says, InFront, RunTold, Answered}
use Rattle.reach.proofs.run_text.Reads as run-text
use Rattle.reach.proofs.answer.Reads as answer
use Rattle.reach.proofs.answer_read.Reads as answer-read

texts-one : (v w h : List ℕ) (Q : Query) (t t' : List ℕ) → Texts v w h Q t → Texts v w h Q t' → t ≡ t'
texts-one v w h Q t t' x y = x.2 ∙ ap (λ (a : Answer). printed (both v w h Q a)) (answer-unique _ Q none x.0 y.0 x.1 y.1) ∙ sym y.2

of_one : (s : List ℕ) (j : Read) (t t' : List ℕ) → SaysOf s j t → SaysOf s j t' → t ≡ t'
unfolding SaysOf
of_one s (job v w h q) t t' x y = texts-one _ _ _ _ t t' x y
of_one s (faulty n) t t' x y = x ∙ sym y

-- Every input has one text.
pub one-text : (s t t' : List ℕ) → Says s t → Says s t' → t ≡ t'
unfolding Says
one-text s t t' x y = of_one s (job_of s) t t' x y

-- one text in front of what was lent
front-one : (t t' out out' out'' : List ℕ) (r r' : ℕ) → t ≡ t' → InFront t out out' r → InFront t' out out'' r' → (r ≡ r') × (out' ≡ out'')
front-one t t' out out' out'' r r' e x y = (x.count ∙ ap length e ∙ sym y.count, x.bytes ∙ ap (λ (z : List ℕ). over z out) e ∙ sym y.bytes)

told-one : (v w h : List ℕ) (Q : Query) (out out' out'' : List ℕ) (r r' : ℕ) → RunTold v w h Q out out' r → RunTold v w h Q out out'' r' → (r ≡ r') × (out' ≡ out'')
unfolding RunTold
told-one v w h Q out out' out'' r r' x y = front-one x.0 y.0 out out' out'' r r' (texts-one v w h Q x.0 y.0 x.1 y.1) x.2 y.2

answered-one : (s out out' out'' : List ℕ) (r r' : ℕ) → Answered s out out' r → Answered s out out'' r' → (r ≡ r') × (out' ≡ out'')
unfolding Answered
answered-one s out out' out'' r r' x y = front-one x.0 y.0 out out' out'' r r' (one-text s x.0 y.0 x.1 y.1) x.2 y.2

-- The contract of `run_text` settles the number that it returns and every byte of what was lent for the text.
pub one-run-text : (κs : _) (a : _) (z z' : _) (e e' : _) → run-text.Post κs a z e → run-text.Post κs a z' e'
    → let out = e.1.1.1.1.0.now in let out' = e'.1.1.1.1.0.now in
    (z ≡ z') × (out ≡ out')
one-run-text κs a z z' e e' p q = told-one _ _ _ _ _ _ _ z z' p.0 q.0

-- So does that of `answer`.
pub one_answer : (κs : _) (a : _) (z z' : _) (e e' : _) → answer.Post κs a z e → answer.Post κs a z' e'
    → let out = e.1.0.now in let out' = e'.1.0.now in
    (z ≡ z') × (out ≡ out')
one_answer κs a z z' e e' p q = answered-one _ _ _ _ z z' p.0 q.0

-- And that of `answer_read`, where what has been read is no longer than the program reads, as its callers must see to.
pub one-answer-read : (κs : _) (a : _) (z z' : _) (e e' : _) → answer-read.Post κs a z e → answer-read.Post κs a z' e' → a.1.0 ≤ 51221
    → let out = e.1.1.0.now in let out' = e'.1.1.0.now in
    (z ≡ z') × (out ≡ out')
one-answer-read κs a z z' e e' p q h =
    let s = take a.1.0 a.0.now in
    let whole : take 51221 s ≡ s = take_all 51221 s (omega (arith, length-take a.1.0 a.0.now)) in
    answered-one s _ _ _ z z' (p.0 s whole) (q.0 s whole)
