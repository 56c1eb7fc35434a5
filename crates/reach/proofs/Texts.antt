-- The program's text: room for all lines, and the tables of the job in the run's hands. Assumes nothing.
use mathlib.Core.Path.{◌≡◌, refl, sym, ap, ap₂, subst, ◌∙◌}
use mathlib.Core.Logic.{◌⊎◌, inl, inr}
use mathlib.Core.Bool.{true, false, cond}
use mathlib.Core.List.{List, []}
use Prim.Native.Nat.{ℕ, zero, suc, ◌+◌, ◌*◌, ◌/◌, ◌≤◌, ◌<◌}
use native.Mathlib.Omega.{arith}
use lib.Dec.{eqb, leb}
use lib.ListN.{length, take, drop, length-append, length-replicate}
use lib.Seq.{take_at, take_all}
use borrow.Author.Tests.{le-leb, leb-true, eqb-true}
use Rattle.journeys.proofs.Determined.{counts-within}
use Rattle.journeys.specs.Counting.{none}
use Rattle.journeys.specs.Query.{Query}
use Rattle.journeys.specs.Answers.{Answer, Allowed}
use Rattle.journeys.specs.Lists.{settled_in}
use Rattle.journeys.specs.PartAnswers.{PartsLent, PartsAnswer, parts_early, parts_to, parts_room_at, parts_room, parts_answer, parts_room_at_for, parts_room_for, parts_refused_for, parts_accepted_for, parts_answer_for}
use Rattle.journeys.specs.OneRun.{own_list, OneAnswer, together}
use Rattle.journeys.proofs.Tests.{split, cond-true, and-true, le-or-lt}
use Rattle.journeys.proofs.Refusals.{unless-fine, from-fine}
use Rattle.records.specs.Asked.{query_of}
use Rattle.records.specs.declared.Query as asked
use Rattle.search.specs.Outcome.{answer_of}
use Rattle.records.specs.declared.Answer as search
use Rattle.std.specs.Prelude.{Result, Ok, Err}
use Rattle.std.specs.Result.{result_unwrap_or}
use Rattle.words.specs.Refusal.{Refusal}
use Rattle.covering.specs.Lending.{parts_lent, count_in, parts_answer_of}
use Rattle.job.specs.Job.{Read, job, Question, body, table_of, job_of, taken, question, told}
use Rattle.job.specs.Steps.{bodies, Laid, LaidOut}
use Rattle.report.specs.Text.{given, printed, fault, fits, report, fault_in}
use Rattle.copying.specs.Write.{over}
use Rattle.job.specs.declared.Job.{Job}
use Rattle.job.proofs.Long.{long-job}
use Rattle.job.proofs.Bodies.{length-body, bodies-next, no-bodies, laid_of}
use Rattle.reach.specs.Says.{roomy, part_room, parts_of, both, Texts, SaysOf, Says, RunTold, Answered}

-- ---- the text of a run and of its parts
-- an answer counts no more parts than there is room for
parts_within : (b : PartsLent) (Q : Query) → (parts_answer b Q).part_count ≤ length b.parts / 12
unfolding parts_answer_for parts_room_for parts_room_at_for parts_refused_for parts_accepted_for
parts_within b Q = go (split (eqb (parts_early b Q).number 0)) (split (eqb (parts_room b Q).number 0))
  where
    n : ℕ
    n = length (settled_in b.list)

    go : (eqb (parts_early b Q).number 0 ≡ true) ⊎ (eqb (parts_early b Q).number 0 ≡ false) → (eqb (parts_room b Q).number 0 ≡ true) ⊎ (eqb (parts_room b Q).number 0 ≡ false)
        → (parts_answer b Q).part_count ≤ length b.parts / 12
    go (inl t) (inl u) =
        let last : length (parts_to b Q n) ≤ length b.parts / 12 = leb-true _ _ (unless-fine _ 10 n (omega arith) (from-fine (parts_room_at b Q) (n + 1) 0 (eqb-true _ 0 u) n (omega arith) (omega arith))) in
        rw (t, u) (rw (take_all n (settled_in b.list) (omega arith)) at last)
    go (inl t) (inr u) = rw (t, u) (omega arith)
    go (inr t) u = rw t (omega arith)

-- and no more vertices
pub few : (v w h : List ℕ) (Q : Query) (limit : ℕ) (a : Answer) → Allowed (roomy v w h) Q limit a → (a.settled_count ≤ 512) × (a.held_count ≤ 512)
few v w h Q limit a A =
    let c = counts-within (roomy v w h) Q limit a A in
    (omega (arith, c.0, length-replicate {A = ℕ} 4096 0), omega (arith, c.1, length-replicate {A = ℕ} 8192 0))

-- the code's way to count them
pub count-is : (p : Result ℕ Refusal) → result_unwrap_or p 0 ≡ count_in p
count-is (Ok n) = refl
count-is (Err r) = refl

module _ (v w h : List ℕ) (Q : Query) (held settled parts : List ℕ) (x : search.Answer) (p : Result ℕ Refusal) (k : ℕ) (m : k ≡ count_in p) (A : Allowed (roomy v w h) Q none (answer_of x held settled))
    (P : parts_answer_of p parts ≡ parts_of v w h Q (answer_of x held settled)) (out : List ℕ) (room : 100548 ≤ length out) (eh : length held ≡ 8192) (es : length settled ≡ 4096) (ep : length parts ≡ 12312) where
  abbrev a : Answer
  a = answer_of x held settled

  abbrev o : OneAnswer
  o = given (record { refusal = x.refusal; place = x.place; settled = x.settled; parts = k; held = x.held; finished = x.finished }) settled parts held

  few-parts : k ≤ 1026
  few-parts = omega (arith, m, parts_within (parts_lent v w h 16 (own_list a) part_room) Q, ap (λ (y : PartsAnswer). y.part_count) P, length-replicate {A = ℕ} 12312 0)

  all-fits : fits o (length out) ≡ true
  unfolding fits
  all-fits =
      let n = few v w h Q none a A in
      and-true (and-true (and-true (le-leb x.settled (length settled / 8) (omega (arith, n))) (le-leb k (length parts / 12) (omega (arith, few-parts)))) (le-leb x.held (length held / 16) (omega (arith, n))))
      (le-leb (49 * (x.settled + k + x.held + 2)) (length out) (omega (arith, n, few-parts)))

  whole-text : report o (length out) ≡ printed (both v w h Q a)
  unfolding report together
  whole-text =
      cond-true (printed o) [] all-fits
      ∙ ap (λ (n : ℕ). printed (given (record { refusal = x.refusal; place = x.place; settled = x.settled; parts = n; held = x.held; finished = x.finished }) settled parts held)) m
      ∙ ap (λ (y : PartsAnswer). printed (together a y)) P

  pub ran-text : (out' : List ℕ) (r : ℕ) → out' ≡ over (report o (length out)) out → r ≡ length (report o (length out)) → RunTold v w h Q out out' r
  unfolding RunTold
  ran-text out' r e f = (printed (both v w h Q a), (a, A, refl), record { bytes = e ∙ ap (λ (t : List ℕ). over t out) whole-text; count = f ∙ ap length whole-text })

-- ---- a faulty job
pub fault-text : (s out out' : List ℕ) (n r : ℕ) (j : Result Job ℕ) → j ≡ Err n → told j ≡ job_of s → 100548 ≤ length out
    → out' ≡ over (fault_in n (length out)) out → r ≡ length (fault_in n (length out)) → Answered s out out' r
unfolding Answered Says SaysOf fault_in
fault-text s out out' n r j e t room b c =
    let whole : cond (leb 25 (length out)) (fault n) [] ≡ fault n = cond-true (fault n) [] (le-leb 25 (length out) (omega arith)) in (
      fault n,
      subst (λ (z : Read). SaysOf s z (fault n)) (sym (ap told e) ∙ t) refl,
      record { bytes = b ∙ ap (λ (z : List ℕ). over z out) whole; count = c ∙ ap length whole },
    )

-- ---- the tables of a job
length-bodies : (s : List ℕ) (size from count : ℕ) → size ≤ 16 → 20 * (from + count) ≤ length s → length (bodies s size from count) ≡ size * count
length-bodies s size from zero l h = ap length (no-bodies s size from) ∙ (let z : 0 ≡ size * 0 = omega arith in z)
length-bodies s size from (suc n) l h =
    let more : suc n ≡ n + 1 = omega arith in
    ap (λ (k : ℕ). length (bodies s size from k)) more
    ∙ ap length (bodies-next s size from n)
    ∙ length-append (bodies s size from n) (body s size (from + n))
    ∙ ap₂ (λ (a b : ℕ). a + b) (length-bodies s size from n l (omega arith)) (length-body s size (from + n) (omega arith))
    ∙ times
  where
    times : size * n + size ≡ size * suc n
    times = omega arith

front-taken : (s t d d' : List ℕ) (n v w h : ℕ) (q : Question) → job_of s ≡ job v w h q → length t ≡ n → d' ≡ over (taken (job_of s) t) d → take n d' ≡ t
unfolding over
front-taken s t d d' n v w h q e l b =
    ap (take n) (b ∙ ap (λ (z : Read). over (taken z t) d) e) ∙ take_at t (drop (length t) d) n l

module _ (s : List ℕ) (r : Result Job ℕ) (j : Job) (e : r ≡ Ok j) (t : told r ≡ job_of s) (L : LaidOut s r) where
  abbrev v : ℕ
  v = j.counts.vertices

  abbrev w : ℕ
  w = j.counts.walks

  abbrev h : ℕ
  h = j.counts.hops

  abbrev q : asked.Query
  q = j.asked

  pub laid : Laid s v w h
  laid = laid_of e L

  is-job : job_of s ≡ job v w h (question q)
  is-job = sym t ∙ ap told e

  vertices-long : length (table_of s 1 12) ≡ 12 * v
  vertices-long = ap length laid.vertex_table ∙ length-bodies s 12 0 v (omega arith) (omega (arith, laid.whole))

  walks-long : length (table_of s 2 16) ≡ 16 * w
  walks-long = ap length laid.walk_table ∙ length-bodies s 16 v w (omega arith) (omega (arith, laid.whole))

  hops-long : length (table_of s 3 16) ≡ 16 * h
  hops-long = ap length laid.hop_table ∙ length-bodies s 16 (v + w) h (omega arith) (omega (arith, laid.whole))

  -- the run has the tables of the job, and its query
  pub run-answered : (vs vs' ws ws' hs hs' out out' : List ℕ) (n : ℕ) → vs' ≡ over (taken (job_of s) (table_of s 1 12)) vs → ws' ≡ over (taken (job_of s) (table_of s 2 16)) ws
      → hs' ≡ over (taken (job_of s) (table_of s 3 16)) hs
      → RunTold (take (12 * v) vs') (take (16 * w) ws') (take (16 * h) hs') (query_of q) out out' n → Answered s out out' n
  unfolding RunTold Answered Says SaysOf
  run-answered vs vs' ws ws' hs hs' out out' n a b c R = (R.0, subst (λ (y : Read). SaysOf s y R.0) (sym is-job) as-told, R.2)
    where
      as-told : Texts (table_of s 1 12) (table_of s 2 16) (table_of s 3 16) (query_of q) R.0
      as-told =
          subst (λ (y : List ℕ). Texts (table_of s 1 12) (table_of s 2 16) y (query_of q) R.0) (front-taken s (table_of s 3 16) hs hs' (16 * h) v w h (question q) is-job hops-long c)
          (subst (λ (y : List ℕ). Texts (table_of s 1 12) y (take (16 * h) hs') (query_of q) R.0) (front-taken s (table_of s 2 16) ws ws' (16 * w) v w h (question q) is-job walks-long b)
          (subst (λ (y : List ℕ). Texts y (take (16 * w) ws') (take (16 * h) hs') (query_of q) R.0) (front-taken s (table_of s 1 12) vs vs' (12 * v) v w h (question q) is-job vertices-long a) R.1))

-- ---- a longer input
-- Of an input longer than 51,221 bytes the program reads so many. Its text is that of the whole input.
pub long-says : (s text : List ℕ) → 51221 ≤ length s → Says (take 51221 s) text → Says s text
unfolding Says SaysOf
long-says s text h x = let j = long-job s h in subst (λ (r : Read). SaysOf s r text) (sym j.2) (subst (λ (r : Read). SaysOf (take 51221 s) r text) j.1 x)

-- The text of what was read is that of the whole input.
pub read-answered : (s t out out' : List ℕ) (r : ℕ) → take 51221 s ≡ t → Answered t out out' r → Answered s out out' r
unfolding Answered
read-answered s t out out' r e x = (x.0, go (le-or-lt 51221 (length s)), x.2)
  where
    go : (51221 ≤ length s) ⊎ (length s < 51221) → Says s x.0
    go (inl h) = long-says s x.0 h (subst (λ (z : List ℕ). Says z x.0) (sym e) x.1)
    go (inr h) = subst (λ (z : List ℕ). Says z x.0) (sym e ∙ take_all 51221 s (omega arith)) x.1
