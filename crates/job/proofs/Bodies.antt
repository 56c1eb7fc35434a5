-- Laws of the tables in 20-byte records. Assumes nothing.
use mathlib.Core.Path.{◌≡◌, refl, sym, ap, ◌∙◌, subst}
use mathlib.Core.List.{List, [], ◌++◌}
use Prim.Native.Nat.{ℕ, ◌+◌, ◌-◌, ◌*◌, ◌≤◌}
use native.Mathlib.Nat.{mul-add, mul-one}
use native.Mathlib.Numerals.{add-one}
use native.Mathlib.Omega.{arith}
use lib.ListN.{length, take, drop, length-drop}
use lib.Seq.{length-take-le}
use Rattle.journeys.specs.Counting.{joined}
use Rattle.job.specs.declared.Job.{Job}
use Rattle.std.specs.Prelude.{Result, Ok}
use Rattle.job.specs.Job.{Read, job, faulty, Question, body, job_of, taken}
use Rattle.job.specs.Steps.{bodies, Laid, LaidOut}
use Rattle.copying.specs.Write.{over, Wrote}
use Rattle.copying.proofs.Copied.{both, in-front, over_none}

pub length-body : (s : List ℕ) (size i : ℕ) → 20 * i + 4 + size ≤ length s → length (body s size i) ≡ size
unfolding body
length-body s size i h = length-take-le size (drop (20 * i + 4) s) (simp length-drop (omega arith))

pub bodies-next : (s : List ℕ) (size from count : ℕ) → bodies s size from (count + 1) ≡ bodies s size from count ++ body s size (from + count)
unfolding bodies joined
bodies-next s size from count = rw add-one

pub no-bodies : (s : List ℕ) (size from : ℕ) → bodies s size from 0 ≡ []
unfolding bodies joined
no-bodies s size from = refl

-- a body as the code lends it: from a place up to another
pub body-lent : (s : List ℕ) (size i : ℕ) → take (20 * i + 4 + size - (20 * i + 4)) (drop (20 * i + 4) s) ≡ body s size i
unfolding body
body-lent s size i = let e : 20 * i + 4 + size - (20 * i + 4) ≡ size = omega arith in rw e

pub times_more : (k j at r m : ℕ) → at ≡ k * j → m ≡ k → r ≡ at + m → r ≡ k * (j + 1)
times_more k j at r m a b e = omega (arith, mul-add k j 1, mul-one k)

-- one body more at the front of a buffer
pub one_more : (s : List ℕ) (size from j : ℕ) {d d1 : List ℕ} {r1 : ℕ} {d2 : List ℕ} {r2 : ℕ}
    → r1 ≤ length d → Wrote d 0 (bodies s size from j) d1 r1
    → Wrote d1 r1 (take (20 * (from + j) + 4 + size - (20 * (from + j) + 4)) (drop (20 * (from + j) + 4) s)) d2 r2
    → Wrote d 0 (bodies s size from (j + 1)) d2 r2
one_more s size from j {d} {d1} {r1} {d2} {r2} room p q =
    subst (λ (l : List ℕ). Wrote d 0 l d2 r2) (sym (bodies-next s size from j))
    (both room p (rw body-lent at q))

-- ---- what is left in a lent buffer
pub table_taken : (s t b : List ℕ) (v w h : ℕ) (q : Question) {d d' : List ℕ} {r : ℕ} → job v w h q ≡ job_of s → t ≡ b → Wrote d 0 b d' r
    → d' ≡ over (taken (job_of s) t) d
table_taken s t b v w h q {d} {d'} {r} e p a = in-front a ∙ ap (λ (l : List ℕ). over l d) (sym p ∙ ap (λ (x : Read). taken x t) e)

pub table_kept : (s t : List ℕ) (n : ℕ) (d : List ℕ) → faulty n ≡ job_of s → d ≡ over (taken (job_of s) t) d
table_kept s t n d e = over_none d ∙ ap (λ (x : Read). over (taken x t) d) e

pub laid_of : {s : List ℕ} {r : Result Job ℕ} {j : Job} → r ≡ Ok j → LaidOut s r → Laid s j.counts.vertices j.counts.walks j.counts.hops
laid_of {s} {r} {j} e l = subst (λ (x : Result Job ℕ). LaidOut s x) e l
