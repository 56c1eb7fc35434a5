-- What a run answers stands in the answer slice. Assumes nothing.
use mathlib.Core.Path.{◌≡◌, refl, ap, subst, ◌∙◌}
use mathlib.Core.List.{List, ◌++◌}
use Prim.Native.Nat.{ℕ}
use lib.IntN.{ℤ}
use lib.ListN.{length}
use Rattle.journeys.specs.Bytes.{word}
use Rattle.journeys.specs.Answers.{Answer}
use Rattle.search.specs.Outcome.{answer_of}
use Rattle.records.specs.declared.Answer as search
use Rattle.answered.specs.Ran.{RanBy}
use Rattle.siltbrow.specs.Ran.{answer_bytes, HeldRan}

-- z is the arrival as it stands in the query, and `allowed` what may be answered for it
pub ran-as : {A : Type 0} (one two bytes : A → List ℕ) (allowed : ℤ → A → Type 0) (arrival z : ℤ) (one_lent two_lent slice slice' : List ℕ) (a : A) → z ≡ arrival → length slice ≡ 24
    → allowed z a → slice' ≡ bytes a → RanBy one two bytes (allowed arrival) one_lent two_lent slice (one a) (two a) slice' 0
ran-as one two bytes allowed arrival z one_lent two_lent slice slice' a q long A e =
    record { untouched = λ n. absurd (n long); answered = λ _. (refl, (a, subst (λ (y : ℤ). allowed y a) q A, refl, refl, e)) }

-- with a held table, in either direction
pub ran : (allowed : ℤ → Answer → Type 0) (arrival z : ℤ) (held_lent settled_lent slice held settled slice' : List ℕ) (x : search.Answer) → z ≡ arrival → length slice ≡ 24
    → allowed z (answer_of x held settled) × (x.parts ≡ 0)
    → slice' ≡ word x.refusal ++ word x.place ++ word x.settled ++ word x.parts ++ word x.held ++ word x.finished
    → HeldRan (allowed arrival) held_lent settled_lent slice held settled slice' 0
ran allowed arrival z held_lent settled_lent slice held settled slice' x q long A e =
    ran-as (λ a. a.held) (λ a. a.settled) answer_bytes allowed arrival z held_lent settled_lent slice slice' (answer_of x held settled) q long A.0
    (e ∙ ap (λ (n : ℕ). word x.refusal ++ word x.place ++ word x.settled ++ word n ++ word x.held ++ word x.finished) A.1)
