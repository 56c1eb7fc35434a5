-- Three numbers in 12 bytes are the answer for parts. Assumes nothing.
use mathlib.Core.Path.{◌≡◌, refl, ap, subst, ◌∙◌}
use mathlib.Core.List.{List, ◌++◌, append-nil}
use Prim.Native.Nat.{ℕ}
use native.Mathlib.Omega.{arith}
use lib.IntN.{ℤ}
use lib.ListN.{length, drop_of_length-le}
use Rattle.journeys.specs.Bytes.{word}
use Rattle.journeys.specs.PartAnswers as answers
use Rattle.journeys.specs.Query.{Query}
use Rattle.words.specs.Written.{written}
use Rattle.words.proofs.Written.{front, three-words}
use Rattle.records.specs.Asked.{query_by}
use Rattle.std.specs.Prelude.{Result}
use Rattle.words.specs.Told.{told}
use Rattle.words.specs.Refusal.{Refusal}
use Rattle.covering.specs.Lending.{count_in, parts_answer_of}
use Rattle.siltbrow.specs.PartsRan.{parts_answer_bytes, PartsLeft}

-- the answer in its slice; z is the second of the query as it stands there
pub parts-ran : (A : Query → answers.PartsAnswer) (buffer : List ℕ) (walk offset : ℕ) (second z : ℤ) (duration speed : ℕ) (slice parts slice' : List ℕ) (x : Result ℕ Refusal) → z ≡ second → length slice ≡ 12
    → parts_answer_of x parts ≡ A (query_by walk offset z duration speed)
    → slice' ≡ word (told x).number ++ word (told x).place ++ word (count_in x)
    → PartsLeft (A (query_by walk offset second duration speed)) buffer slice parts slice' 0
parts-ran A buffer walk offset second z duration speed slice parts slice' x q long f e =
    let is = subst (λ (y : ℤ). parts_answer_of x parts ≡ A (query_by walk offset y duration speed)) q f in
    record { untouched = λ n. absurd (n long); answered = λ _. (refl, ap (λ (a : answers.PartsAnswer). a.parts) is, e ∙ ap parts_answer_bytes is) }
