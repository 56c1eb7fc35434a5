-- The tables may be judged once for many queries: of the refusals 1 to 7 only the last asks for the query, and the others ask for no byte of a buffer. Assumes nothing.
use mathlib.Core.Path.{◌≡◌, refl, sym, ap, ap₂, ◌∙◌}
use mathlib.Core.Logic.{◌⊎◌, inl, inr}
use mathlib.Core.Bool.{Bool, true, false}
use mathlib.Core.List.{List}
use Prim.Native.Nat.{ℕ, ◌%◌}
use lib.Dec.{eqb}
use lib.ListN.{length}
use borrow.Author.Tests.{eqb-true, eqb-false, eq-eqb}
use Rattle.journeys.specs.Query.{Query}
use Rattle.journeys.specs.Refusals.{Refusal, or_else, unless, whole_of, table_lengths, buffer_lengths, contents, query_refusal}
use Rattle.journeys.specs.Answers.{Lent, tables, early}
use Rattle.journeys.specs.Tables.{tables_of}
use Rattle.journeys.proofs.Tests.{split}
use Rattle.journeys.proofs.Refusals.{or-first, or-next}
use Rattle.intake.specs.Lending.{lent}
use Rattle.journeys.specs.Bytes.{word}
use Rattle.journeys.specs.Answers.{Allowed}
use mathlib.Core.List.{◌++◌}
use Rattle.std.specs.Prelude.{⊤, Result}
use Rattle.words.specs.Told.{told}
use Rattle.words.specs.Refusal as words
use Rattle.records.specs.declared.Answer as records
use Rattle.search.specs.Outcome.{answer_of}
use Rattle.queries.specs.Judged.{judged}
use Rattle.queries.specs.Single.{Left}

or_assoc : (a b c : Refusal) → or_else a (or_else b c) ≡ or_else (or_else a b) c
or_assoc a b c = go (split (eqb a.number 0))
  where
    go : (eqb a.number 0 ≡ true) ⊎ (eqb a.number 0 ≡ false) → or_else a (or_else b c) ≡ or_else (or_else a b) c
    go (inl t) = let z = eqb-true a.number 0 t in or-next a (or_else b c) z ∙ ap (λ (r : Refusal). or_else r c) (sym (or-next a b z))
    go (inr t) =
        let n = eqb-false a.number 0 t in
        or-first a (or_else b c) n ∙ sym (or-first a c n) ∙ ap (λ (r : Refusal). or_else r c) (sym (or-first a b n))

-- The chain of refusals 1 to 7 does not depend on the query but for its last link.
pub early-but-for-the-query : (b : Lent) (Q : Query) → early b Q ≡ or_else (judged b) (query_refusal (tables b) Q)
unfolding early judged
early-but-for-the-query b Q =
    let lengths = table_lengths b.hop_size b.vertices b.walks b.hops in
    let buffers = buffer_lengths b.held b.settled in
    ap (or_else lengths) (or_assoc buffers (contents (tables b)) (query_refusal (tables b) Q))
    ∙ or_assoc lengths (or_else buffers (contents (tables b))) (query_refusal (tables b) Q)

-- Before it the buffers are asked for their lengths alone: one answer holds for every share, and for the held buffer as any run leaves it.
pub judged-once : (v w h : List ℕ) (size : ℕ) (held held' share share' : List ℕ) → length held ≡ length held' → length share % 8 ≡ 0 → length share' % 8 ≡ 0
    → judged (lent v w h size held share) ≡ judged (lent v w h size held' share')
unfolding judged buffer_lengths whole_of
judged-once v w h size held held' share share' e p q =
    let x : eqb (length share % 8) 0 ≡ eqb (length share' % 8) 0 = eq-eqb (length share % 8) 0 p ∙ sym (eq-eqb (length share' % 8) 0 q) in
    ap₂ (λ (m : ℕ) (t : Bool). or_else (table_lengths size v w h) (or_else (or_else (unless (eqb (m % 16) 0) 1 3) (unless t 1 4)) (contents (tables_of size v w h)))) e x

-- ---- as the code has them
pub judged-asked : (b : Lent) (Q : Query) (fault r : Result ⊤ words.Refusal) → told fault ≡ judged b → told r ≡ or_else (told fault) (query_refusal (tables b) Q) → told r ≡ early b Q
judged-asked b Q fault r e f = f ∙ ap (λ (x : Refusal). or_else x (query_refusal (tables b) Q)) e ∙ sym (early-but-for-the-query b Q)

pub left-in-bytes : (b : Lent) (Q : Query) (limit : ℕ) (held settled bytes : List ℕ) (x : records.Answer) → Allowed b Q limit (answer_of x held settled) × (x.parts ≡ 0)
    → bytes ≡ word x.refusal ++ word x.place ++ word x.settled ++ word x.parts ++ word x.held ++ word x.finished
    → Left b Q limit held settled bytes
left-in-bytes b Q limit held settled bytes x A e = (
  answer_of x held settled,
  A.0,
  refl,
  refl,
  e ∙ ap (λ (n : ℕ). word x.refusal ++ word x.place ++ word x.settled ++ word n ++ word x.held ++ word x.finished) A.1,
)
