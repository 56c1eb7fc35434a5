-- A run and the parts of its own list, called one after the other: their bytes are those of the one run of RULES 11.7. Assumes nothing.
use mathlib.Core.Path.{◌≡◌, refl, sym, ap, ap₂, ◌∙◌}
use mathlib.Core.Logic.{◌↔◌, ◌≢◌}
use mathlib.Core.Bool.{true}
use mathlib.Core.List.{List, ◌++◌, flat_map}
use Prim.Native.Nat.{ℕ, ◌*◌}
use lib.ListN.{length, take, drop}
use Rattle.journeys.specs.Bytes.{be32, word, filled, cleared}
use Rattle.journeys.specs.Query.{Query}
use Rattle.journeys.specs.Order.{Settled}
use Rattle.journeys.specs.Parts.{part_list, part_bytes}
use Rattle.journeys.specs.Refusals.{whole_of}
use Rattle.journeys.specs.Answers.{Lent, Answer, Allowed}
use Rattle.journeys.specs.PartAnswers.{PartsAnswer, parts_answer}
use Rattle.journeys.specs.OneRun.{OneAnswer, together, one_run_after}
use Rattle.words.specs.Written.{written}
use Rattle.covering.specs.Lending.{parts_lent}
use Rattle.covering.specs.Pair.{handed, PartsFit, FirstShort}
use Rattle.covering.proofs.Pair as covering
use Rattle.siltbrow.specs.Ran.{answer_bytes}
use Rattle.siltbrow.specs.PartsRan.{parts_answer_bytes}
use Rattle.siltbrow.specs.Call.{Call, Completed, refusal, settled_count, read, Orders, steps, S}
use Rattle.siltbrow.specs.PartsCall.{PartsCall, PartsCompleted, parts_refusal, parts_count}
use Rattle.siltbrow.specs.Pair.{Follows, one_bytes}
use Rattle.answered.proofs.Answers.{refusal-read, settled-read}
use Rattle.answered.proofs.Parts as parting

-- the part count of the second answer in the place of the first one's, which is 0
joint-bytes : (a : Answer) (q : PartsAnswer) → written (answer_bytes a) 12 (drop 8 (parts_answer_bytes q)) ≡ one_bytes (together a q)
unfolding written word together
joint-bytes a q = refl

module _ (c : Call) (E : Completed c) (accepted : refusal c ≡ 0) (p : PartsCall) (F : PartsCompleted p) (own : Follows c p) where
  abbrev b : Lent
  b = c.lent

  abbrev Q : Query
  Q = c.query

  abbrev parts : List ℕ
  parts = p.lent.parts

  abbrev a : Answer
  a = (E.0.answered E.1).1.0

  abbrev q : PartsAnswer
  q = parts_answer (handed b a parts) Q

  A : Allowed b Q c.limit a
  A = (E.0.answered E.1).1.1

  answer-is : c.answer ≡ answer_bytes a
  answer-is = (E.0.answered E.1).1.4

  a-accepted : a.refusal ≡ 0
  a-accepted = sym (ap (λ (s : List ℕ). be32 s 0) answer-is ∙ refusal-read a) ∙ accepted

  -- the second call answers for the counted records of the first one's settled buffer
  q-is : parts_answer p.lent p.query ≡ q
  q-is =
      let counted : settled_count c ≡ a.settled_count = ap (λ (s : List ℕ). be32 s 8) answer-is ∙ settled-read a in
      let list : take (8 * settled_count c) c.settled ≡ take (8 * a.settled_count) a.settled = ap₂ (λ (n : ℕ) (s : List ℕ). take (8 * n) s) counted (E.0.answered E.1).1.3 in
      ap₂ parts_answer (own.lent ∙ ap (λ (s : List ℕ). parts_lent b.vertices b.walks b.hops b.hop_size s parts) list) own.query

  parts-bytes : p.parts ≡ q.parts
  parts-bytes = (F.0.answered F.1).1 ∙ ap (λ (x : PartsAnswer). x.parts) q-is

  parts-answer-is : p.answer ≡ parts_answer_bytes q
  parts-answer-is = (F.0.answered F.1).2 ∙ ap (λ (x : PartsAnswer). parts_answer_bytes x) q-is

  q-refusal : parts_refusal p ≡ q.refusal
  q-refusal = ap (λ (s : List ℕ). be32 s 0) parts-answer-is ∙ parting.refusal-read q

  -- l is the order of settling
  module _ (l : List Settled) (O : Orders c l) where
    abbrev one_run : OneAnswer
    one_run = one_run_after b parts Q l (steps c l)

    -- A part buffer of whole records is accepted exactly if the one run of RULES 11.7 has room for its parts in it.
    pub pair-accepted : whole_of 12 parts ≡ true → (parts_refusal p ≡ 0) ↔ PartsFit b parts Q l (steps c l)
    pair-accepted even =
        let exactly = covering.pair-accepted b Q c.limit a A a-accepted l O parts even in
        (λ e. exactly.0 (sym q-refusal ∙ e), λ f. q-refusal ∙ exactly.1 f)

    both : parts_refusal p ≡ 0 → together a q ≡ one_run
    both e =
        let fine : q.refusal ≡ 0 = sym q-refusal ∙ e in
        let even = covering.accepted-even (handed b a parts) Q fine in
        covering.pair-is-one-run b Q c.limit a A a-accepted l O parts even ((covering.pair-accepted b Q c.limit a A a-accepted l O parts even).0 fine)

    -- Then the three buffers are those of the one run, and so are the 24 bytes of the run with the part count of the second call in its place.
    pub pair-is-one-run : parts_refusal p ≡ 0
        → (c.held ≡ one_run.held) × (c.settled ≡ one_run.settled) × (p.parts ≡ one_run.parts) × (written c.answer 12 (drop 8 p.answer) ≡ one_bytes one_run)
    unfolding together
    pair-is-one-run e = (
      (E.0.answered E.1).1.2 ∙ ap (λ (x : OneAnswer). x.held) (both e),
      (E.0.answered E.1).1.3 ∙ ap (λ (x : OneAnswer). x.settled) (both e),
      parts-bytes ∙ ap (λ (x : OneAnswer). x.parts) (both e),
      ap₂ (λ (s t : List ℕ). written s 12 (drop 8 t)) answer-is parts-answer-is ∙ joint-bytes a q ∙ ap one_bytes (both e),
    )

    -- The part bytes are the parts of step 0 and of S in their order, with zero behind them.
    pub parts_are : parts_refusal p ≡ 0
        → (parts_count p ≡ length (part_list (read c) Q (S c l))) × (p.parts ≡ filled parts (flat_map part_bytes (part_list (read c) Q (S c l))))
    unfolding together one_run_after
    parts_are e = (
      ap (λ (s : List ℕ). be32 s 8) parts-answer-is ∙ parting.count-read q ∙ ap (λ (x : OneAnswer). x.part_count) (both e),
      parts-bytes ∙ ap (λ (x : OneAnswer). x.parts) (both e),
    )

    -- Otherwise the refusal is 10, at the first step after which the one run lacks room for its parts, and the part buffer is zero.
    pub pair-refused : whole_of 12 parts ≡ true → parts_refusal p ≢ 0
        → (j : ℕ) × FirstShort b parts Q l (steps c l) j × (p.answer ≡ word 10 ++ word j ++ word 0) × (p.parts ≡ cleared parts)
    pair-refused even n =
        let short = covering.pair-refused b Q c.limit a A a-accepted l O parts even (λ z. n (q-refusal ∙ z)) in
        let is = covering.pair-short b Q c.limit a A a-accepted l O parts even short.0 short.1 in
        (short.0, short.1, parts-answer-is ∙ ap (λ (x : PartsAnswer). parts_answer_bytes x) is, parts-bytes ∙ ap (λ (x : PartsAnswer). x.parts) is)
