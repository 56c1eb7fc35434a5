-- The room that the program lends is enough: refusals 8 to 10 and 21 are never printed, and what is printed of a sound job is the one run of RULES 11.7. Assumes nothing.
use mathlib.Core.Path.{◌≡◌, refl, ap, subst, ◌∙◌}
use mathlib.Core.Logic.{◌⊎◌, inl, inr, ⊎_elim}
use mathlib.Core.Bool.{Bool, true, false, cond}
use mathlib.Core.List.{List, [], ◌∷◌, ◌++◌, flat_map}
use Prim.Native.Nat.{ℕ, zero, suc, ◌+◌, ◌/◌, ◌%◌, ◌≤◌, min}
use native.Mathlib.Omega.{arith}
use lib.Dec.{eqb}
use lib.ListN.{length, take, length-take, length-replicate}
use borrow.Author.Tests.{eq-eqb, eqb-true, eqb-false, lt-ltb}
use Rattle.journeys.specs.Counting.{none}
use Rattle.journeys.specs.Tables.{Tables, tables_of}
use Rattle.journeys.specs.Query.{Query}
use Rattle.journeys.specs.Order.{Settled, IsOrder}
use Rattle.journeys.specs.Network.{distance_in}
use Rattle.journeys.specs.Records.{network}
use Rattle.journeys.specs.Refusals.{Refusal, unless, or_else, first_from, first_bad, whole_of, table_lengths, buffer_lengths, contents, query_refusal}
use Rattle.journeys.specs.Answers.{Lent, Answer, tables, early, refused_early, Room, room_up_to, accepted_after, refused_late, Allowed, accepted_for, answer_for}
use Rattle.journeys.specs.OneRun.{OneAnswer, together, one_run_after}
use Rattle.journeys.proofs.Tests.{split, cond-true}
use Rattle.journeys.proofs.Valid.{early-valid}
use Rattle.journeys.specs.Valid.{Valid}
use Rattle.journeys.proofs.Decoding.{vertex-count, walk-count}
use Rattle.journeys.proofs.Refusals.{room-exactly}
use Rattle.journeys.proofs.OrderLaws.{order-size, order-distinct}
use Rattle.journeys.proofs.Fits.{held-most, parts-most}
use Rattle.covering.specs.Pair.{PartsFit}
use Rattle.covering.proofs.Pair.{pair-accepted, pair-is-one-run}
use Rattle.job.specs.Job.{Read, job, faulty, Question, table_of, job_of}
use Rattle.report.specs.Text.{decimal_in, decimal, field, line, answer_word, printed, fault}
use Rattle.reach.specs.Says.{roomy, part_room, asks, parts_of, both, SaysOf, Says}
use Rattle.reach.proofs.JobSizes.{few}

even : whole_of 12 part_room ≡ true
unfolding whole_of
even = eq-eqb (length part_room % 12) 0 (omega (arith, length-replicate {A = ℕ} 12312 0))

module _ (v w h : List ℕ) (Q : Query) (few : length v / 12 ≤ 512) (short : length w / 16 ≤ 1024) where
  abbrev N : Tables
  N = tables_of 16 v w h

  module _ (ok : Valid N Q) {l : List Settled} (O : IsOrder N Q l) where
    steps : length l ≤ 512
    steps = omega (arith, order-size N Q ok O, vertex-count 16 v w h)

    room : (j : ℕ) → Room (roomy v w h) Q l j
    room j = (
      omega (arith, held-most (network N Q) (distance_in (take j l)), vertex-count 16 v w h, length-replicate {A = ℕ} 8192 0),
      omega (arith, length-take j l, steps, length-replicate {A = ℕ} 4096 0),
    )

    parts-room : (j : ℕ) → PartsFit (roomy v w h) part_room Q l j
    parts-room j = omega (arith, parts-most N Q (take j l) (order-distinct N Q ok O j), walk-count 16 v w h, length-replicate {A = ℕ} 12312 0)

  -- A job with sound tables and a sound query is answered.
  pub never-short : (a : Answer) → Allowed (roomy v w h) Q none a → (early (roomy v w h) Q).number ≡ 0 → a.refusal ≡ 0
  unfolding answer_for accepted_for
  never-short a A e =
      let x = A.accepted e in
      let k = min none (length x.0) in
      let found = eq-eqb (room_up_to (roomy v w h) Q x.0 k).number 0 ((room-exactly (roomy v w h) Q x.0 k).1 (λ j l. room (early-valid (roomy v w h) Q e) x.1 j)) in
      ap (λ (y : Answer). y.refusal) (x.2 ∙ cond-true (accepted_after (roomy v w h) Q x.0 k) (refused_late (roomy v w h) (room_up_to (roomy v w h) Q x.0 k)) found)

  -- So are its parts, and both together are the one run of RULES 11.7 over the whole order.
  pub one-run : (a : Answer) → Allowed (roomy v w h) Q none a → (early (roomy v w h) Q).number ≡ 0
      → (l : List Settled) × IsOrder N Q l × ((parts_of v w h Q a).refusal ≡ 0) × (both v w h Q a ≡ one_run_after (roomy v w h) part_room Q l (length l))
  one-run a A e =
      let l = (A.accepted e).0 in
      let O = (A.accepted e).1 in
      let ok = early-valid (roomy v w h) Q e in
      let r = never-short a A e in
      let all : min none (length l) ≡ length l = omega (arith, steps ok O) in
      let fit = parts-room ok O (min none (length l)) in
      (l, O, (pair-accepted (roomy v w h) Q none a A r l O part_room even).1 fit, pair-is-one-run (roomy v w h) Q none a A r l O part_room even fit ∙ ap (one_run_after (roomy v w h) part_room Q l) all)

-- ---- early refusals are 1 to 7
abbrev Most : ℕ → Refusal → Type 0
Most n r = r.number ≤ n

unless-most : (n : ℕ) (good : Bool) (number place : ℕ) → number ≤ n → Most n (unless good number place)
unfolding unless
unless-most n true number place h = omega arith
unless-most n false number place h = h

or_most : (n : ℕ) (a b : Refusal) → Most n a → Most n b → Most n (or_else a b)
unfolding or_else
or_most n a b x y = go (eqb a.number 0)
  where
    go : (t : Bool) → Most n (cond t b a)
    go true = y
    go false = x

from-most : (n : ℕ) (f : ℕ → Refusal) → ((i : ℕ) → Most n (f i)) → (m i : ℕ) → Most n (first_from f m i)
unfolding first_from
from-most n f h zero i = omega arith
from-most n f h (suc m) i = or_most n (f i) (first_from f m (i + 1)) (h i) (from-most n f h m (i + 1))

bad-most : (n number : ℕ) (good : ℕ → Bool) (m : ℕ) → number ≤ n → Most n (first_bad number good m)
unfolding first_bad
bad-most n number good m h = from-most n _ (λ i. unless-most n (good i) number i h) m 0

early-most : (b : Lent) (Q : Query) → (early b Q).number ≤ 7
unfolding early table_lengths buffer_lengths contents query_refusal
early-most b Q =
    or_most 7 _ _ (or_most 7 _ _ (unless-most 7 _ 1 0 (omega arith)) (or_most 7 _ _ (unless-most 7 _ 1 1 (omega arith)) (unless-most 7 _ 1 2 (omega arith))))
    (or_most 7 _ _ (or_most 7 _ _ (unless-most 7 _ 1 3 (omega arith)) (unless-most 7 _ 1 4 (omega arith)))
    (or_most 7 _ _
    (or_most 7 _ _ (bad-most 7 2 _ _ (omega arith)) (or_most 7 _ _ (bad-most 7 3 _ _ (omega arith)) (or_most 7 _ _ (bad-most 7 4 _ _ (omega arith)) (or_most 7 _ _ (bad-most 7 5 _ _ (omega arith)) (bad-most 7 6 _ _ (omega arith))))))
    (or_most 7 _ _ (unless-most 7 _ 7 0 (omega arith)) (or_most 7 _ _ (unless-most 7 _ 7 1 (omega arith)) (or_most 7 _ _ (unless-most 7 _ 7 2 (omega arith)) (or_most 7 _ _ (unless-most 7 _ 7 3 (omega arith)) (unless-most 7 _ 7 4 (omega arith))))))))

refused-most : (v w h : List ℕ) (Q : Query) → length v / 12 ≤ 512 → length w / 16 ≤ 1024 → (a : Answer) → Allowed (roomy v w h) Q none a → a.refusal ≤ 7
unfolding refused_early
refused-most v w h Q few short a A =
    ⊎_elim (λ (t : eqb (early (roomy v w h) Q).number 0 ≡ true). let z = never-short v w h Q few short a A (eqb-true _ 0 t) in omega arith)
    (λ (t : eqb (early (roomy v w h) Q).number 0 ≡ false).
    let z = ap (λ (y : Answer). y.refusal) (A.refused (eqb-false _ 0 t)) in omega (arith, z, early-most (roomy v w h) Q))
    (split (eqb (early (roomy v w h) Q).number 0))

-- ---- the program's text
begins : (o : OneAnswer) → o.refusal ≤ 7 → take 9 (printed o) ≡ answer_word ++ (32 ∷ (48 + o.refusal) ∷ 32 ∷ [])
unfolding printed line field decimal decimal_in flat_map
begins o h = rw (lt-ltb o.refusal 10 (omega arith))

-- Refusals 8 to 10 and 21 are never printed: whatever the input, its text is that of a faulty job, or that of an answer whose refusal is at most 7, and then it begins with the
-- word "answer", a space, that digit and a space.
pub never-printed : (s text : List ℕ) → Says s text
    → ((n : ℕ) × (text ≡ fault n)) ⊎ ((o : OneAnswer) × (text ≡ printed o) × (o.refusal ≤ 7) × (take 9 text ≡ answer_word ++ (32 ∷ (48 + o.refusal) ∷ 32 ∷ [])))
unfolding Says SaysOf together
never-printed s text x = go (job_of s) refl x
  where
    go : (j : Read) → job_of s ≡ j → SaysOf s j text
        → ((n : ℕ) × (text ≡ fault n)) ⊎ ((o : OneAnswer) × (text ≡ printed o) × (o.refusal ≤ 7) × (take 9 text ≡ answer_word ++ (32 ∷ (48 + o.refusal) ∷ 32 ∷ [])))
    go (faulty n) e y = inl (n, y)
    go (job v w h q) e y =
        let f = few s v w h q e in
        let o = both _ _ _ _ y.0 in
        let m = refused-most _ _ _ _ f.0 f.1 y.0 y.1 in
        inr (o, y.2, m, ap (take 9) y.2 ∙ begins o m)

-- The text of a job with sound tables and a sound query is that of the one run of RULES 11.7 over the whole order.
pub text-is-one-run : (s text : List ℕ) (v w h : ℕ) (q : Question) → Says s text → job_of s ≡ job v w h q
    → let b = roomy (table_of s 1 12) (table_of s 2 16) (table_of s 3 16) in
    (early b (asks q)).number ≡ 0 → (l : List Settled) × IsOrder (tables b) (asks q) l × (text ≡ printed (one_run_after b part_room (asks q) l (length l)))
unfolding Says SaysOf
text-is-one-run s text v w h q x e fine =
    let f = few s v w h q e in
    let y = subst (λ (j : Read). SaysOf s j text) e x in
    let r = one-run _ _ _ (asks q) f.0 f.1 y.0 y.1 fine in
    (r.0, r.1, y.2 ∙ ap printed r.3)
