-- The first demand for the parts of a settled list, in either direction. Each theorem says in one sentence what it means. Assumes nothing.
use mathlib.Core.Path.{◌≡◌, sym, ap, subst, ◌∙◌}
use mathlib.Core.Logic.{◌⊎◌, inl, inr, ⊎_elim, ◌↔◌, ◌≢◌}
use mathlib.Core.List.{List, ◌++◌, flat_map, append_assoc}
use Prim.Native.Nat.{ℕ, zero, suc, ◌/◌, ◌≤◌, ◌<◌}
use native.Mathlib.Omega.{arith}
use native.Mathlib.Decide.{ℕ_discrete}
use lib.ListN.{length, take, length-append}
use lib.Seq.{take_all}
use Rattle.journeys.specs.Bytes.{be32, word, filled, cleared}
use Rattle.journeys.specs.Order.{Settled, settled}
use Rattle.journeys.specs.Parts.{Part, part_bytes}
use Rattle.journeys.specs.Lists.{settled_in, vertex_in, distance_at}
use Rattle.journeys.specs.PartAnswers.{PartsAnswer}
use Rattle.journeys.specs.ListAnswers.{parts_to_for, PartsRoomFor, parts_refused_for, parts_accepted_for}
use Rattle.journeys.proofs.Tests.{le-or-lt, last-or-below}
use Rattle.journeys.proofs.Counting.{flat-snoc}
use Rattle.journeys.proofs.PartAnswers.{settled-count, settled-next, refused-before, refused-short, all-fits}
use Rattle.words.proofs.Written.{word_back}
use Rattle.answered.specs.PartsOver.{PartsOver, Lacking, Roomy, parts_answer_bytes, parts_answered, refusal_of, place_of, count_of, all_parts}

-- the three numbers as they stand in the answer slice
pub refusal-read : (a : PartsAnswer) → be32 (parts_answer_bytes a) 0 ≡ a.refusal
unfolding be32 word
refusal-read a = word_back a.refusal

pub place_read : (a : PartsAnswer) → be32 (parts_answer_bytes a) 4 ≡ a.place
unfolding be32 word
place_read a = word_back a.place

pub count-read : (a : PartsAnswer) → be32 (parts_answer_bytes a) 8 ≡ a.part_count
unfolding be32 word
count-read a = word_back a.part_count

-- the parts that a list gives: some first ones, and then those of each entry
abbrev in_turn : List Part → (Settled → List Part) → List Settled → List Part
in_turn first at S = first ++ flat_map at S

-- The parts of one entry more are no fewer.
pub turn-grows : (first : List Part) (at : Settled → List Part) (list : List ℕ) (k : ℕ) → k < length list / 8
    → length (parts_to_for (in_turn first at) list k) ≤ length (parts_to_for (in_turn first at) list (suc k))
turn-grows first at list k h =
    let x = settled (vertex_in 8 list k) (distance_at 8 list k) in
    let more : in_turn first at (take (suc k) (settled_in list)) ≡ in_turn first at (take k (settled_in list)) ++ at x =
    ap (in_turn first at) (settled-next list k h) ∙ ap (λ (ps : List Part). first ++ ps) (flat-snoc at (take k (settled_in list)) x)
    ∙ sym (append_assoc first (flat_map at (take k (settled_in list))) (at x)) in
    omega (arith, ap length more, length-append (in_turn first at (take k (settled_in list))) (at x))

-- The call has completed as its contract says, with an answer slice of 12 bytes; no entry takes parts away, and 10 stands for the room alone.
pub record PartsComplete (s : PartsOver) : Type 0 where
  pub parts_is : s.parts_after ≡ (parts_answered s).parts
  pub answer-is : s.answer ≡ parts_answer_bytes (parts_answered s)
  pub grows : (k : ℕ) → k < length s.list / 8 → length (parts_to_for s.parts_of s.list k) ≤ length (parts_to_for s.parts_of s.list (suc k))
  pub other : s.early.number ≢ 10

module _ (s : PartsOver) (E : PartsComplete s) where
  abbrev n : ℕ
  n = length s.list / 8

  abbrev Room : ℕ → Type 0
  Room = PartsRoomFor s.parts_of s.list s.parts

  abbrev Lacks : ℕ → Type 0
  Lacks = Lacking s.parts_of s.list s.parts

  -- room for more entries is room for fewer
  room-less : (k : ℕ) → k ≤ n → Room k → (j : ℕ) → j ≤ k → Room j
  room-less zero h r j l = let e : 0 ≡ j = omega arith in subst Room e r
  room-less (suc k) h r j l =
      ⊎_elim (λ (e : j ≡ suc k). subst Room (sym e) r) (λ (l' : j < suc k). room-less k (omega arith) (omega (arith, E.grows k (omega arith))) j (omega arith))
      (last-or-below (let z : j < suc (suc k) = omega arith in z))

  -- up to some number of entries all parts fit, or there is a first that lacks room
  first-lack : (k : ℕ) → k ≤ n → ((j : ℕ) → j ≤ k → Room j) ⊎ ((j : ℕ) × Lacks j)
  first-lack zero h =
      ⊎_elim (λ (r : Room 0). inl (room-less 0 h r))
      (λ (o : length s.parts / 12 < length (parts_to_for s.parts_of s.list 0)). inr (0, record { listed = h; over = o; before = λ j l. absurd (omega arith) }))
      (le-or-lt (length (parts_to_for s.parts_of s.list 0)) (length s.parts / 12))
  first-lack (suc k) h =
      ⊎_elim
      (λ (all : (j : ℕ) → j ≤ k → Room j).
      ⊎_elim (λ (r : Room (suc k)). inl (room-less (suc k) h r))
      (λ (o : length s.parts / 12 < length (parts_to_for s.parts_of s.list (suc k))). inr (suc k, record { listed = h; over = o; before = λ j l. all j (omega arith) }))
      (le-or-lt (length (parts_to_for s.parts_of s.list (suc k))) (length s.parts / 12)))
      (λ (x : (j : ℕ) × Lacks j). inr x)
      (first-lack k (omega arith))

  number : (i : ℕ) (field : PartsAnswer → ℕ) → ((x : PartsAnswer) → be32 (parts_answer_bytes x) i ≡ field x) → be32 s.answer i ≡ field (parts_answered s)
  number i field h = ap (λ (l : List ℕ). be32 l i) E.answer-is ∙ h (parts_answered s)

  -- what an answer says in the bytes
  told : (a : PartsAnswer) → parts_answered s ≡ a → (refusal_of s ≡ a.refusal) × (place_of s ≡ a.place) × (count_of s ≡ a.part_count) × (s.parts_after ≡ a.parts)
  told a e = (
    number 0 (λ x. x.refusal) refusal-read ∙ ap (λ (x : PartsAnswer). x.refusal) e,
    number 4 (λ x. x.place) place_read ∙ ap (λ (x : PartsAnswer). x.place) e,
    number 8 (λ x. x.part_count) count-read ∙ ap (λ (x : PartsAnswer). x.part_count) e,
    E.parts_is ∙ ap (λ (x : PartsAnswer). x.parts) e,
  )

  -- Bad input is refused by number and place; nothing is counted, and no byte of the part buffer is changed.
  pub parts-refused : s.early.number ≢ 0 → (refusal_of s ≡ s.early.number) × (place_of s ≡ s.early.place) × (count_of s ≡ 0) × (s.parts_after ≡ s.parts)
  unfolding parts_refused_for
  parts-refused bad = told (parts_refused_for s.early s.parts) (refused-before s.parts_of s.list s.parts s.early bad)

  -- Sound input that lacks room is refused with 10 at the first entry whose parts do not fit, counted from 1, and 0 for those of step 0; the part buffer is zero.
  pub parts-short : s.early.number ≡ 0 → (k : ℕ) → Lacking s.parts_of s.list s.parts k
      → (refusal_of s ≡ 10) × (place_of s ≡ k) × (count_of s ≡ 0) × (s.parts_after ≡ cleared s.parts)
  unfolding parts_refused_for
  parts-short sound k x =
      told (parts_refused_for (record { number = 10; place = k }) (cleared s.parts))
      (refused-short s.parts_of s.list s.parts s.early sound k (omega (arith, x.listed, settled-count s.list)) (λ r. omega (arith, x.over)) x.before)

  whole : parts_to_for s.parts_of s.list n ≡ all_parts s
  whole = ap s.parts_of (take_all n (settled_in s.list) (omega (arith, settled-count s.list)))

  -- Sound input with room for all its parts is accepted: they are counted and stand in the part buffer in their order, with zero behind them.
  pub parts-fit : s.early.number ≡ 0 → Roomy s
      → (refusal_of s ≡ 0) × (place_of s ≡ 0) × (count_of s ≡ length (all_parts s)) × (s.parts_after ≡ filled s.parts (flat_map part_bytes (all_parts s)))
  unfolding parts_accepted_for
  parts-fit sound room =
      told (parts_accepted_for s.parts_of s.list s.parts)
      (all-fits s.parts_of s.list s.parts s.early sound (λ j l. room-less n (omega arith) (omega (arith, ap length whole)) j (omega (arith, settled-count s.list))))

  -- ---- which of the three it is
  abbrev Ends : Type 0
  Ends = (s.early.number ≢ 0) ⊎ ((s.early.number ≡ 0) × ((k : ℕ) × Lacks k)) ⊎ ((s.early.number ≡ 0) × Roomy s)

  ends : Ends
  ends = go (ℕ_discrete s.early.number 0)
    where
      go : Dec (s.early.number ≡ 0) → Ends
      go (no bad) = inl bad
      go (yes sound) =
          ⊎_elim (λ (all : (j : ℕ) → j ≤ n → Room j). inr (inr (sound, omega (arith, all n (omega arith), ap length whole))))
          (λ (x : (k : ℕ) × Lacks k). inr (inl (sound, x)))
          (first-lack n (omega arith))

  -- A call is refused with 10 at k exactly if its input is sound and the parts of step 0 and of the first k entries are the first that are more than lent.
  pub short-exactly : (k : ℕ) → ((refusal_of s ≡ 10) × (place_of s ≡ k)) ↔ ((s.early.number ≡ 0) × Lacking s.parts_of s.list s.parts k)
  short-exactly k = (λ p. there p ends, λ p. let t = parts-short p.0 k p.1 in (t.0, t.1))
    where
      there : (refusal_of s ≡ 10) × (place_of s ≡ k) → Ends → (s.early.number ≡ 0) × Lacks k
      there p (inl bad) = absurd (E.other (sym (parts-refused bad).0 ∙ p.0))
      there p (inr (inl x)) = (x.0, subst Lacks (sym (parts-short x.0 x.1.0 x.1.1).1 ∙ p.1) x.1.1)
      there p (inr (inr x)) = absurd (let z : ⊥ = omega (arith, p.0, (parts-fit x.0 x.1).0) in z)

  -- A call is accepted exactly if its input is sound and there is room for all its parts.
  pub fit-exactly : (refusal_of s ≡ 0) ↔ ((s.early.number ≡ 0) × Roomy s)
  fit-exactly = (λ e. there e ends, λ p. (parts-fit p.0 p.1).0)
    where
      there : refusal_of s ≡ 0 → Ends → (s.early.number ≡ 0) × Roomy s
      there e (inl bad) = absurd (bad (sym (parts-refused bad).0 ∙ e))
      there e (inr (inl x)) = absurd (let z : ⊥ = omega (arith, e, (parts-short x.0 x.1.0 x.1.1).0) in z)
      there e (inr (inr p)) = p
