-- A run and the parts operation, which gets the run's own list: what they give together is the one run of RULES 11.7. Assumes nothing.
use mathlib.Core.Path.{◌≡◌, refl, sym, ap, ap₂, ◌∙◌}
use mathlib.Core.Logic.{◌⊎◌, inl, inr, ⊎_elim, ◌↔◌, ◌≢◌}
use mathlib.Core.Bool.{Bool, true, false}
use mathlib.Core.List.{List, [], ◌∷◌, ◌++◌, flat_map}
use Prim.Native.Nat.{ℕ, suc, ◌-◌, ◌/◌, ◌≤◌, ◌<◌, min}
use native.Mathlib.Omega.{arith}
use lib.Dec.{eqb, leb}
use lib.ListN.{length, take, drop, replicate, length-append, take-append-drop}
use lib.Seq.{take-take, take_at, length-take-le}
use borrow.Author.Tests.{eqb-true, eqb-false, leb-true, le-leb}
use Rattle.journeys.specs.Bytes.{filled, cleared}
use Rattle.journeys.specs.Tables.{Tables, vertex_count}
use Rattle.journeys.specs.Query.{Query, allowed}
use Rattle.journeys.specs.Order.{Settled, IsOrder}
use Rattle.journeys.specs.Parts.{first_parts, parts_at, part_list, part_bytes}
use Rattle.journeys.specs.Lists.{list_refusal, settled_in}
use Rattle.journeys.specs.Refusals.{Refusal, unless, chain, whole_of, table_lengths, buffer_lengths, contents, query_refusal}
use Rattle.journeys.specs.Answers.{Lent, Answer, tables, early, settled_bytes, accepted_after, Allowed, accepted_for}
use Rattle.journeys.specs.PartAnswers.{PartsLent, PartsAnswer, list_lengths, parts_early, parts_to, parts_answer, parts_refused_for, parts_accepted_for}
use Rattle.journeys.specs.OneRun.{together, parts_after, one_run_after}
use Rattle.journeys.proofs.Tests.{split, never, le-or-lt}
use Rattle.journeys.proofs.Counting.{flat_append}
use Rattle.journeys.proofs.Refusals.{chain-fine, chain_next, or-fine, or-next, unless-fine, unless-good}
use Rattle.journeys.proofs.Valid.{early-valid}
use Rattle.journeys.proofs.OrderLaws.{order-unique}
use Rattle.journeys.proofs.Determined.{Accepted, accepted-run}
use Rattle.journeys.proofs.PartAnswers.{parts-refused, parts-short, parts-fit}
use Rattle.lists.specs.Passes.{First}
use Rattle.lists.proofs.Entries.{first-is}
use Rattle.covering.specs.Lending.{parts_lent}
use Rattle.covering.specs.Pair.{handed, PartsFit, FirstShort}
use Rattle.covering.proofs.OwnList.{own-length, own-whole, settled_back, own-list-good}

-- A beginning of a list has no more parts than the list.
parts-grow : (N : Tables) (Q : Query) (S : List Settled) (j : ℕ) → length (part_list N Q (take j S)) ≤ length (part_list N Q S)
unfolding part_list
parts-grow N Q S j =
    let f = parts_at N Q in
    let e : flat_map f S ≡ flat_map f (take j S) ++ flat_map f (drop j S) = ap (flat_map f) (sym (take-append-drop j S)) ∙ flat_append f (take j S) (drop j S) in
    omega (
      arith,
      length-append (first_parts N Q) (flat_map f (take j S)),
      length-append (first_parts N Q) (flat_map f S),
      ap length e,
      length-append (flat_map f (take j S)) (flat_map f (drop j S)),
    )

-- the two lengths, and the five reasons before 10
lengths-fine : (list parts : List ℕ) → whole_of 8 list ≡ true → whole_of 12 parts ≡ true → (list_lengths list parts).number ≡ 0
unfolding list_lengths
lengths-fine list parts e f = ap (λ (r : Refusal). r.number) (or-next (unless (whole_of 8 list) 1 4) _ (ap (λ (r : Refusal). r.number) (unless-good (whole_of 8 list) 1 4 e)) ∙ unless-good (whole_of 12 parts) 1 5 f)

five-fine : (t u v w x : Refusal) → t.number ≡ 0 → u.number ≡ 0 → v.number ≡ 0 → w.number ≡ 0 → x.number ≡ 0 → (chain (t ∷ u ∷ v ∷ w ∷ x ∷ [])).number ≡ 0
five-fine t u v w x e f g h i = ap (λ (r : Refusal). r.number) (chain_next t u (v ∷ w ∷ x ∷ []) e ∙ chain_next u v (w ∷ x ∷ []) f ∙ chain_next v w (x ∷ []) g ∙ chain_next w x [] h) ∙ i

module _ (b : Lent) (parts : List ℕ) (Q : Query) (l : List Settled) where
  -- either there is room after all k steps, or there is a first without
  fit-or-short : (k : ℕ) → PartsFit b parts Q l k ⊎ ((j : ℕ) × FirstShort b parts Q l k j)
  fit-or-short k = go (first-is fits (suc k))
    where
      fits : ℕ → Bool
      fits j = leb (length (parts_after b parts Q l j)) (length parts / 12)

      go : (j : ℕ) × First fits (suc k) j → PartsFit b parts Q l k ⊎ ((j : ℕ) × FirstShort b parts Q l k j)
      go (j, f) =
          ⊎_elim (λ (h : suc k ≤ j). inl (leb-true _ _ (f.before k (omega arith))))
          (λ (h : j < suc k). inr (j, record { made = omega arith; short = λ r. never (le-leb _ _ r) (f.fails h); before = λ i a. leb-true _ _ (f.before i a) }))
          (le-or-lt (suc k) j)

  -- the tables, what is settled after k steps, and the part buffer
  abbrev own_lent : ℕ → PartsLent
  own_lent k = parts_lent b.vertices b.walks b.hops b.hop_size (flat_map settled_bytes (take k l)) parts

-- l is the order of settling, `parts` a part buffer of whole records
module _ (b : Lent) (Q : Query) (sound : (early b Q).number ≡ 0) (l : List Settled) (O : IsOrder (tables b) Q l) (parts : List ℕ) (even : whole_of 12 parts ≡ true) (k : ℕ) (made : k ≤ length l) where
  abbrev own : PartsLent
  own = own_lent b parts Q l k

  -- What a run leaves is not refused by 1 to 7, nor by 21.
  own-sound : (parts_early own Q).number ≡ 0
  unfolding early parts_early
  own-sound =
      let N = tables b in
      let links = chain-fine (table_lengths b.hop_size b.vertices b.walks b.hops ∷ buffer_lengths b.held b.settled ∷ contents N ∷ query_refusal N Q ∷ []) sound in
      five-fine (table_lengths b.hop_size b.vertices b.walks b.hops) (list_lengths own.list parts) (contents N) (query_refusal N Q) (list_refusal 8 (vertex_count N) (allowed Q) own.list)
      (links _ (inl refl))
      (lengths-fine own.list parts (own-whole (take k l)) even)
      (links _ (inr (inr (inl refl))))
      (links _ (inr (inr (inr (inl refl)))))
      (ap (λ (r : Refusal). r.number) (own-list-good N Q (early-valid b Q sound) O k))

  -- its first j entries are the first j steps
  same_parts : (j : ℕ) → j ≤ k → parts_to own Q j ≡ parts_after b parts Q l j
  same_parts j h = ap (part_list (tables b) Q) (ap (take j) (settled_back (take k l)) ∙ take-take j k l h)

  -- With room for all parts the answer counts and holds those of the one run.
  own-fits : PartsFit b parts Q l k
      → parts_answer own Q ≡ record { refusal = 0; place = 0; part_count = length (parts_after b parts Q l k); parts = filled parts (flat_map part_bytes (parts_after b parts Q l k)) }
  unfolding parts_accepted_for
  own-fits fit =
      parts-fit own Q own-sound
      (λ j h. omega (arith, fit, parts-grow (tables b) Q (settled_in own.list) j, ap (λ (S : List Settled). length (part_list (tables b) Q S)) (settled_back (take k l))))
      ∙ ap (λ (S : List Settled). record { refusal = 0; place = 0; part_count = length (part_list (tables b) Q S); parts = filled parts (flat_map part_bytes (part_list (tables b) Q S)) }) (settled_back (take k l))

  -- Without it refusal 10 names the first step of the one run that lacks room, and the part buffer is zero.
  own-short : (j : ℕ) → FirstShort b parts Q l k j → parts_answer own Q ≡ record { refusal = 10; place = j; part_count = 0; parts = cleared parts }
  unfolding parts_refused_for
  own-short j s =
      parts-short own Q own-sound j (omega (arith, s.made, ap length (settled_back (take k l)), length-take-le k l made))
      (λ r. s.short (omega (arith, r, ap length (same_parts j s.made))))
      (λ i a. omega (arith, s.before i a, ap length (same_parts i (omega (arith, s.made)))))

-- an accepted run, and the order of settling
module _ (b : Lent) (Q : Query) (limit : ℕ) (a : Answer) (A : Allowed b Q limit a) (accepted : a.refusal ≡ 0) (l : List Settled) (O : IsOrder (tables b) Q l) (parts : List ℕ) (even : whole_of 12 parts ≡ true) where
  run : Accepted b Q limit a
  run = accepted-run b Q limit a A accepted

  abbrev k : ℕ
  k = min limit (length l)

  made : k ≤ length l
  made = omega arith

  is : a ≡ accepted_after b Q l k
  is = run.is ∙ ap (λ (m : List Settled). accepted_after b Q m (min limit (length m))) (order-unique (tables b) Q (early-valid b Q run.fine) run.is_order O)

  handed-is : handed b a parts ≡ own_lent b parts Q l k
  unfolding accepted_for filled
  handed-is =
      let bytes = flat_map settled_bytes (take k l) in
      let counted : (handed b (accepted_after b Q l k) parts).list ≡ bytes = take_at bytes (replicate {A = ℕ} (length b.settled - length bytes) 0) _ (own-length (take k l)) in
      ap (λ (x : Answer). handed b x parts) is ∙ ap (λ (list : List ℕ). parts_lent b.vertices b.walks b.hops b.hop_size list parts) counted

  answers-are : parts_answer (handed b a parts) Q ≡ parts_answer (own_lent b parts Q l k) Q
  answers-are = ap (λ (x : PartsLent). parts_answer x Q) handed-is

  -- With room for the parts the pair gives the six numbers and every byte of the one run.
  pub pair-is-one-run : PartsFit b parts Q l k → together a (parts_answer (handed b a parts) Q) ≡ one_run_after b parts Q l k
  unfolding together one_run_after accepted_for
  pair-is-one-run fit = ap₂ together is (answers-are ∙ own-fits b Q run.fine l O parts even k made fit)

  -- Without it the refusal is 10, at the first step after which the one run lacks room for its parts, and the part buffer is zero.
  pub pair-short : (j : ℕ) → FirstShort b parts Q l k j → parts_answer (handed b a parts) Q ≡ record { refusal = 10; place = j; part_count = 0; parts = cleared parts }
  pair-short j s = answers-are ∙ own-short b Q run.fine l O parts even k made j s

  -- So the parts operation accepts the run's list exactly if the one run has room for its parts, and no other refusal than 10 can occur.
  pub pair-accepted : ((parts_answer (handed b a parts) Q).refusal ≡ 0) ↔ PartsFit b parts Q l k
  pair-accepted = (
    λ e. ⊎_elim (λ (f : PartsFit b parts Q l k). f) (λ (s : (j : ℕ) × FirstShort b parts Q l k j). absurd (let z : ⊥ = omega (arith, e, ap (λ (p : PartsAnswer). p.refusal) (pair-short s.0 s.1)) in z)) (fit-or-short b parts Q l k),
    λ f. ap (λ (p : PartsAnswer). p.refusal) (answers-are ∙ own-fits b Q run.fine l O parts even k made f),
  )

  pub pair-refused : (parts_answer (handed b a parts) Q).refusal ≢ 0 → (j : ℕ) × FirstShort b parts Q l k j
  pair-refused n = ⊎_elim (λ (f : PartsFit b parts Q l k). absurd (n (pair-accepted.1 f))) (λ (s : (j : ℕ) × FirstShort b parts Q l k j). s) (fit-or-short b parts Q l k)

-- An accepted parts operation has a part buffer of whole records.
pub accepted-even : (b : PartsLent) (Q : Query) → (parts_answer b Q).refusal ≡ 0 → whole_of 12 b.parts ≡ true
unfolding parts_early list_lengths parts_refused_for
accepted-even b Q e =
    unless-fine (whole_of 12 b.parts) 1 5 (omega arith) (or-fine (unless (whole_of 8 b.list) 1 4) _ (or-fine (list_lengths b.list b.parts) _ (or-fine (table_lengths b.hop_size b.vertices b.walks b.hops) _ sound).1).0).1
  where
    sound : (parts_early b Q).number ≡ 0
    sound =
        ⊎_elim (λ (t : eqb (parts_early b Q).number 0 ≡ true). eqb-true (parts_early b Q).number 0 t)
        (λ (t : eqb (parts_early b Q).number 0 ≡ false). sym (ap (λ (p : PartsAnswer). p.refusal) (parts-refused b Q (eqb-false (parts_early b Q).number 0 t))) ∙ e)
        (split (eqb (parts_early b Q).number 0))
