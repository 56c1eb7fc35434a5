-- What the report means to a manager. Each theorem says in one sentence what it means. Assumes nothing.
use mathlib.Core.Path.{◌≡◌, refl, sym, ap, ◌∙◌}
use mathlib.Core.Logic.{◌⊎◌, inl, inr, ◌↔◌}
use mathlib.Core.Bool.{Bool, true, false, cond}
use mathlib.Core.List.{List}
use Prim.Native.Nat.{ℕ, ◌*◌, ◌<◌, ◌≤◌}
use native.Mathlib.Nat.{one-mul}
use lib.Dec.{eqb}
use lib.ListN.{length}
use borrow.Author.Tests.{eq-eqb, eqb-true}
use Rattle.journeys.proofs.Tests.{split}
use Rattle.journeys.specs.Counting.{one, count, none}
use Rattle.journeys.specs.Tables.{Tables, vertex_count}
use Rattle.journeys.specs.Query.{Query, allowed}
use Rattle.journeys.specs.Journeys.{Journey}
use Rattle.journeys.specs.Lists.{vertex_in}
use Rattle.journeys.specs.Valid.{Valid}
use Rattle.journeys.specs.Answers.{Lent, Answer, Allowed, tables}
use Rattle.journeys.proofs.Counting.{count_same}
use Rattle.journeys.proofs.Determined.{answer-unique}
use Rattle.evening.specs.Patients.{sum}
use Rattle.evening.specs.Asked.{arriving, evening_refusal}
use Rattle.patients.specs.Evening.{Reaches, times_settled}
use Rattle.evening.proofs.Sums.{sum_same, sum-swap, sum_ones, count-sum, sum-by-name}
use Rattle.evening.proofs.Judged.{early-at, valid-at}
use Rattle.patients.proofs.Arrival.{the_list, the_order, reaches, reaches-exactly, entry-low, once, the_run, run-allowed, run-listed}
use Rattle.patients.proofs.Determined.{reached-one}

-- As many vertices are reached as the order of settling has entries.
module _ (N : Tables) (Q : Query) (ok : Valid N Q) where
  pub reached-count : count (λ v. reaches N Q v) (vertex_count N) ≡ length (the_order N Q)
  reached-count =
      let e = vertex_in 8 (the_list N Q) in
      let c = length (the_order N Q) in
      let p : ℕ → ℕ = λ v. 1 in
      count-sum (λ v. reaches N Q v) (vertex_count N)
      ∙ sum_same (λ v. one (reaches N Q v)) (λ v. p v * count (λ k. eqb (e k) v) c) (vertex_count N) (λ v l. sym (one-mul (count (λ k. eqb (e k) v) c) ∙ once N Q ok v))
      ∙ sym (sum-by-name p e c (vertex_count N) (entry-low N Q ok))
      ∙ sum_ones c

module _ (b : Lent) (Q : Query) (gap n : ℕ) (patients report : List ℕ) (fine : (evening_refusal b Q gap n patients report).number ≡ 0) where
  abbrev m : ℕ
  m = vertex_count (tables b)

  -- A run without a step limit that finds room is finished: no vertex within the allowed time is left out.
  pub runs-finish : (j : ℕ) → j < n → (a : Answer) → Allowed b (arriving Q gap j) none a → a.refusal ≡ 0 → a.finished ≡ 1
  runs-finish j h a A z =
      let p = early-at b Q gap n patients report fine j h b.held b.settled refl refl in
      let e = answer-unique b (arriving Q gap j) none a (the_run b (arriving Q gap j)) A (run-allowed b.vertices b.walks b.hops b.hop_size b.held b.settled (arriving Q gap j) p) in
      ap (λ (x : Answer). x.finished) e ∙ (run-listed b.vertices b.walks b.hops b.hop_size b.held b.settled (arriving Q gap j) p (ap (λ (x : Answer). x.refusal) (sym e) ∙ z)).finished

  module _ (reached : ℕ → ℕ → Bool) (R : Reaches (tables b) Q gap n reached) where
    -- A vertex's figure counts the arrivals for which a journey from it starts in time.
    pub figure-counts-journeys : (v : ℕ) → v < m → (in_time : ℕ → Bool)
        → ((j : ℕ) → j < n → (in_time j ≡ true) ↔ ((d : ℕ) × (d ≤ allowed (arriving Q gap j)) × Journey (tables b) (arriving Q gap j) v d))
        → times_settled reached patients m n v ≡ count in_time n
    figure-counts-journeys v l in_time T =
        count_same (λ j. reached j v) in_time n (λ j h. reached-one (tables b) Q gap n reached (λ i x. cond (eqb x v) (in_time i) (reached i x)) R
        (record { exactly = λ i x g k. both i x g k }) j v h l ∙ here j)
      where
        here : (j : ℕ) → cond (eqb v v) (in_time j) (reached j v) ≡ in_time j
        here j = rw (eq-eqb v v refl)

        both : (i x : ℕ) → i < n → x < m → (cond (eqb x v) (in_time i) (reached i x) ≡ true) ↔ ((d : ℕ) × (d ≤ allowed (arriving Q gap i)) × Journey (tables b) (arriving Q gap i) x d)
        both i x g k = pick (split (eqb x v))
          where
            pick : (eqb x v ≡ true) ⊎ (eqb x v ≡ false) → (cond (eqb x v) (in_time i) (reached i x) ≡ true) ↔ ((d : ℕ) × (d ≤ allowed (arriving Q gap i)) × Journey (tables b) (arriving Q gap i) x d)
            pick (inl t) = rw (t, eqb-true x v t) (T i g)
            pick (inr t) = rw t (R.exactly i x g k)

    -- The figures of all vertices add up to the settled counts of the single runs.
    pub figures-add-up : (run : ℕ → Answer) → ((j : ℕ) → j < n → Allowed b (arriving Q gap j) none (run j)) → ((j : ℕ) → j < n → (run j).refusal ≡ 0)
        → sum (times_settled reached patients m n) m ≡ sum (λ j. (run j).settled_count) n
    figures-add-up run each quiet =
        sum_same (times_settled reached patients m n) (λ v. sum (λ j. one (reached j v)) n) m (λ v l. count-sum (λ j. reached j v) n)
        ∙ sum-swap (λ j v. one (reached j v)) n m
        ∙ sum_same (λ j. sum (λ v. one (reached j v)) m) (λ j. (run j).settled_count) n (λ j h. sym (count-sum (λ v. reached j v) m) ∙ counted j h)
      where
        counted : (j : ℕ) → j < n → count (λ v. reached j v) m ≡ (run j).settled_count
        counted j h =
            let Q' = arriving Q gap j in
            let ok = valid-at b Q gap n patients report fine j h in
            let p = early-at b Q gap n patients report fine j h b.held b.settled refl refl in
            let e = answer-unique b Q' none (run j) (the_run b Q') (each j h) (run-allowed b.vertices b.walks b.hops b.hop_size b.held b.settled Q' p) in
            let L = run-listed b.vertices b.walks b.hops b.hop_size b.held b.settled Q' p (ap (λ (x : Answer). x.refusal) (sym e) ∙ quiet j h) in
            count_same (λ v. reached j v) (λ v. reaches (tables b) Q' v) m (λ v l. reached-one (tables b) Q gap n reached (λ i x. reaches (tables b) (arriving Q gap i) x) R (record { exactly = λ i x g k. reaches-exactly (tables b) (arriving Q gap i) (valid-at b Q gap n patients report fine i g) x }) j v h l)
            ∙ reached-count (tables b) Q' ok
            ∙ sym (ap (λ (x : Answer). x.settled_count) e ∙ L.counted)
