-- The report from arrival to arrival. Assumes nothing.
use mathlib.Core.Path.{◌≡◌, refl, sym, ap, ap₂, ◌∙◌}
use mathlib.Core.Logic.{◌⊎◌, inl, inr, ◌≢◌}
use mathlib.Core.Bool.{Bool, true, false, cond}
use mathlib.Core.List.{List, ◌++◌}
use Prim.Native.Nat.{ℕ, suc, ◌+◌, ◌-◌, ◌*◌, ◌≤◌, ◌<◌}
use native.Mathlib.Omega.{arith}
use native.Mathlib.Nat.{mul-one, mul-zero}
use lib.Dec.{eqb, ltb}
use lib.ListN.{take, replicate}
use borrow.Author.Tests.{eq-eqb, eqb-true, eqb-false, ne_eqb, lt-ltb, le-ltb, ltb-true, ltb-false}
use Rattle.journeys.specs.Counting.{one, count, joined}
use Rattle.journeys.specs.Bytes.{word}
use Rattle.journeys.specs.Lists.{vertex_in}
use Rattle.journeys.proofs.Tests.{split}
use Rattle.journeys.proofs.Counting.{none-count, count_most}
use Rattle.words.specs.Written.{written}
use Rattle.evening.specs.Patients.{patients_of, all_patients, figures}
use Rattle.patients.specs.Evening.{times_settled, covered, report_bytes}
use Rattle.evening.specs.Tallied.{tallied, listed_patients, reported}
use Rattle.evening.proofs.Sums.{sum_same, sum-by-name}
use Rattle.evening.proofs.Figures.{figures-same, figures-split, figures-none, figure-written, anew}
use Rattle.evening.proofs.Tallying.{names, tally-figures}

module _ (reached : ℕ → ℕ → Bool) (patients : List ℕ) (m n : ℕ) where
  -- the figures after j arrivals: the vertices so far, the arrivals so far, and zero behind them
  unfoldable pub stage : ℕ → ℕ → ℕ
  stage j x = cond (ltb x m) (count (λ k. reached k x) j) (cond (ltb x (m + j)) (covered reached patients m n (x - m)) 0)

  stage-vertex : (j x : ℕ) → x < m → stage j x ≡ count (λ k. reached k x) j
  unfolding stage
  stage-vertex j x h = rw (lt-ltb x m h)

  stage-arrival : (j x : ℕ) → m ≤ x → x < m + j → stage j x ≡ covered reached patients m n (x - m)
  unfolding stage
  stage-arrival j x h k = rw (le-ltb x m h, lt-ltb x (m + j) k)

  stage-none : (j x : ℕ) → m ≤ x → m + j ≤ x → stage j x ≡ 0
  unfolding stage
  stage-none j x h k = rw (le-ltb x m h, le-ltb x (m + j) k)

  pub stage-start : (p : ℕ) → replicate {A = ℕ} (4 * p) 0 ≡ figures (stage 0) p
  unfolding count
  stage-start p = figures-none p ∙ figures-same (λ i. 0) (stage 0) p (λ x l. sym (go x (split (ltb x m))))
    where
      go : (x : ℕ) → (ltb x m ≡ true) ⊎ (ltb x m ≡ false) → stage 0 x ≡ 0
      go x (inl t) = stage-vertex 0 x (ltb-true x m t)
      go x (inr t) = let h = ltb-false x m t in stage-none 0 x h (omega (arith, h))

  pub stage-low : (j v : ℕ) → v < m → j ≤ 96 → stage j v ≤ 96
  stage-low j v h k = omega (arith, stage-vertex j v h, count_most (λ i. reached i v) j)

  -- One arrival more: its list names each vertex that it reaches once, and no other number.
  module _ (j : ℕ) (list : List ℕ) (c : ℕ) (below : (k : ℕ) → k < c → vertex_in 8 list k < m) (once : (v : ℕ) → names list c v ≡ one (reached j v)) where
    -- the patients of its entries are those of the vertices reached
    pub listed-covered : listed_patients patients list c ≡ covered reached patients m n j
    unfolding listed_patients
    listed-covered = sum-by-name (patients_of patients) (vertex_in 8 list) c m below ∙ sum_same _ _ m (λ v l. ap (λ (k : ℕ). patients_of patients v * k) (once v) ∙ go v (split (reached j v)))
      where
        go : (v : ℕ) → (reached j v ≡ true) ⊎ (reached j v ≡ false) → patients_of patients v * one (reached j v) ≡ cond (reached j v) (patients_of patients v) 0
        go v (inl t) = rw t (mul-one (patients_of patients v))
        go v (inr t) = rw t (mul-zero (patients_of patients v))

    pub stage-next : (report settled : List ℕ) → report ≡ figures (stage j) (m + n + 1) → take (8 * c) settled ≡ list → j < n
        → reported report patients settled c (4 * (m + j)) ≡ figures (stage (j + 1)) (m + n + 1)
    unfolding count
    stage-next report settled e f h =
        ap₂ (λ (r l : List ℕ). written (tallied r l c) (4 * (m + j)) (word (listed_patients patients l c))) e f
        ∙ ap₂ (λ (r : List ℕ) (x : ℕ). written r (4 * (m + j)) (word x)) (tally-figures (stage j) (m + n + 1) list c (λ k l. omega (arith, below k l))) listed-covered
        ∙ figure-written (λ x. stage j x + names list c x) (m + n + 1) (m + j) (covered reached patients m n j) (omega arith)
        ∙ figures-same (anew (λ x. stage j x + names list c x) (m + j) (covered reached patients m n j)) (stage (j + 1)) (m + n + 1) (λ x l. go x (split (eqb x (m + j))) (split (ltb x m)))
      where
        more : (x : ℕ) → count (λ k. reached k x) (j + 1) ≡ count (λ k. reached k x) j + one (reached j x)
        more x = let q : j + 1 ≡ suc j = omega arith in ap (count (λ k. reached k x)) q

        none_named : (x : ℕ) → m ≤ x → names list c x ≡ 0
        none_named x h = none-count (λ k. eqb (vertex_in 8 list k) x) c (λ k l. ne_eqb (vertex_in 8 list k) x (λ z. omega (arith, z, below k l)))

        far : (x : ℕ) → m ≤ x → x ≢ m + j → (ltb x (m + j) ≡ true) ⊎ (ltb x (m + j) ≡ false) → stage j x ≡ stage (j + 1) x
        far x h q (inl t) = let k = ltb-true x (m + j) t in stage-arrival j x h k ∙ sym (stage-arrival (j + 1) x h (omega (arith, k)))
        far x h q (inr t) = let k = ltb-false x (m + j) t in let z : m + (j + 1) ≤ x = omega (arith, k, q) in stage-none j x h k ∙ sym (stage-none (j + 1) x h z)

        go : (x : ℕ) → (eqb x (m + j) ≡ true) ⊎ (eqb x (m + j) ≡ false) → (ltb x m ≡ true) ⊎ (ltb x m ≡ false)
            → cond (eqb x (m + j)) (covered reached patients m n j) (stage j x + names list c x) ≡ stage (j + 1) x
        go x (inl t) u =
            let q = eqb-true x (m + j) t in
            let z : x - m ≡ j = omega (arith, q) in
            rw t (sym (stage-arrival (j + 1) x (omega (arith, q)) (omega (arith, q)) ∙ ap (covered reached patients m n) z))
        go x (inr t) (inl u) =
            let k = ltb-true x m u in
            rw t (ap₂ (λ (a b : ℕ). a + b) (stage-vertex j x k) (once x) ∙ sym (stage-vertex (j + 1) x k ∙ more x))
        go x (inr t) (inr u) =
            let k = ltb-false x m u in
            rw t (ap (λ (b : ℕ). stage j x + b) (none_named x k) ∙ let z : stage j x + 0 ≡ stage j x = omega arith in z ∙ far x k (eqb-false x (m + j) t) (split (ltb x (m + j))))

  -- the total behind all arrivals makes the report
  pub stage-end : (report : List ℕ) (total : ℕ) → report ≡ figures (stage n) (m + n + 1) → total ≡ all_patients patients m
      → written report (4 * (m + n)) (word total) ≡ report_bytes reached patients m n
  unfolding report_bytes joined
  stage-end report total e f =
      let g : ℕ → ℕ = anew (stage n) (m + n) (all_patients patients m) in
      let p : m + n + 1 ≡ suc (m + n) = omega arith in
      ap₂ (λ (r : List ℕ) (x : ℕ). written r (4 * (m + n)) (word x)) e f
      ∙ figure-written (stage n) (m + n + 1) (m + n) (all_patients patients m) (omega arith)
      ∙ ap (figures g) p
      ∙ ap₂ (λ (a : List ℕ) (x : ℕ). a ++ word x) (figures-split g m n ∙ ap₂ (λ (a b : List ℕ). a ++ b) front back) last
    where
      front : figures (anew (stage n) (m + n) (all_patients patients m)) m ≡ figures (times_settled reached patients m n) m
      front = figures-same _ _ m (λ x l. rw (ne_eqb x (m + n) (λ z. omega (arith, z))) (stage-vertex n x l))

      back : figures (λ i. anew (stage n) (m + n) (all_patients patients m) (m + i)) n ≡ figures (covered reached patients m n) n
      back = figures-same _ _ n (λ i l. rw (ne_eqb (m + i) (m + n) (λ z. omega (arith, z))) (stage-arrival n (m + i) (omega arith) (omega arith) ∙ ap (covered reached patients m n) (omega arith)))

      last : anew (stage n) (m + n) (all_patients patients m) (m + n) ≡ all_patients patients m
      last = rw (eq-eqb (m + n) (m + n) refl)
