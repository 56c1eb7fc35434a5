-- The walks with a twin that arrive at a vertex, counted in its run. Assumes nothing.
use Rattle.std.proofs.Common.{◌≡◌, ℕ, ◌+◌, ◌-◌, ◌<◌, ◌≤◌, Bool, true, false, not, ◌&&◌, eqb, ltb, ◌≢◌, List, sym, refl, ap, ◌∙◌, ⊎_elim, arith, eq-eqb, ne_eqb}
use Rattle.journeys.specs.Counting.{none, count}
use Rattle.journeys.proofs.Tests.{le-or-lt, and_right}
use Rattle.journeys.proofs.Counting.{none-count, count_none, count_most, count-skip, count-grows, count-append}
use Rattle.records.specs.Columns.{records_in, to_at, Ascending, arriving_below}
use Rattle.records.proofs.Columns.{all-count, low_count, high-count}
use Rattle.quick.specs.Claims.{twin_at, arrives, alone_in}

other-end : (t : List ℕ) (v i : ℕ) → to_at 16 t i ≢ v → arrives t v i ≡ false
unfolding arrives
other-end t v i n = and_right (not (eqb (twin_at t i) none)) (ne_eqb (to_at 16 t i) v n)

own-end : (t : List ℕ) (v i : ℕ) → to_at 16 t i ≡ v → arrives t v i ≡ not (eqb (twin_at t i) none)
unfolding arrives
own-end t v i e = go (not (eqb (twin_at t i) none)) (eqb (to_at 16 t i) v) (eq-eqb (to_at 16 t i) v e)
  where
    go : (a b : Bool) → b ≡ true → a && b ≡ a
    go true b q = q
    go false b q = refl

module _ (t : List ℕ) (up : Ascending 16 t) (v : ℕ) where
  abbrev below : ℕ → Bool
  below i = ltb (to_at 16 t i) v

  pub run_inside : arriving_below 16 t v ≤ records_in 16 t
  unfolding arriving_below
  run_inside = count_most below (records_in 16 t)

  before-run : (j : ℕ) → j < arriving_below 16 t v → to_at 16 t j < v
  unfolding arriving_below
  before-run j l =
      ⊎_elim (λ (h : v ≤ to_at 16 t j). absurd (let z : ⊥ = omega (arith, high-count 16 t up v j (omega (arith, run_inside)) (λ _. h), count_most below j) in z))
      (λ (h : to_at 16 t j < v). h)
      (le-or-lt v (to_at 16 t j))

  from-run : (j : ℕ) → arriving_below 16 t v ≤ j → j < records_in 16 t → v ≤ to_at 16 t j
  unfolding arriving_below
  from-run j l m =
      let e : j + 1 - 1 ≡ j = omega arith in
      ⊎_elim (λ (h : v ≤ to_at 16 t j). h)
      (λ (h : to_at 16 t j < v).
      absurd (let z : ⊥ = omega (arith, low_count 16 t up v (j + 1) (omega arith) (λ _. rw e h), count-grows below (j + 1) (records_in 16 t) (omega arith)) in z))
      (le-or-lt v (to_at 16 t j))

-- ---- the run of v
module _ (t : List ℕ) (up : Ascending 16 t) (v : ℕ) where
  abbrev first : ℕ
  first = arriving_below 16 t v

  abbrev end : ℕ
  end = arriving_below 16 t (v + 1)

  own-to : (i : ℕ) → first ≤ i → i < end → to_at 16 t i ≡ v
  own-to i l m = omega (arith, from-run t up v i l (omega (arith, run_inside t up (v + 1))), before-run t up (v + 1) i m)

  pub run-ascends : first ≤ end
  run-ascends =
      ⊎_elim (λ (h : first ≤ end). h)
      (λ (h : end < first). absurd (let z : ⊥ = omega (arith, before-run t up v end h, from-run t up (v + 1) end (omega arith) (omega (arith, run_inside t up v))) in z))
      (le-or-lt first end)

  -- none arrives before it, those with a twin in it, and none behind
  pub run-starts : count (arrives t v) first ≡ 0
  run-starts = none-count (arrives t v) first (λ j l. other-end t v j (λ (e : to_at 16 t j ≡ v). omega (arith, before-run t up v j l)))

  pub run-goes : (i : ℕ) → first ≤ i → i < end → arrives t v i ≡ not (eqb (twin_at t i) none)
  run-goes i l m = own-end t v i (own-to i l m)

  pub run_ends : count (arrives t v) (records_in 16 t) ≡ count (arrives t v) end
  run_ends =
      count-skip (arrives t v) end (records_in 16 t) (run_inside t up (v + 1))
      (λ j a b. other-end t v j (λ (e : to_at 16 t j ≡ v). omega (arith, from-run t up (v + 1) j a b)))

  -- where no walk is alone they are the whole run
  pub run-whole : alone_in t ≡ 0 → count (arrives t v) (records_in 16 t) ≡ end - first
  unfolding alone_in
  run-whole z =
      let e : first + (end - first) ≡ end = omega (arith, run-ascends) in
      let every : count (λ j. arrives t v (first + j)) (end - first) ≡ end - first =
      all-count _ (end - first)
      (λ j l. run-goes (first + j) (omega arith) (omega arith) ∙ ap not (count_none (λ i. eqb (twin_at t i) none) (records_in 16 t) z (first + j) (omega (arith, run_inside t up (v + 1))))) in
      run_ends ∙ ap (count (arrives t v)) (sym e) ∙ omega (arith, count-append (arrives t v) first (end - first), run-starts, every)
