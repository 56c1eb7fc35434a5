-- `patients::tally` meets its contract: the entries before i are tallied. Assumes nothing.
use mathlib.Core.Path.{◌≡◌, refl, sym, ap, ap₂, ◌∙◌}
use Prim.Native.Nat.{ℕ, ◌+◌}
use native.Mathlib.Omega.{arith}
use Rattle.journeys.specs.Lists.{vertex_in}
use Rattle.evening.specs.Patients.{sum, patients_of}
use Rattle.evening.specs.Tallied.{tallied, listed_patients}
use Rattle.evening.proofs.Sums.{sum-most, sum-next}
use Rattle.evening.proofs.Tallying.{tally-turn}
use Rattle.evening.proofs.tally.Goals as goal
use Rattle.evening.proofs.tally.Goals.{After-patients_of-sum}

-- the patients of this entry
counted : (c : After-patients_of-sum) → c.patients_of-sum.result ≡ patients_of c.args.patients.now (vertex_in 8 c.args.list.now c.loop-i.i)
counted c = c.patients_of-sum.ensures ∙ ap (λ (x : ℕ). patients_of c.args.patients.now x) c.word_at-v.ensures

pub loop-i-init : goal.loop-i-init
unfolding tallied listed_patients sum
loop-i-init c = (omega arith, refl, refl, refl)

pub overflow_add-sum : goal.overflow_add-sum
unfolding listed_patients
overflow_add-sum c =
    let L = c.loop-i in
    let below = c.loop-i-test.true in
    let most = sum-most (λ k. patients_of c.args.patients.now (vertex_in 8 c.args.list.now k)) L.i (λ k l. (c.requires.list_len_bound.1 k (omega arith)).2) in
    record { fits = omega (arith, L.invariant.3, most, counted (goal.at.overflow_add-sum c).After-patients_of-sum, (c.requires.list_len_bound.1 L.i below).2, c.requires.list_len_bound.0, below) }

pub loop-i-preserved : goal.loop-i-preserved
unfolding listed_patients
loop-i-preserved c =
    let L = c.loop-i in (
      omega arith,
      tally-turn c.args.report.now c.args.list.now L.report L.i _ _ _ L.invariant.1 c.word_at-v.ensures c.word_at-times.ensures c.put_word.ensures,
      c.report-1.given ∙ L.invariant.2,
      ap₂ (λ (x y : ℕ). x + y) L.invariant.3 (counted (goal.at.loop-i-preserved c).After-patients_of-sum) ∙ sym (sum-next (λ k. patients_of c.args.patients.now (vertex_in 8 c.args.list.now k)) L.i),
    )
