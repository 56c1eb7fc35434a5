-- `patients::all_patients` meets its contract: the sum of those before v. Assumes nothing.
use mathlib.Core.Path.{refl, sym, ap₂, ◌∙◌}
use Prim.Native.Nat.{ℕ, ◌+◌}
use native.Mathlib.Omega.{arith}
use Rattle.evening.specs.Patients.{sum, patients_of}
use Rattle.evening.proofs.Sums.{sum-most, sum-next}
use Rattle.evening.proofs.all_patients.Goals as goal

pub loop-v-init : goal.loop-v-init
unfolding sum
loop-v-init c = (omega arith, refl)

pub overflow_add-sum : goal.overflow_add-sum
overflow_add-sum c =
    let L = c.loop-v in
    omega (arith, L.invariant.1, sum-most (patients_of c.args.patients.now) L.v (λ i l. c.requires.2 i (omega arith)), c.patients_of-sum.ensures, c.requires.2 L.v c.loop-v-test.true)

pub loop-v-preserved : goal.loop-v-preserved
loop-v-preserved c =
    let L = c.loop-v in
    (omega arith, ap₂ (λ (x y : ℕ). x + y) L.invariant.1 c.patients_of-sum.ensures ∙ sym (sum-next (patients_of c.args.patients.now) L.v))
