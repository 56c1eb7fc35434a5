-- `patients::patients_fault` meets its contract: the counts before v are good. Assumes nothing.
use mathlib.Core.Path.{◌≡◌, sym, ap, ◌∙◌}
use mathlib.Core.Bool.{true}
use Prim.Native.Nat.{ℕ}
use native.Mathlib.Omega.{arith}
use lib.Dec.{leb}
use borrow.Author.Tests.{le-leb, lt-leb}
use Rattle.journeys.proofs.Counting.{below_suc}
use Rattle.lists.proofs.Entries.{first-refused, none-refused}
use Rattle.evening.specs.Asked.{patients_ok}
use Rattle.evening.proofs.patients_fault.Goals as goal

pub returns-then-patients_of-gt65535 : goal.returns-then-patients_of-gt65535
unfolding patients_ok
returns-then-patients_of-gt65535 c =
    let L = c.loop-v in
    let t = c.args.patients.now in
    c.refused.ensures.told
    ∙ first-refused 19 (omega arith) (patients_ok t) c.args.n L.v (record { within = L.invariant.0; before = L.invariant.1; fails = λ _. sym (ap (λ (x : ℕ). leb x 65535) c.patients_of.ensures) ∙ lt-leb _ 65535 c.if-patients_of-gt65535.true }) c.loop-v-test.true

pub loop-v-preserved : goal.loop-v-preserved
unfolding patients_ok
loop-v-preserved c =
    let L = c.loop-v in
    let t = c.args.patients.now in
    let good = sym (ap (λ (x : ℕ). leb x 65535) c.patients_of.ensures) ∙ le-leb _ 65535 c.if-patients_of-gt65535.false in
    (omega arith, λ k h. below_suc {P = λ k. patients_ok t k ≡ true} L.v L.invariant.1 good k (omega arith))

pub returns : goal.returns
returns c =
    let L = c.loop-v in
    let t = c.args.patients.now in
    none-refused 19 (omega arith) (patients_ok t) c.args.n L.v (record { within = L.invariant.0; before = L.invariant.1; fails = λ h. absurd (omega (arith, c.loop-v-test.false)) }) c.loop-v-test.false
