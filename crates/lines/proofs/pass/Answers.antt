use native.Mathlib.Omega.{arith}
use mathlib.Core.Path.{sym, ◌∙◌}
use Rattle.lines.proofs.Stands.{all-passed}
use Rattle.lines.proofs.Passing.{goes_on, ends-here, breaks-here}
use Rattle.lines.proofs.pass.Goals as goal

pub loop-left-preserved : goal.loop-left-preserved
loop-left-preserved c = let on = goes_on c.args.line.now c.at_once-most.result c.loop-left.left c.loop-left.at (omega arith) (omega arith) _ (sym c.some_fields-stand.ensures ∙ c.in-Begins.is) in (on.0, omega arith, on.1 ∙ c.loop-left.invariant.2)

pub overflow_add-result : goal.overflow_add-result
overflow_add-result c = omega (arith, ends-here c.args.line.now c.at_once-most.result c.loop-left.left c.loop-left.at (omega arith) (omega arith) _ (sym c.some_fields-stand.ensures ∙ c.in-Ended.is))

pub returns-in-Ended : goal.returns-in-Ended
returns-in-Ended c = sym (ends-here c.args.line.now c.at_once-most.result c.loop-left.left c.loop-left.at (omega arith) (omega arith) _ (sym c.some_fields-stand.ensures ∙ c.in-Ended.is)).1 ∙ c.loop-left.invariant.2

pub overflow_add-result-in-Broken : goal.overflow_add-result-in-Broken
overflow_add-result-in-Broken c = omega (arith, breaks-here c.args.line.now c.at_once-most.result c.loop-left.left c.loop-left.at (omega arith) (omega arith) _ (sym c.some_fields-stand.ensures ∙ c.in-Broken.is))

pub returns-in-Broken : goal.returns-in-Broken
returns-in-Broken c = sym (breaks-here c.args.line.now c.at_once-most.result c.loop-left.left c.loop-left.at (omega arith) (omega arith) _ (sym c.some_fields-stand.ensures ∙ c.in-Broken.is)).1 ∙ c.loop-left.invariant.2

pub returns : goal.returns
returns c = sym (all-passed _ _ _ c.loop-left-test.false) ∙ c.loop-left.invariant.2
