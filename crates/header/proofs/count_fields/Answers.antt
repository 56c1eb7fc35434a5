use native.Mathlib.Omega.{arith}
use mathlib.Core.Path.{sym, ◌∙◌}
use Rattle.header.proofs.Names.{goes-field, count-goes, count-ends, count-breaks, count-whole}
use Rattle.header.proofs.count_fields.Goals as goal

pub loop-next-init : goal.loop-next-init
loop-next-init c = (omega arith, omega arith, (count-whole _).0, (count-whole _).1)

pub loop-next-smaller : goal.loop-next-smaller
loop-next-smaller c = let g = goes-field c.args.line.now c.loop-next.at c.loop-next.invariant.0 _ (sym c.some_fields-stand.ensures ∙ c.in-Begins.is) in omega arith

pub loop-next-preserved : goal.loop-next-preserved
loop-next-preserved c = let g = goes-field c.args.line.now c.loop-next.at c.loop-next.invariant.0 _ (sym c.some_fields-stand.ensures ∙ c.in-Begins.is) in let n = count-goes c.args.line.now c.loop-next.at c.loop-next.invariant.0 _ (sym c.some_fields-stand.ensures ∙ c.in-Begins.is) in (g.0, omega arith, omega arith, n.1 ∙ c.loop-next.invariant.3)

pub returns-in-Ended : goal.returns-in-Ended
returns-in-Ended c = let n = count-ends c.args.line.now c.loop-next.at c.loop-next.invariant.0 _ (sym c.some_fields-stand.ensures ∙ c.in-Ended.is) in record { many = omega arith; sound = sym n.1 ∙ c.loop-next.invariant.3; few = omega arith }

pub returns-in-Broken : goal.returns-in-Broken
returns-in-Broken c = let n = count-breaks c.args.line.now c.loop-next.at c.loop-next.invariant.0 _ (sym c.some_fields-stand.ensures ∙ c.in-Broken.is) in record { many = omega arith; sound = sym n.1 ∙ c.loop-next.invariant.3; few = omega arith }
