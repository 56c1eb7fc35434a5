-- `quick::arriving_pairs` meets its contract: the whole run where no walk is alone, the counted one otherwise. Assumes nothing.
use Rattle.std.proofs.Common.{sym, ◌∙◌, arith}
use Rattle.quick.specs.Claims.{arriving}
use Rattle.quick.proofs.Run.{run-ascends, run-whole}
use Rattle.quick.proofs.arriving_pairs.Goals as goal

pub returns-then-not-pairs : goal.returns-then-not-pairs
unfolding arriving
returns-then-not-pairs c = simp c.if-not-pairs.true

pub overflow_sub-result : goal.overflow_sub-result
overflow_sub-result c =
    omega (arith, c.end_arriving-end.ensures, c.first_arriving-first.ensures, c.requires.v_in_bounds.1.0, c.requires.v_in_bounds.1.1, run-ascends c.args.walks.now c.requires.ascending.0 c.args.v)

pub returns-then-alone-eq0 : goal.returns-then-alone-eq0
unfolding arriving
returns-then-alone-eq0 c =
    rw (c.if-not-pairs.false, c.end_arriving-end.ensures, c.first_arriving-first.ensures, c.requires.v_in_bounds.1.0, c.requires.v_in_bounds.1.1)
    (sym (run-whole c.args.walks.now c.requires.ascending.0 c.args.v (sym c.requires.ascending.1 ∙ c.if-alone-eq0.true)))
