-- `departing::clear` meets its contract: nothing stands behind the 2,048 numbers. Assumes nothing.
use mathlib.Core.Path.{ap, ◌∙◌}
use mathlib.Core.List.{◌++◌, append-nil}
use lib.ListN.{replicate, drop_of_length-le}
use native.Mathlib.Omega.{arith}
use Rattle.departing.proofs.clear.Goals as goal

pub returns : goal.returns
returns c =
    c.zero.ensures ∙ ap (λ l. replicate 2048 0 ++ l) (drop_of_length-le c.args.scratch.now {i = 2048} (omega arith)) ∙ append-nil (replicate 2048 0)
