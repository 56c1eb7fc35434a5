-- `first`: the head of a bucket is its first slot if it is a slot in the bucket at all.
use native.Mathlib.Omega.{arith}
use Rattle.table_bytes.proofs.Access.{sized}
use Rattle.table_tree.proofs.first.Goals as goal

pub head-s-requires : goal.head-s-requires
head-s-requires c =
    (c.requires.0.len, omega (arith, c.requires.1.mask, c.requires.2, (sized c.args.r c.args.b.now).h))
