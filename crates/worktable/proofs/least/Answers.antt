-- `least`: the root of the tree is the foremost entry, if any waits.
use native.Mathlib.Omega.{arith}
use Rattle.worktable.proofs.NearestLaws.{nearest-empty, nearest-at, nearest-none}
use Rattle.worktable.proofs.least.Goals as goal

pub returns-then-t-eq0 : goal.returns-then-t-eq0
returns-then-t-eq0 c =
    nearest-empty c.requires c.if-t-eq0.true

pub returns-then-w-lt9223371968135299072 : goal.returns-then-w-lt9223371968135299072
returns-then-w-lt9223371968135299072 c =
    nearest-at c.requires (omega (arith, c.if-t-eq0.false)) c.tree-s.ensures c.word-w.ensures c.if-w-lt9223371968135299072.true c.vertex_in.ensures.0 c.distance_in.ensures

pub returns : goal.returns
returns c =
    nearest-none c.requires (omega (arith, c.if-t-eq0.false)) c.tree-s.ensures c.word-w.ensures c.if-w-lt9223371968135299072.false
