use Rattle.std.proofs.Common.{◌≡◌, ◌+◌, length}
use Rattle.quick.specs.Claims.{claim_of}
use Rattle.quick.specs.Lists.{Claimed}
use Rattle.quick.proofs.lay_claims.Given as goal

abbrev pub invariant-loop-groups : goal.invariant-loop-groups
invariant-loop-groups l =
    (length l.scratch ≡ 2048) × Claimed (λ k. claim_of l.pairs l.vertices l.walks l.limit (l.base + k)) l.groups l.words l.scratch
