use Rattle.std.proofs.Common.{◌≡◌, ◌+◌, ◌≤◌, length}
use Rattle.tally.specs.Laid.{Same}
use Rattle.quick.specs.Claims.{claim_of}
use Rattle.quick.specs.Lists.{Claims}
use Rattle.quick.proofs.claims.Given as goal

abbrev pub invariant-loop-j : goal.invariant-loop-j
invariant-loop-j l =
    (l.j ≤ 64) × (length l.scratch ≡ 2048) × Claims (λ k. claim_of l.pairs l.vertices l.walks l.limit (l.v + k)) l.j l.scratch × Same 0 1984 l.initial.scratch l.scratch
