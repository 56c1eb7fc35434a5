use mathlib.Core.Path.{◌≡◌}
use Prim.Native.Nat.{◌+◌, ◌-◌, ◌*◌, ◌≤◌}
use lib.ListN.{length, replicate}
use Rattle.queries.proofs.Turn.{Ongoing}
use Rattle.queries.proofs.answer_each.Given as goal

abbrev pub invariant-loop-i : goal.invariant-loop-i
invariant-loop-i l =
    (l.i ≤ l.n) × (l.at + l.share * (l.n - l.i) ≤ length l.settled) × (length l.held ≡ length l.initial.held) × (length l.settled ≡ length l.initial.settled) × (length l.answers ≡ length l.initial.answers) × (l.scratch ≡ replicate 2048 0)
    × Ongoing l.vertices l.walks l.hops l.hop_size l.share l.queries l.n l.initial.held l.initial.settled l.i l.at l.held l.settled l.answers
