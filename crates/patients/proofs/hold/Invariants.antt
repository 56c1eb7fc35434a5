use mathlib.Core.Path.{◌≡◌}
use Prim.Native.Nat.{◌≤◌}
use lib.ListN.{length, replicate}
use Rattle.records.specs.Asked.{query_of}
use Rattle.patients.proofs.Evenings.{Ongoing}
use Rattle.patients.proofs.hold.Given as goal

abbrev pub invariant-loop-j : goal.invariant-loop-j
invariant-loop-j l =
    (l.j ≤ l.arrivals) × (length l.held ≡ length l.initial.held) × (length l.settled ≡ length l.initial.settled) × (length l.report ≡ length l.initial.report) × (l.scratch ≡ replicate 2048 0) × (l.a.parts ≡ 0)
    × Ongoing l.vertices l.walks l.hops l.hop_size l.initial.held l.initial.settled (query_of l.q) l.gap l.arrivals l.patients l.j l.a l.held l.settled l.report
