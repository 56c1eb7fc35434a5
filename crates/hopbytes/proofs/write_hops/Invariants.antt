use Prim.Native.Nat.{◌-◌}
use Rattle.hopbytes.proofs.OutLaws.{Writing}
use Rattle.hopbytes.proofs.write_hops.Given as goal

abbrev pub invariant-loop-i : goal.invariant-loop-i
invariant-loop-i l = Writing l.trips l.initial.b l.n l.b l.i
