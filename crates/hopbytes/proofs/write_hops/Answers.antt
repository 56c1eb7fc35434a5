-- `write_hops`: each record is read before it is written over.
use mathlib.Core.Path.{sym, subst}
use Prim.Native.Nat.{◌-◌}
use native.Mathlib.Omega.{arith}
use Rattle.table_bytes.proofs.Access.{col-length}
use Rattle.hopbytes.specs.Listing.{OnTrip}
use Rattle.hopbytes.proofs.OutLaws.{writing_start, still, writing-on, writing-end}
use Rattle.hopbytes.proofs.write_hops.Goals as goal

pub loop-i-init : goal.loop-i-init
loop-i-init c = writing_start _ _ _ c.requires.0

pub write_out-requires : goal.write_out-requires
write_out-requires c =
    let h = c.loop-i-test.true in
    (c.loop-i.invariant.size, h, subst (OnTrip c.args.trips.now) (sym (still _ _ _ c.requires.0 c.loop-i.invariant h)) (c.requires.1 c.loop-i.i (omega (arith, h, col-length 20 c.args.n c.args.b.now 0))))

pub loop-i-preserved : goal.loop-i-preserved
loop-i-preserved c = writing-on _ _ _ c.requires.0 c.loop-i.invariant c.loop-i-test.true c.write_out.auto.b c.write_out.ensures

pub returns : goal.returns
returns c = writing-end _ _ _ c.requires.0 c.loop-i.invariant (omega arith)
