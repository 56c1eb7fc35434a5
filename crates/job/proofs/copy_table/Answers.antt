-- `job::copy_table` meets its contract. The invariant: the first j bodies stand at the front of the buffer. Assumes nothing.
use native.Mathlib.Omega.{arith}
use mathlib.Core.Path.{refl, sym, ap, ◌∙◌}
use Prim.Native.Nat.{◌+◌}
use native.Mathlib.Nat.{mul-zero}
use lib.ListN.{length}
use Rattle.copying.proofs.Copied.{nothing, one-fits}
use Rattle.job.proofs.Bodies.{length-body, body-lent, no-bodies, times_more, one_more}
use Rattle.job.proofs.copy_table.Goals as goal

pub loop-j-init : goal.loop-j-init
loop-j-init c =
    let a = c.args in
    (omega arith, refl, sym (mul-zero a.size), rw (no-bodies a.s.now a.size a.from) (nothing a.out.now 0))

pub loop-j-preserved : goal.loop-j-preserved
loop-j-preserved c =
    let L = c.loop-j in
    let a = c.args in
    let s = a.s.now in
    let p = c.put-at in
    let long = ap length (body-lent s a.size (a.from + L.j)) ∙ length-body s a.size (a.from + L.j) (omega arith) in
    let room = one-fits a.size L.j a.count (length a.out.now) (omega arith) (omega arith) in (
      omega arith,
      p.auto.out ∙ L.invariant.1,
      times_more a.size L.j L.at p.result _ L.invariant.2 long p.ensures.next,
      one_more s a.size a.from L.j (omega arith) L.invariant.3 p.ensures,
    )
