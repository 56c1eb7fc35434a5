use native.Mathlib.Omega.{arith}
use Rattle.idtable.proofs.TableLaws.{next_last, next-on}
use Rattle.idtable.proofs.next_slot.Goals as goal

pub returns-then-next-n : goal.returns-then-next-n
returns-then-next-n c = let a = c.args in (next_last a.n a.k c.if-next-n.true, omega (arith, c.requires))

pub returns : goal.returns
returns c = let a = c.args in (next-on a.n a.k c.if-next-n.false, omega (arith, c.requires, c.if-next-n.false))
