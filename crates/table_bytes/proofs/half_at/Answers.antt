-- `half_at`: two bytes of the buffer are a number of the column.
use mathlib.Core.Path.{sym, ◌∙◌}
use Prim.Native.Nat.{◌+◌, ◌*◌}
use Rattle.table_bytes.proofs.Access.{get, col-get}
use Rattle.table_bytes.proofs.half_at.Goals as goal

pub returns : goal.returns
returns c =
    let a = c.args in
    c.read2.ensures ∙ get 2 a.b.now (a.o + a.i * 2) ∙ sym (col-get 2 a.n a.b.now a.o a.i c.requires.1)
