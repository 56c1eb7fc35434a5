use mathlib.Core.Path.{◌∙◌}
use Prim.Native.Nat.{◌*◌}
use Rattle.table_bytes.proofs.Access.{get, word_at}
use Rattle.table_bytes.proofs.word.Goals as goal

pub returns : goal.returns
returns c =
    let a = c.args in
    c.read8.ensures ∙ get 8 a.b.now (a.i * 8) ∙ word_at a.r a.b.now a.i c.requires.1
