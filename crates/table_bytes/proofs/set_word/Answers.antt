use borrow.Author.Rules.{rules}
use mathlib.Core.Path.{ap, ◌∙◌}
use Prim.Native.Nat.{◌*◌}
use Rattle.table_bytes.specs.Columns.{cols}
use Rattle.table_bytes.proofs.Access.{put_back, word_set}
use Rattle.table_bytes.proofs.set_word.Goals as goal

pub returns : goal.returns
returns c =
    ap (cols c.args.r) (put_back 8 c.args.b.now c.write8.new.p (c.args.i * 8) c.args.x c.write8.ensures)
    ∙ word_set c.args.r c.args.b.now c.args.i c.args.x c.requires.0 c.requires.1 (search rules)
