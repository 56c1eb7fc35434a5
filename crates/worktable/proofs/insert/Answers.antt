-- `insert`: a vacant slot first, then the entry.
use mathlib.Core.Path.{subst}
use Rattle.worktable.specs.Map.{Map, known, put}
use Rattle.worktable.specs.Table.{Gives}
use Rattle.worktable.proofs.TableLaws.{gives_then}
use Rattle.worktable.proofs.insert.Goals as goal

pub returns : goal.returns
returns c =
    let ready = c.opened-ready in
    let same = ready.ensures.0.holds.map in
    gives_then c.requires.0 ready.ensures.0
    (subst (λ (m : Map). Gives ready.result c.enter.result ready.new.b c.enter.new.b (put m c.args.u (known c.args.d 0 c.args.n))) same c.enter.ensures)
