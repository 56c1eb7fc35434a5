-- `look`: the word tells whether the entry is spent.
use mathlib.Core.Path.{sym}
use Rattle.worktable.specs.Table.{PassedIs}
use Rattle.worktable.proofs.TableLaws.{found-place, found-absent, place-low, place-entry}
use Rattle.worktable.proofs.PassLaws.{told_is}
use Rattle.worktable.proofs.look.Goals as goal

pub returns-in_default : goal.returns-in_default
unfolding PassedIs
returns-in_default c =
    found-absent c.args.t c.args.b.now c.args.u c.find.ensures c.in_default.is

pub word-w-requires : goal.word-w-requires
word-w-requires c =
    (c.requires.0.slotted.len, place-low c.requires.0 (found-place c.find.ensures c.in-Some.is))

pub returns : goal.returns
returns c =
    let v = c.word-w in
    let p = found-place c.find.ensures c.in-Some.is in
    told_is c.args.allowed v.result p (sym (place-entry c.requires.0 p v.ensures)) c.told.ensures
