-- `finish`: packed, sorted, zero behind the place of the records, and the words spread to records.
use native.Mathlib.Omega.{arith}
use mathlib.Core.Path.{◌∙◌}
use Rattle.table_bytes.specs.Columns.{cols, at}
use Rattle.worktable.proofs.WordLaws.{vertex-low}
use Rattle.worktable.proofs.TableLaws.{order-single}
use Rattle.worktable.proofs.FinishLaws.{lists, finish-count, finish-filled}
use Rattle.worktable.proofs.finish.Goals as goal

pub sort-requires : goal.sort-requires
sort-requires c = (
  c.pack-k.auto.b ∙ c.requires.slotted.len,
  omega arith,
  omega (arith, c.pack-k.ensures.le, c.requires.slotted.fits),
  omega arith,
  λ i a l. (omega arith, vertex-low (at (cols c.args.t.slots c.pack-k.new.b).w i)),
)

pub returns : goal.returns
returns c =
    let v = lists (order-single c.requires) c.pack-k.ensures c.sort.ensures in (
      finish-count c.requires v,
      c.spread.ensures ∙ finish-filled c.requires c.sort.new.b c.zero.new.out v (c.sort.auto.b ∙ c.pack-k.auto.b)
          (omega (arith, c.pack-k.ensures.le, c.requires.slotted.fits)) c.zero.ensures,
    )
