use Rattle.std.proofs.Common.{◌-◌, ◌+◌, arith, refl}
use lib.ListN.{length}
use Rattle.idtable.proofs.TableLaws.{way-as, way-from, ended-free, ended-has, ended-over, further}
use Rattle.idtable.proofs.probe.Goals as goal

pub loop-turn-init : goal.loop-turn-init
loop-turn-init c = (c.first_slot-k.ensures.1, way-as (length c.args.table.now - 0) (omega arith) (way-from c.first_slot-k.ensures.0))

pub returns-then-x-eq0 : goal.returns-then-x-eq0
returns-then-x-eq0 c =
    let i = c.loop-turn.invariant in
    ended-free i.1 (omega arith) refl i.0 c.if-x-eq0.true

pub returns-then-names_at : goal.returns-then-names_at
returns-then-names_at c =
    let i = c.loop-turn.invariant in
    ended-has i.1 (omega arith) refl c.if-x-eq0.false c.names_at.ensures c.if-names_at.true

pub loop-turn-preserved : goal.loop-turn-preserved
loop-turn-preserved c =
    let i = c.loop-turn.invariant in (
      c.next_slot-k.ensures.1,
      way-as (length c.args.table.now - (c.loop-turn._turn + 1)) (omega arith)
          (further i.1 (omega arith) refl c.if-x-eq0.false c.names_at.ensures c.if-names_at.false c.next_slot-k.ensures.0),
    )

pub returns : goal.returns
returns c = ended-over c.loop-turn.invariant.1 (omega (arith, c.loop-turn-test.false))
