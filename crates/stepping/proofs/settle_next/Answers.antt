-- `stepping::settle_next` meets its contract: a vertex that is spent once it is settled is dropped. Assumes nothing.
use mathlib.Core.Path.{sym, ◌∙◌}
use Rattle.stepping.proofs.SettledEntry.{still-there, settled-gone, settled-stays}
use Rattle.stepping.proofs.settle_next.Goals as goal

pub drop-requires : goal.drop-requires
drop-requires c = still-there _ _ _ _ c.settle_at.ensures.0 _ c.requires.1

pub returns-then-settle_at : goal.returns-then-settle_at
returns-then-settle_at c = settled-gone _ _ _ _ c.settle_at.ensures.0 _ _ (sym c.settle_at.ensures.1 ∙ c.if-settle_at.true) c.drop.ensures

pub returns : goal.returns
returns c = settled-stays _ _ _ _ c.settle_at.ensures.0 (sym c.settle_at.ensures.1 ∙ c.if-settle_at.false)
