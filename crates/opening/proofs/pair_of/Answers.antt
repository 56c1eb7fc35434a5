-- `opening::pair_of` meets its contract in either direction. Assumes nothing.
use Rattle.opening.proofs.OpenEnds.{courier-pair, ordinary-pair}
use Rattle.opening.proofs.pair_of.Goals as goal

pub returns-then-courier : goal.returns-then-courier
returns-then-courier c =
    courier-pair _ _ _ c.walk_at-w.ensures _ c.if-courier.true _ _ _ _ c.sent_ticks.ensures c.sent_ticks-then-courier.ensures c.from_is_seed.ensures c.then_some.ensures

pub returns : goal.returns
returns c =
    ordinary-pair _ _ _ c.walk_at-w.ensures _ c.if-courier.false _ _ _ _ c.from_ticks.ensures c.to_ticks.ensures c.to_is_seed.ensures c.then_some-2.ensures
