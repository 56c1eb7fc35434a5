-- `improving::lower` meets its contract. Assumes nothing.
use Rattle.improving.proofs.Betters.{lower-asks, lower-better}
use Rattle.improving.proofs.lower.Goals as goal

pub insert-requires : goal.insert-requires
insert-requires c = lower-asks c.requires c.drop-gone.ensures

pub returns : goal.returns
returns c =
    lower-better c.requires c.drop-gone.ensures c.insert.ensures
