-- `stepping::stretch_at` meets its contract: the list is searched for the courier only. Assumes nothing.
use Rattle.listing.proofs.Laying.{sums-few}
use Rattle.stepping.proofs.NextEntry.{stretch-found, no-stretch}
use Rattle.stepping.proofs.stretch_at.Goals as goal

pub guess-guess-requires : goal.guess-guess-requires
guess-guess-requires c =
    let p = c.requires in
    (p.2, p.1.small, sums-few p.1)

pub returns-then-courier : goal.returns-then-courier
returns-then-courier c = stretch-found _ _ _ _ c.if-courier.true c.find.ensures

pub returns : goal.returns
returns c = no-stretch _ _ _ _ c.if-courier.false
