-- `tally::power` meets its contract: a nibble has four bits. Assumes nothing.
use Rattle.tally.proofs.Digits.{shifted, power-some}
use Rattle.tally.proofs.power.Goals as goal

pub returns : goal.returns
returns c =
    let e = shifted c.args.r c.requires in
    (e, rw e (power-some c.args.r))
