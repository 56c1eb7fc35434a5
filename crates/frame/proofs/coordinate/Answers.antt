-- `frame::coordinate` meets its contract: the bits are no NaN's. Assumes nothing.
use Rattle.frame.proofs.Stored.{no-nan-bits}
use Rattle.frame.proofs.coordinate.Goals as goal

pub float_from_bits-result : goal.float_from_bits-result
float_from_bits-result c = no-nan-bits c.args.bits c.requires
