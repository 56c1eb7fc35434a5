use mathlib.Core.Path.{sym}
use Rattle.values.proofs.Times.{time-long}
use Rattle.values.proofs.read_time.Goals as goal

pub returns : goal.returns
returns c = sym (time-long _ c.if-n-eq7.false c.if-n-eq8.false)
