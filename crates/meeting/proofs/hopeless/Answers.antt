-- `meeting::hopeless` meets its contract: one record at most, told in two ways. Assumes nothing.
use mathlib.Core.Path.{ap}
use mathlib.Core.Bool.{Bool, ◌&&◌}
use lib.Dec.{ltb}
use Rattle.worktable.specs.Map.{spent}
use Rattle.meeting.proofs.Entries.{few-is}
use Rattle.meeting.proofs.hopeless.Goals as goal

pub returns : goal.returns
unfolding spent
returns c = let a = c.args in ap (λ (t : Bool). t && ltb a.allowed.0 a.offer.0) (few-is a.due)
