use Rattle.std.proofs.Common.{◌∙◌}
use Rattle.header.proofs.Names.{same-bytes}
use Rattle.header.proofs.same_bytes.Goals as goal

pub returns : goal.returns
returns c = c.eq.ensures ∙ same-bytes _ _
