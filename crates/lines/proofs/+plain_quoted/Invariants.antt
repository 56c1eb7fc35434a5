use Rattle.std.proofs.Common.{◌-◌, length}
use Rattle.lines.proofs.+plain_quoted.Given as goal

abbrev pub decreases-plain : goal.decreases-plain
decreases-plain l = length l.line.now - l.at

abbrev pub decreases-quoted : goal.decreases-quoted
decreases-quoted l = length l.line.now - l.at
