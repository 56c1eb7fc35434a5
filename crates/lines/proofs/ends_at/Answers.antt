use native.Mathlib.Omega.{arith}
use mathlib.Core.Path.{sym}
use Rattle.lines.proofs.Steps.{ends-lf, ends-not, ends_last, ends-crlf}
use Rattle.lines.proofs.ends_at.Goals as goal

pub returns-then-b-eq10 : goal.returns-then-b-eq10
returns-then-b-eq10 c = sym (ends-lf _ _ c.requires c.if-b-eq10.true)

pub returns-then-b-ne13 : goal.returns-then-b-ne13
returns-then-b-ne13 c = sym (ends-not _ _ c.requires c.if-b-eq10.false c.if-b-ne13.true)

pub returns-then-next-text : goal.returns-then-next-text
returns-then-next-text c = sym (ends_last _ _ c.requires c.if-b-eq10.false c.if-next-text.true)

pub returns : goal.returns
returns c = sym (ends-crlf _ _ c.requires c.if-b-eq10.false c.if-b-ne13.false (omega arith))
