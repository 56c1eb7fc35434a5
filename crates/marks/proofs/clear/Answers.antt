-- `marks::clear` meets its contract: as many zeros as there are words. Assumes nothing.
use Rattle.std.proofs.Common.{ℕ, replicate, rules, ap, ◌∙◌}
use Rattle.marks.proofs.clear.Goals as goal

pub returns : goal.returns
returns c = c.fill.ensures.after (λ y e. search rules) ∙ ap (λ (k : ℕ). replicate k 0) c.requires
