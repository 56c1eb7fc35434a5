-- `grow`: vacant slots behind the old ones, and a tree over all of them.
use mathlib.Core.Path.{refl, ◌∙◌}
use Rattle.worktable.proofs.GrowLaws.{gives-grown}
use Rattle.worktable.proofs.grow.Goals as goal

pub returns : goal.returns
returns c =
    let spared = c.spare in
    let planted = c.plant in
    let built = c.build in
    (gives-grown built.new.b c.requires.0 c.requires.1 c.requires.2 c.requires.3 spared.ensures planted.ensures.0 built.ensures.0 built.ensures.1 (built.auto.b ∙ planted.auto.b ∙ spared.auto.b), refl)
