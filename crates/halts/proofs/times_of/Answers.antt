use Rattle.std.specs.Prelude.{Bool, ◌||◌}
use Rattle.std.proofs.Common.{ap, ap₂, ◌∙◌}
use Rattle.std.specs.Option.{is_some, option_or, unwrap_or}
use Rattle.halts.proofs.Readings.{timed-told, either_is}
use Rattle.halts.proofs.times_of.Goals as goal

pub returns : goal.returns
returns c =
    let p = c.moment_in-first.ensures in
    let q = c.moment_in-second.ensures in (
      ap₂ (λ (x y : Bool). x || y) (c.is_some.ensures ∙ ap is_some p) (c.is_some-2.ensures ∙ ap is_some q) ∙ timed-told _ _ _,
      c.unwrap_or.ensures ∙ ap (λ o. unwrap_or o 0) (c.or.ensures ∙ ap₂ option_or p q) ∙ either_is _ _,
      c.unwrap_or-2.ensures ∙ ap (λ o. unwrap_or o 0) (c.or-2.ensures ∙ ap₂ option_or q p) ∙ either_is _ _,
    )
