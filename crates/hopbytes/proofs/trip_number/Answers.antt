-- `trip_number`: the line that begins at the place ends where it does.
use mathlib.Core.Path.{◌≡◌, subst}
use mathlib.Core.Bool.{true}
use mathlib.Core.List.{List}
use Prim.Native.Nat.{ℕ}
use Rattle.journeys.specs.Counting.{none}
use Rattle.feed.specs.Ids.{list_line}
use Rattle.lines.proofs.Passes.{stop-within}
use Rattle.hopbytes.proofs.OutLaws.{line-from, number-from}
use Rattle.hopbytes.proofs.trip_number.Goals as goal

pub slice_bounds-number_on-end : goal.slice_bounds-number_on-end
slice_bounds-number_on-end c = (stop-within _ _ _ 0 c.requires.0 c.line_stop-stop.ensures).1

pub number_on-requires : goal.number_on-requires
number_on-requires c =
    subst (λ (l : List ℕ). list_line none l ≡ true) (line-from _ _ _ c.requires.0 c.line_stop-stop.ensures) c.requires.1

pub returns : goal.returns
returns c = number-from _ _ _ c.requires.0 c.line_stop-stop.ensures c.number_on.ensures
