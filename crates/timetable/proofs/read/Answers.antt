use mathlib.Core.Path.{refl, sym, ◌∙◌}
use borrow.Author.Tests.{not-true}
use Rattle.timetable.specs.Lent.{feed_of}
use Rattle.timetable.proofs.FaultLaws.{target-refused}
use Rattle.timetable.proofs.read.Goals as goal

pub returns-then-not-table_ok : goal.returns-then-not-table_ok
returns-then-not-table_ok c =
    target-refused (feed_of c.args.text.now c.args.stops.now c.args.trips.now c.args.target.now) _ (sym c.table_ok.ensures ∙ not-true _ c.if-not-table_ok.true-raw) refl refl
