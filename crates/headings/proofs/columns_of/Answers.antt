use mathlib.Core.Path.{refl}
use Rattle.lines.specs.Spans.{quotes}
use Rattle.headings.proofs.columns_of.Goals as goal

pub column_of-requires : goal.column_of-requires
unfolding quotes
column_of-requires c = refl

pub column_of-requires-2 : goal.column_of-requires-2
unfolding quotes
column_of-requires-2 c = refl

pub column_of-requires-3 : goal.column_of-requires-3
unfolding quotes
column_of-requires-3 c = refl

pub column_of-requires-4 : goal.column_of-requires-4
unfolding quotes
column_of-requires-4 c = refl

pub column_of-requires-5 : goal.column_of-requires-5
unfolding quotes
column_of-requires-5 c = refl
