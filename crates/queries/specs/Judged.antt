-- Refusals 1 to 6 of a run: what is refused whatever is asked. Assumes nothing.
use Rattle.std.specs.Prelude.{[], ◌∷◌}
use Rattle.journeys.specs.Refusals.{Refusal, chain, table_lengths, buffer_lengths, contents}
use Rattle.journeys.specs.Answers.{Lent, tables}

unfoldable pub judged : Lent → Refusal
judged b = chain (table_lengths b.hop_size b.vertices b.walks b.hops ∷ buffer_lengths b.held b.settled ∷ contents (tables b) ∷ [])
