-- What is asked of a stop beside one or two others. Assumes nothing.
use Rattle.std.specs.Prelude.{Bool, cond, ◌&&◌, List, ℕ, eqb, ltb}
use Rattle.feed.specs.Stops.{Stop}
use Rattle.feed.specs.Trips.{once, in_time}
use Rattle.reread.specs.Read.{stop_is}
use Rattle.pairwise.specs.declared.Question.{Question}
use Rattle.pairwise.specs.declared.Question.TheVariants as question

-- two stops of one trip, the first of them the earlier
unfoldable pub sooner : Stop → Stop → Bool
sooner p i = eqb p.trip i.trip && ltb p.sequence i.sequence

-- timed and between two stops; before a stop; behind it; at its sequence in its trip
unfoldable pub asked : Question → Stop → Bool
asked (question.Between a b) k = k.timed && sooner (stop_is a) k && sooner k (stop_is b)
asked (question.Before a) k = sooner k (stop_is a)
asked (question.Behind a) k = sooner (stop_is a) k
asked (question.Beside a) k = eqb k.trip a.trip && eqb k.sequence a.sequence

-- what 15 asks, and what 16 asks
unfoldable pub good_by : ℕ → List Stop → ℕ → Bool
good_by number S i = cond (eqb number 15) (once S i) (in_time S i)
