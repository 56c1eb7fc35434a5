-- The timetable of a call. Assumes nothing.
use Rattle.std.specs.Prelude.{List, ℕ}
use Rattle.feed.specs.Answers.{Feed}

abbrev pub lent : List ℕ → List ℕ → List ℕ → List ℕ → Feed
lent text stops trips target = record { stop_times = text; stops = stops; trips = trips; target = target }
