-- The reading of a line carried on from where it stands. Assumes nothing.
use Rattle.std.specs.Prelude.{List, ℕ, ◌+◌}
use Rattle.lines.specs.declared.Stand.{Stand}
use Rattle.lines.specs.declared.Stand.TheVariants.{Begins, Ended, Broken}
use Rattle.lines.specs.Passing.{stand}

-- by so many fields
abbrev pub onward : List ℕ → ℕ → Stand → Stand
onward s more (Begins at) = stand s more at
onward s more (Ended over) = Ended (over + more)
onward s more (Broken over) = Broken (over + more)
