-- What is lent to a run. Assumes nothing.
use Rattle.std.specs.Prelude.{List, ℕ}
use Rattle.journeys.specs.Answers.{Lent}

-- by its bytes and the size of a hop
abbrev pub lent : List ℕ → List ℕ → List ℕ → ℕ → List ℕ → List ℕ → Lent
lent v w h size held settled = record { vertices = v; walks = w; hops = h; hop_size = size; held = held; settled = settled }
