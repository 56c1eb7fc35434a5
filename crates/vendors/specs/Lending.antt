-- What is lent to the judge of bought lists, in the terms of the definitions. Assumes nothing.
use Rattle.std.specs.Prelude.{List, ℕ}
use Rattle.journeys.specs.VendorLists.{JudgeLent}

abbrev pub judge_lent : List ℕ → List ℕ → List ℕ → ℕ → List ℕ → JudgeLent
judge_lent v w h size list = record { vertices = v; walks = w; hops = h; hop_size = size; list = list }
