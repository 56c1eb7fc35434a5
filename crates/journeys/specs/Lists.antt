-- A list of records whose first word names a vertex and whose second is a distance: which entry is bad first. Assumes nothing.
use Rattle.std.specs.Prelude.{Bool, false, not, ◌&&◌, ◌||◌, List, [], ◌∷◌, ℕ, zero, suc, ◌+◌, ◌*◌, ◌/◌, eqb, leb, ltb, length}
use Rattle.journeys.specs.Counting.{none, joined}
use Rattle.journeys.specs.Bytes.{be32}
use Rattle.journeys.specs.Order.{Settled, settled}
use Rattle.journeys.specs.Refusals.{Refusal, first_bad}

-- the greatest distance that is allowed; where it is FFFFFFFF, distances are not looked at
unfoldable pub allows : ℕ → ℕ → Bool
allows most distance = eqb most none || leb distance most

-- records of this size
module _ (size : ℕ) (list : List ℕ) where
  abbrev pub entries : ℕ
  entries = length list / size

  abbrev pub vertex_in : ℕ → ℕ
  vertex_in i = be32 list (size * i)

  abbrev pub distance_at : ℕ → ℕ
  distance_at i = be32 list (size * i + 4)

  -- one of the first n entries names u
  unfoldable pub named : ℕ → ℕ → Bool
  named zero u = false
  named (suc n) u = named n u || eqb (vertex_in n) u

-- the vertex exists, the distance is allowed, and no earlier entry has that vertex
unfoldable pub entry_ok : ℕ → ℕ → ℕ → List ℕ → ℕ → Bool
entry_ok size vertices most list i =
    ltb (vertex_in size list i) vertices && allows most (distance_at size list i) && not (named size list i (vertex_in size list i))

-- refusal 21: the first entry that is not good
unfoldable pub list_refusal : ℕ → ℕ → ℕ → List ℕ → Refusal
list_refusal size vertices most list = first_bad 21 (entry_ok size vertices most list) (entries size list)

-- the entries of a settled list
unfoldable pub settled_in : List ℕ → List Settled
settled_in list = joined (λ i. settled (vertex_in 8 list i) (distance_at 8 list i) ∷ []) (entries 8 list)
