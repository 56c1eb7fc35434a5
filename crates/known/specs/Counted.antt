-- Lines with as many fields as line 1, and an id in one of them. Assumes nothing.
use Rattle.std.specs.Prelude.{Bool, ◌&&◌, List, ℕ, eqb, length}
use Rattle.feed.specs.Fields.{row_of, field}
use Rattle.feed.specs.Ids.{known}

-- so many fields, and quotes in order
unfoldable pub counted : ℕ → List ℕ → Bool
counted count l = (row_of l).sound && eqb (length (row_of l).fields) count

-- the id in field k is listed
unfoldable pub id_known : List ℕ → ℕ → List ℕ → Bool
id_known list k l = known list (field (row_of l) k)
