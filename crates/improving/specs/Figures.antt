-- The map of the search with a boarding time as figures: of each vertex the least that it was offered within D, or none. Assumes nothing.
use Rattle.std.specs.Prelude.{◌≡◌, cond, List, ℕ, ◌<◌, eqb}
use Rattle.worktable.specs.Map.{Map, state_of, remaining_of, distance_of, distance_limit}
use Rattle.worktable.specs.Table.{map_of, InOrder, Place}
use Rattle.worktable.specs.declared.Table.{Table}
use Rattle.boarding.proofs.Kept.{improved}

-- no vertex is settled in the map, and no entry counts records
pub record Plain (m : Map) : Type 0 where
  pub unsettled : (u : ℕ) → state_of (m u) ≡ 0
  pub spare : (u : ℕ) → remaining_of (m u) ≡ 0

-- what the table has of each vertex
abbrev pub figures : Table → List ℕ → ℕ → ℕ
figures t b u = distance_of (map_of t b u)

-- the table is in order, plain, and has room for every vertex
pub record Ready (t : Table) (b : List ℕ) : Type 0 where
  pub order : InOrder t b
  pub plain : Plain (map_of t b)
  pub room : t.room ≡ 65536

-- u is offered o, and D is allowed
abbrev pub improved_at : ℕ → ℕ → ℕ → (ℕ → ℕ) → ℕ → ℕ
improved_at D u o f v = cond (eqb v u) (improved D o (f v)) (f v)

-- from the numbers t and the bytes b to r and c
pub record Bettered (D u o : ℕ) (t r : Table) (b c : List ℕ) : Type 0 where
  pub ready : Ready r c
  pub figures_are : figures r c ≡ improved_at D u o (figures t b)

-- u stands at its slot and is offered o, which is less than it has
pub record Lowered (t : Table) (b : List ℕ) (u slot o : ℕ) : Type 0 where
  pub ready : Ready t b
  pub low : u < 65536
  pub place : Place t b u slot
  pub fits : o < distance_limit
  pub less : o < distance_of (map_of t b u)
