-- The finite map that the table holds: for each vertex nothing, or a distance, a state (0 unsettled, 1 settled) and how many departing records remain.
use Rattle.std.specs.Prelude.{◌≡◌, Bool, false, cond, ◌&&◌, ◌⊎◌, List, [], ◌∷◌, ◌++◌, ℕ, zero, suc, ◌-◌, ◌+◌, ◌<◌, ◌≤◌, min, eqb, ltb}
use Rattle.std.proofs.Math.Decide.{ℕ_discrete}
use Rattle.journeys.specs.Counting.{none}
use Rattle.journeys.specs.Network.{Held}

pub data Entry : Type 0 where
  absent : Entry
  known : (distance state remaining : ℕ) → Entry

abbrev pub Map : Type 0
Map = ℕ → Entry

unfoldable pub distance_of : Entry → ℕ
distance_of absent = none
distance_of (known d s n) = d

unfoldable pub state_of : Entry → ℕ
state_of absent = 0
state_of (known d s n) = s

unfoldable pub remaining_of : Entry → ℕ
remaining_of absent = 0
remaining_of (known d s n) = n

-- what an entry can have: a distance below the first, and as many remaining records as are below the second
abbrev pub distance_limit : ℕ
distance_limit = 134217727

abbrev pub remaining_limit : ℕ
remaining_limit = 1048576

-- a figure that fits an entry: a distance, or none
abbrev pub Figure : ℕ → Type 0
Figure d = (d < distance_limit) ⊎ (d ≡ none)

unfoldable pub choose : {A : Type 0} → Dec A → Entry → Entry → Entry
choose (yes p) x y = x
choose (no p) x y = y

unfoldable pub empty : Map
empty u = absent

-- m with e for u
unfoldable pub put : Map → ℕ → Entry → Map
put m u e v = choose (ℕ_discrete v u) e (m v)

abbrev pub settled : Entry → Entry
settled e = known (distance_of e) 1 (remaining_of e)

-- a record with the offer b is passed: one less remains, and an unsettled vertex takes the lesser distance
unfoldable pub touched : ℕ → Entry → Entry
touched b absent = absent
touched b (known d zero n) = known (min b d) 0 (n - 1)
touched b (known d (suc s) n) = known d (suc s) (n - 1)

-- THE TEST by which an entry goes, where D is allowed: no departing record of its vertex remains, and it is settled or its distance is above D. None is above any D.
unfoldable pub spent : ℕ → Entry → Bool
spent D absent = false
spent D (known d zero n) = eqb n 0 && ltb D d
spent D (known d (suc s) n) = eqb n 0

-- a spent entry goes
unfoldable pub swept : ℕ → Entry → Entry
swept D e = cond (spent D e) absent e

-- how many vertices are in the map, of those below n and of all
unfoldable pub one : Entry → ℕ
one absent = 0
one (known d s n) = 1

unfoldable pub size_to : ℕ → Map → ℕ
size_to zero m = 0
size_to (suc n) m = size_to n m + one (m n)

unfoldable pub size : Map → ℕ
size m = size_to 65536 m

-- the records of the map, ascending by vertex
unfoldable pub row : ℕ → Entry → List Held
row u absent = []
row u (known d s n) = record { vertex = u; distance = d; state = s; remaining = n } ∷ []

unfoldable pub rows_to : ℕ → Map → List Held
rows_to zero m = []
rows_to (suc n) m = rows_to n m ++ row n (m n)

unfoldable pub rows : Map → List Held
rows m = rows_to 65536 m

-- u is unsettled and has the distance d
pub record Waits (m : Map) (u d : ℕ) : Type 0 where
  pub unsettled : state_of (m u) ≡ 0
  pub at : distance_of (m u) ≡ d
  pub some : d < none

-- of all that wait, v with d comes first by distance, then by number
pub record Foremost (m : Map) (v d : ℕ) : Type 0 where
  pub waits : Waits m v d
  pub first : (u e : ℕ) → Waits m u e → (d < e) ⊎ ((d ≡ e) × (v ≤ u))
