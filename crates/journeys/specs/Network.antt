-- What is known, met, remaining and held when S is settled (RULES 8.5, 9), over any records that lead from vertex to vertex and make offers. Assumes nothing.
use Rattle.std.specs.Prelude.{◌≡◌, Bool, not, cond, ◌&&◌, ◌||◌, List, [], ◌∷◌, ℕ, min, ◌≤◌, ◌<◌, eqb, ltb}
use Rattle.journeys.specs.Counting.{none, least, count, joined}
use Rattle.journeys.specs.Settled.{Settled}

-- Vertices and records are numbered from 0. `seed v` is the distance that a query end gives v, `offer r d` the distance that record r offers its near end
-- where its far end has the distance d; each may be none. `allowed` is D.
pub record Network : Type 0 where
  pub vertices : ℕ
  pub records : ℕ
  pub allowed : ℕ
  pub from : ℕ → ℕ
  pub to : ℕ → ℕ
  pub seed : ℕ → ℕ
  pub offer : ℕ → ℕ → ℕ

-- the distance that S gives v, none if v is not in S
unfoldable pub distance_in : List Settled → ℕ → ℕ
distance_in [] v = none
distance_in (x ∷ S) v = cond (eqb v x.vertex) x.distance (distance_in S v)

pub record Held : Type 0 where
  pub vertex : ℕ
  pub distance : ℕ
  pub state : ℕ
  pub remaining : ℕ

-- v is in S; here and below `far` gives the distance of each vertex of S, and none of any other
unfoldable pub within : (ℕ → ℕ) → ℕ → Bool
within far v = ltb (far v) none

-- nothing more is needed of an entry, by D, whether it is settled, its distance and its remaining: none of its departing records remains, and it is settled or
-- its distance is above D. None is above any D.
abbrev pub spent : ℕ → Bool → ℕ → ℕ → Bool
spent D settled distance remaining = eqb remaining 0 && (settled || ltb D distance)

module _ (G : Network) (far : ℕ → ℕ) where
  -- record r leaves v and leads into S; it leaves v and does not; what it then offers v
  unfoldable pub into : ℕ → ℕ → Bool
  into v r = eqb (G.from r) v && within far (G.to r)

  unfoldable pub outside : ℕ → ℕ → Bool
  outside v r = eqb (G.from r) v && not (within far (G.to r))

  unfoldable pub offered : ℕ → ℕ → ℕ
  offered v r = cond (into v r) (G.offer r (far (G.to r))) none

  -- the least of its seed and the offers of its records into S
  unfoldable pub known : ℕ → ℕ
  known v = min (G.seed v) (least (offered v) G.records)

  -- how many of its departing records do not lead into S
  unfoldable pub remaining : ℕ → ℕ
  remaining v = count (outside v) G.records

  -- a seed, or a record into S
  unfoldable pub met : ℕ → Bool
  met v = ltb (G.seed v) none || ltb 0 (count (into v) G.records)

  -- met, unless it is spent: all its departing records lead into S, and it is in S or known above D
  unfoldable pub held : ℕ → Bool
  held v = met v && not (spent G.allowed (within far v) (known v) (remaining v))

  -- it is in S, and then it is dropped; or it is not, and then it is forgotten
  abbrev pub Dropped : ℕ → Type 0
  Dropped v = (far v < none) × (remaining v ≡ 0)

  abbrev pub Forgotten : ℕ → Type 0
  Forgotten v = (none ≤ far v) × (remaining v ≡ 0) × (G.allowed < known v)

  unfoldable pub row : ℕ → Held
  row v = record { vertex = v; distance = known v; state = cond (within far v) 1 0; remaining = remaining v }

  -- what the working table holds of v: its row or nothing
  unfoldable pub entry : ℕ → List Held
  entry v = cond (held v) (row v ∷ []) []

  -- the whole table, ascending by vertex
  unfoldable pub held_list : List Held
  held_list = joined entry G.vertices

  -- the larger table of a search that forgets nobody; only `Forgetting` compares with it
  unfoldable pub kept_list : List Held
  kept_list = joined (λ v. cond (met v && not (within far v && eqb (remaining v) 0)) (row v ∷ []) []) G.vertices
