-- Journeys over any network of monotone offers, and the distance. What later requests change of the journeys of RULES 6 (waits, rides of no minutes,
-- the other direction) is another instance of what stands here. Assumes nothing.
use mathlib.Core.Path.{◌≡◌}
use mathlib.Core.Logic.{◌↔◌}
use Prim.Native.Nat.{ℕ, ◌≤◌, ◌<◌}
use native.Mathlib.Omega.{arith}
use Rattle.journeys.specs.Counting.{none}
use Rattle.journeys.specs.Network.{Network}

-- What the offers of a network mean. `Ends v b`: who leaves v b ticks before the end is there in time.
-- `Leads r d b`: who leaves the near end of record r b ticks before the end is at its far end d ticks before it.
pub record Ways : Type 1 where
  pub Ends : ℕ → ℕ → Type 0
  pub Leads : ℕ → ℕ → ℕ → Type 0

-- Who leaves v b ticks before the end arrives in time.
pub data Arrives (G : Network) (W : Ways) : ℕ → ℕ → Type 0 where
  ends : {v b : ℕ} → W.Ends v b → Arrives G W v b
  leads : {v b : ℕ} (r d : ℕ) → r < G.records → G.from r ≡ v → W.Leads r d b → Arrives G W (G.to r) d → Arrives G W v b

abbrev pub Dist : Network → Ways → ℕ → ℕ → Type 0
Dist G W v d = Arrives G W v d × ((b : ℕ) → Arrives G W v b → d ≤ b)

-- What the theory asks: records lead between vertices; an earlier start never hurts; no record leads back in time; and the numbers of the network
-- are the least figures of the two relations, where these are below none.
pub record Laws (G : Network) (W : Ways) : Type 0 where
  pub from_low : (r : ℕ) → r < G.records → G.from r < G.vertices
  pub ends_low : (v b : ℕ) → W.Ends v b → v < G.vertices
  pub ends-up : (v b b' : ℕ) → b ≤ b' → W.Ends v b → W.Ends v b'
  pub leads-up : (r d b b' : ℕ) → b ≤ b' → W.Leads r d b → W.Leads r d b'
  pub leads-down : (r d d' b : ℕ) → d' ≤ d → W.Leads r d b → W.Leads r d' b
  pub leads-le : (r d b : ℕ) → r < G.records → W.Leads r d b → d ≤ b
  pub seed-is : (v b : ℕ) → v < G.vertices → b < none → W.Ends v b ↔ (G.seed v ≤ b)
  pub offer-is : (r d b : ℕ) → r < G.records → b < none → W.Leads r d b ↔ (G.offer r d ≤ b)

-- Each record takes time. Only the order by (distance, number) rests on this.
abbrev pub Strict : Network → Ways → Type 0
Strict G W = (r d b : ℕ) → r < G.records → W.Leads r d b → d < b

-- No record leads from a vertex to itself.
abbrev pub Loopless : Network → Type 0
Loopless G = (r : ℕ) → r < G.records → G.from r ≡ G.to r → ⊥

-- A vertex has one distance at most.
pub dist-one : (G : Network) (W : Ways) (v d d' : ℕ) → Dist G W v d → Dist G W v d' → d ≡ d'
dist-one G W v d d' h h' = omega (arith, h.1 d' h'.0, h'.1 d h.0)

module _ (G : Network) (W : Ways) (L : Laws G W) where
  -- Who starts earlier arrives as well.
  pub arrives-up : {v b : ℕ} (b' : ℕ) → b ≤ b' → Arrives G W v b → Arrives G W v b'
  arrives-up {v} {b} b' h (ends s) = ends (L.ends-up v b b' h s)
  arrives-up {v} {b} b' h (leads r d l f o j) = leads r d l f (L.leads-up r d b b' h o) j

  pub arrives-low : {v b : ℕ} → Arrives G W v b → v < G.vertices
  arrives-low {v} {b} (ends s) = L.ends_low v b s
  arrives-low (leads r d l f o j) = rw f at (L.from_low r l)
