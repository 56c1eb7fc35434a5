-- Coverage over any network: with all within D settled, the parts of a road are the places on it from which a journey starts within D.
-- One theorem serves plain roads, the query's road and its twin, and roads with a wait at their end. Assumes nothing.
use mathlib.Core.Path.{◌≡◌}
use mathlib.Core.Logic.{◌⊎◌, inl, inr, ◌≢◌}
use mathlib.Core.List.{List}
use Prim.Native.Nat.{ℕ, ◌+◌, ◌-◌, ◌≤◌, ◌<◌, max}
use native.Mathlib.Decide.{dec_lt}
use native.Mathlib.Omega.{arith}
use Rattle.journeys.specs.Counting.{none, In}
use Rattle.journeys.specs.Order.{Settled, settled}
use Rattle.journeys.specs.Network.{Network}
use Rattle.journeys.proofs.Tests.{le-or-lt}
use Rattle.journeys.proofs.Ways.{Ways, Arrives, Dist, Laws}
use Rattle.journeys.proofs.Greedy.{Whole, dist-exists}

-- A road of `len` leads to `end`, where one waits `lag` ticks. The query place is at the offset `near` of it (0 where it lies elsewhere),
-- and `more` ticks are still to wait there.
pub record Road : Type 0 where
  pub end : ℕ
  pub len : ℕ
  pub lag : ℕ
  pub near : ℕ
  pub more : ℕ

-- the place is on the road; only at its end one has to wait for it, and no longer than for the end
pub record Sound (r : Road) : Type 0 where
  pub on : r.near ≤ r.len
  pub waits : r.more ≤ r.lag
  pub there : 0 < r.more → r.near ≡ r.len

module _ (G : Network) (W : Ways) where
  -- who starts at the place x of the road, b ticks before the end, is in time
  pub data FromPlace (r : Road) (x b : ℕ) : Type 0 where
    straight : x ≤ r.near → r.near - x + r.more ≤ b → FromPlace r x b
    onward : (d : ℕ) → Arrives G W r.end d → d + r.lag + (r.len - x) ≤ b → FromPlace r x b

  -- The parts of the road from a to z when S is settled. What is left after a wait is 0 where it does not reach the wait: such a part would start where it ends.
  pub data Piece (D : ℕ) (S : List Settled) (r : Road) : ℕ → ℕ → Type 0 where
    first : r.near - (D - r.more) ≢ r.near → Piece D S r (r.near - (D - r.more)) r.near
    later : (d : ℕ) → In (settled r.end d) S → max (r.len - (D - d - r.lag)) r.near ≢ r.len
        → Piece D S r (max (r.len - (D - d - r.lag)) r.near) r.len

  abbrev pub Covers : ℕ → List Settled → Road → ℕ → Type 0
  Covers D S r x = (a : ℕ) × (z : ℕ) × Piece D S r a z × (a ≤ x) × (x ≤ z)

  -- Who starts in a part is in time.
  pub covers-from : (D : ℕ) (S : List Settled) → ((v d : ℕ) → In (settled v d) S → Dist G W v d) → (r : Road) (x : ℕ) → Covers D S r x → FromPlace r x D
  covers-from D S F r x c = go c.2 c.3 c.4
    where
      go : {a z : ℕ} → Piece D S r a z → a ≤ x → x ≤ z → FromPlace r x D
      go (first q) h k = straight k (omega arith)
      go (later d s q) h k = onward d (F r.end d s).0 (omega arith)

  -- And every place inside the road from which one is in time lies in a part.
  pub from-covers : Laws G W → (D : ℕ) → 0 < D → D < none → (S : List Settled) → Whole G W D S → (r : Road) → Sound r → (x : ℕ) → 0 < x → x < r.len
      → FromPlace r x D → Covers D S r x
  from-covers L D D1 Di S all r s x x0 xl (straight h k) = (r.near - (D - r.more), r.near, first (go (dec_lt 0 r.more)), omega arith, h)
    where
      go : Dec (0 < r.more) → r.near - (D - r.more) ≢ r.near
      go (yes q) = omega (arith, s.there q)
      go (no q) = omega arith
  from-covers L D D1 Di S all r s x x0 xl (onward d j h) =
      let y = dist-exists G W L r.end d (omega arith) j in
      go y.0 y.1 y.2 (le-or-lt r.near x)
    where
      go : (d' : ℕ) → Dist G W r.end d' → d' ≤ d → (r.near ≤ x) ⊎ (x < r.near) → Covers D S r x
      go d' X le (inl q) =
          (max (r.len - (D - d' - r.lag)) r.near, r.len, later d' (all r.end d' X (omega arith)) (omega arith), omega arith, omega arith)
      go d' X le (inr q) = (r.near - (D - r.more), r.near, first (omega (arith, s.waits, s.on)), omega (arith, s.waits, s.on), omega arith)
