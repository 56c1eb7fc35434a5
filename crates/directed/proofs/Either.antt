-- What holds of a row whichever its direction is. Assumes nothing.
use mathlib.Core.Path.{◌≡◌, refl}
use mathlib.Core.Bool.{Bool, true, false}
use mathlib.Core.List.{List}
use Prim.Native.Nat.{ℕ, ◌+◌, ◌/◌, ◌≤◌}
use native.Mathlib.Omega.{arith}
use lib.ListN.{length}
use Rattle.journeys.proofs.Tests.{never}
use Rattle.passing.specs.Row.{passes, Sound, Leaves}
use Rattle.passing.proofs.Few.{hops_few}
use Rattle.directed.specs.Directed.{Numbered, Passable, Near}
use Rattle.directed.specs.declared.Directed.{Directed}

module _ {w h l : List ℕ} {a : Directed} where
  pub numbered : Passable w h l a → Numbered w h l a
  numbered p = record { here = λ e. (p.here e).counted; there = λ e. (p.there e).listed }

  pub allowed-low : Passable w h l a → a.arriving.allowed.0 ≤ 8640000
  allowed-low p = go a.courier refl
    where
      go : (b : Bool) → a.courier ≡ b → a.arriving.allowed.0 ≤ 8640000
      go true e = (p.there e).allowed
      go false e = (p.here e).allowed

  -- its records are no more than the three slices could have: their number fits
  pub few : Numbered w h l a → passes a.arriving ≤ length w / 16 + length h / 16 + length l / 4
  few n = go a.courier refl
    where
      go : (b : Bool) → a.courier ≡ b → passes a.arriving ≤ length w / 16 + length h / 16 + length l / 4
      go true e = omega (arith, (n.there e).list)
      go false e = omega (arith, (n.here e).walks, hops_few (n.here e))

-- ---- a row that is not the courier's
module _ (w h l : List ℕ) (a : Directed) (e : a.courier ≡ false) where
  pub ordinary-passable : Sound w h a.arriving → Passable w h l a
  ordinary-passable s = record { here = λ q. s; there = λ q. never q e }

  pub ordinary-near : (v : List ℕ) → Leaves v w h a.arriving → Near v w h l a
  ordinary-near v s = record { vertices = s.vertices; low = λ j k. rw e (s.low j k) }
