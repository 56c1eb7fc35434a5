-- The hops of a row are no more than records of 16 bytes would be: their number is small. Assumes nothing.
use mathlib.Core.Logic.{⊎_elim}
use mathlib.Core.List.{List}
use Prim.Native.Nat.{ℕ, ◌-◌, ◌/◌, ◌≤◌, ◌<◌}
use native.Mathlib.Omega.{arith}
use lib.ListN.{length}
use Rattle.journeys.proofs.Tests.{le-or-lt}
use Rattle.records.proofs.Sizes.{as-small}
use Rattle.passing.specs.Row.{Counted}
use Rattle.passing.specs.declared.Arriving.{Arriving}

pub hops_few : {w h : List ℕ} {a : Arriving} → Counted w h a → a.hops ≤ length h / 16
hops_few {w} {h} {a} c =
    ⊎_elim (λ (z : a.hops ≤ 0). omega arith)
    (λ (z : 0 < a.hops). omega (arith, as-small a.size (a.hops - 1) (length h) c.fits (omega (arith, c.hops))))
    (le-or-lt a.hops 0)
