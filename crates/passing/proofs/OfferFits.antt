-- What a hop offers is a distance that an entry can have. Assumes nothing.
use mathlib.Core.Path.{refl}
use mathlib.Core.Logic.{inl, inr}
use mathlib.Core.Bool.{Bool, true, false, cond, ◌&&◌}
use Prim.Native.Nat.{ℕ, ◌-◌, ◌*◌, ◌≤◌, ◌<◌}
use native.Mathlib.Nat.{mul-le-mul}
use native.Mathlib.Omega.{arith}
use lib.Dec.{leb}
use Rattle.journeys.specs.Counting.{none}
use Rattle.journeys.specs.Tables.{Hop}
use Rattle.journeys.specs.Records.{ridden, offer}
use Rattle.words.specs.Quantities.{DayTime}
use Rattle.worktable.specs.Map.{distance_limit, Figure}
use Rattle.passing.specs.Row.{asking}

pub hop-distance : (h : Hop) (arrival speed d : ℕ) → DayTime h.departure → DayTime arrival → speed ≤ 100 → Figure (offer (asking arrival speed) (ridden h) d)
unfolding offer
hop-distance h arrival speed d p q s = go (leb h.arrival arrival && leb d ((arrival - h.arrival) * speed))
  where
    small : (arrival - h.departure) * speed < distance_limit
    small =
        let a : arrival - h.departure ≤ 259200 = omega (arith, p.low, q.high) in
        let b : (arrival - h.departure) * speed ≤ 259200 * 100 = mul-le-mul a s in
        omega arith

    go : (b : Bool) → Figure (cond b ((arrival - h.departure) * speed) none)
    go true = inl small
    go false = inr refl
