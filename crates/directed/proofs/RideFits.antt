-- What a record brings to the courier's next vertex is a distance that an entry can have. Assumes nothing.
use mathlib.Core.Path.{refl}
use mathlib.Core.Logic.{inl, inr}
use mathlib.Core.Bool.{Bool, true, false, cond, ◌&&◌}
use Prim.Native.Nat.{ℕ, ◌+◌, ◌-◌, ◌*◌, ◌≤◌, ◌<◌}
use native.Mathlib.Nat.{mul-le-mul}
use native.Mathlib.Omega.{arith}
use lib.Dec.{leb}
use Rattle.journeys.specs.Counting.{none}
use Rattle.journeys.specs.Tables.{Hop, len_of, wait_of}
use Rattle.journeys.specs.Records.{ridden}
use Rattle.journeys.specs.CourierRecords.{offer}
use Rattle.words.specs.Quantities.{DayTime}
use Rattle.worktable.specs.Map.{distance_limit, Figure}
use Rattle.passing.specs.Row.{asking}

-- whatever the bits of its length, a walk's ticks fit
pub way-fits : (bits speed : ℕ) → bits < 4294967296 → speed ≤ 100 → len_of bits + wait_of bits * speed ≤ 16802715
way-fits bits speed l h = let m : wait_of bits * speed ≤ 255 * 100 = mul-le-mul (let q : wait_of bits ≤ 255 = omega arith in q) h in omega arith

pub ride-distance : (h : Hop) (departure speed d : ℕ) → DayTime h.arrival → DayTime departure → speed ≤ 100 → Figure (offer (asking departure speed) (ridden h) d)
unfolding offer
ride-distance h departure speed d p q s = go (leb departure h.departure && leb d ((h.departure - departure) * speed))
  where
    small : (h.arrival - departure) * speed < distance_limit
    small =
        let a : h.arrival - departure ≤ 259200 = omega (arith, p.high, q.low) in
        let b : (h.arrival - departure) * speed ≤ 259200 * 100 = mul-le-mul a s in
        omega arith

    go : (b : Bool) → Figure (cond b ((h.arrival - departure) * speed) none)
    go true = inl small
    go false = inr refl
