-- Any two answers that the contract of `arrive` allows say the same: whether the step has room, the map afterwards, and the marks. Assumes nothing.
use mathlib.Core.Path.{◌≡◌, refl, sym, ◌∙◌}
use mathlib.Core.Bool.{Bool, true, false}
use mathlib.Core.List.{List}
use Prim.Native.Nat.{ℕ}
use native.Mathlib.Omega.{arith}
use Rattle.worktable.specs.Map.{Map}
use Rattle.worktable.specs.Table.{map_of}
use Rattle.worktable.specs.declared.Table.{Table}
use Rattle.meeting.specs.Answer.{ArrivedIs}
use Rattle.std.specs.Prelude.{Option, Some, None}
use Rattle.arrivals.proofs.arrive.Reads as arrive

unfoldable pub fits : Option Table → Bool
fits (Some r) = true
fits None = false

room-one : (t : Table) (c d : List ℕ) (m : Map) (x y : Option Table) → ArrivedIs t c m x → ArrivedIs t d m y → fits x ≡ fits y
unfolding ArrivedIs fits
room-one t c d m (Some r) (Some q) h k = refl
room-one t c d m (Some r) None h k = absurd (omega (arith, h.1, k))
room-one t c d m None (Some q) h k = absurd (omega (arith, k.1, h))
room-one t c d m None None h k = refl

-- the table as far as callers see it
pub map-one : (t r q : Table) (c d : List ℕ) (m : Map) → ArrivedIs t c m (Some r) → ArrivedIs t d m (Some q) → (map_of r c ≡ map_of q d) × (r.room ≡ q.room)
unfolding ArrivedIs
map-one t r q c d m h k = (h.0.holds.map ∙ sym k.0.holds.map, h.0.room ∙ sym k.0.room)

pub arrive-one : (κs : _) (a : _) (z z' : _) (e e' : _) → arrive.Post κs a z e → arrive.Post κs a z' e' → fits z ≡ fits z'
arrive-one κs a z z' e e' p q = room-one _ _ _ _ z z' p.0 q.0

pub marks-one : (κs : _) (a : _) (z z' : _) (e e' : _) → arrive.Post κs a z e → arrive.Post κs a z' e' → e.1.1.1.1.1.1.1.0.now ≡ e'.1.1.1.1.1.1.1.0.now
marks-one κs a z z' e e' p q = p.1 ∙ sym q.1
