-- The working table when a vertex is settled: its entry stays, or is dropped at once. Assumes nothing.
use mathlib.Core.Path.{◌≡◌, refl, sym, ap, ◌∙◌}
use mathlib.Core.Logic.{◌≢◌}
use mathlib.Core.Bool.{true, false}
use mathlib.Core.List.{List}
use Prim.Native.Nat.{ℕ}
use lib.Dec.{eqb}
use Rattle.journeys.proofs.Tests.{cond-true, cond-false}
use Rattle.worktable.specs.Map.{absent, Map, put, settled, remaining_of}
use Rattle.worktable.specs.Table.{map_of, InOrder, Place, Gives}
use Rattle.worktable.specs.declared.Table.{Table}
use Rattle.worktable.proofs.MapLaws.{put_same, absent-known}
use Rattle.meeting.specs.Answer.{Leads}
use Rattle.heldmap.specs.Model.{settled_now}

module _ (t : Table) (b b1 : List ℕ) (v : ℕ) (g : Gives t t b b1 (put (map_of t b) v (settled (map_of t b v)))) where
  there : put (map_of t b) v (settled (map_of t b v)) v ≢ absent
  there e = absent-known (sym e ∙ put_same (map_of t b) v (settled (map_of t b v)) v refl)

  pub still-there : (s : ℕ) → Place t b v s → InOrder t b1 × Place t b1 v s
  still-there s p = (g.holds.order, g.stays v s there p)

  left_is : eqb (remaining_of (settled (map_of t b v))) 0 ≡ eqb (remaining_of (map_of t b v)) 0
  unfolding remaining_of
  left_is = refl

  pub settled-gone : (r : Table) (b2 : List ℕ) → eqb (remaining_of (map_of t b v)) 0 ≡ true → Gives t r b1 b2 (put (map_of t b1) v absent) → Leads t r b2 (settled_now (map_of t b) v)
  unfolding settled_now
  settled-gone r b2 e k =
      let q = cond-true (put (put (map_of t b) v (settled (map_of t b v))) v absent) (put (map_of t b) v (settled (map_of t b v))) (left_is ∙ e) in
      record {
        holds = record { order = k.holds.order; map = k.holds.map ∙ ap (λ (m : Map). put m v absent) g.holds.map ∙ sym q };
        room = k.room;
      }

  pub settled-stays : eqb (remaining_of (map_of t b v)) 0 ≡ false → Leads t t b1 (settled_now (map_of t b) v)
  unfolding settled_now
  settled-stays e =
      let q = cond-false (put (put (map_of t b) v (settled (map_of t b v))) v absent) (put (map_of t b) v (settled (map_of t b v))) (left_is ∙ e) in
      record { holds = record { order = g.holds.order; map = g.holds.map ∙ sym q }; room = refl }
