-- Any two results that a contract allows are equal: the answers, the map afterwards, and in `finish` every byte.
use Rattle.std.specs.Prelude.{Option, Some, None}
use mathlib.Core.Path.{◌≡◌, refl, sym, ap, ◌∙◌}
use mathlib.Core.List.{List}
use Prim.Native.Nat.{ℕ}
use Rattle.worktable.specs.Map.{Entry, Map, empty}
use Rattle.worktable.specs.Table.{map_of, InOrder, Holds, Place, Gives, FoundIs, PassedIs, NearestIs}
use Rattle.worktable.specs.declared.Table.{Table}
use Rattle.worktable.specs.declared.Nearest.{Nearest}
use Rattle.worktable.specs.declared.Passed.{Passed}
use Rattle.journeys.proofs.Tests.{never}
use Rattle.worktable.proofs.MapLaws.{absent-known, spent-held, foremost-one}
use Rattle.worktable.proofs.TableLaws.{place-one, place-entry}
use Rattle.worktable.proofs.room.Reads as room
use Rattle.worktable.proofs.free.Reads as free
use Rattle.worktable.proofs.find.Reads as find
use Rattle.worktable.proofs.look.Reads as look
use Rattle.worktable.proofs.settle_at.Reads as settle-at
use Rattle.worktable.proofs.least.Reads as least
use Rattle.worktable.proofs.finish.Reads as finish

pub room-one : (κs : _) (a : _) (z z' : _) (e e' : _) → room.Post κs a z e → room.Post κs a z' e' → z ≡ z'
room-one κs a z z' e e' p q = p ∙ sym q

pub free_one : (κs : _) (a : _) (z z' : _) (e e' : _) → free.Post κs a z e → free.Post κs a z' e' → z ≡ z'
free_one κs a z z' e e' p q = p ∙ sym q

found-same : (t : Table) (b : List ℕ) (u : ℕ) (f g : Option ℕ) → InOrder t b → FoundIs t b u f → FoundIs t b u g → f ≡ g
unfolding FoundIs
found-same t b u (Some s) (Some x) o p q = ap Some (place-one o p q)
found-same t b u (Some s) None o p q = absurd (absent-known (sym q ∙ place-entry o p refl))
found-same t b u None (Some x) o p q = absurd (absent-known (sym p ∙ place-entry o q refl))
found-same t b u None None o p q = refl

pub find-one : (κs : _) (a : _) (z z' : _) (e e' : _) → find.Pre κs a → find.Post κs a z e → find.Post κs a z' e' → z ≡ z'
find-one κs a z z' e e' o p q = found-same _ _ _ z z' o p q

-- what `pass` and `look` answer: whether the entry is absent, kept or spent, and the slot of a spent one
pub passed-same : (D : ℕ) (t : Table) (b : List ℕ) (u : ℕ) (x : Entry) (f g : Passed) → InOrder t b → PassedIs D t b u x f → PassedIs D t b u x g → f ≡ g
unfolding PassedIs
passed-same D t b u x Passed.Absent Passed.Absent o p q = refl
passed-same D t b u x Passed.Absent Passed.Kept o p q = absurd (q.0 p)
passed-same D t b u x Passed.Absent (Passed.Spent s) o p q = absurd (spent-held D q.1 p)
passed-same D t b u x Passed.Kept Passed.Absent o p q = absurd (p.0 q)
passed-same D t b u x Passed.Kept Passed.Kept o p q = refl
passed-same D t b u x Passed.Kept (Passed.Spent s) o p q = never q.1 p.1
passed-same D t b u x (Passed.Spent s) Passed.Absent o p q = absurd (spent-held D p.1 q)
passed-same D t b u x (Passed.Spent s) Passed.Kept o p q = never p.1 q.1
passed-same D t b u x (Passed.Spent s) (Passed.Spent r) o p q = ap Passed.Spent (place-one o p.0 q.0)

pub look_one : (κs : _) (a : _) (z z' : _) (e e' : _) → look.Pre κs a → look.Post κs a z e → look.Post κs a z' e' → z ≡ z'
look_one κs a z z' e e' o p q = passed-same _ _ _ _ _ z z' o.0 p q

pub settle-at-one : (κs : _) (a : _) (z z' : _) (e e' : _) → settle-at.Post κs a z e → settle-at.Post κs a z' e' → z ≡ z'
settle-at-one κs a z z' e e' p q = p.1 ∙ sym q.1

nearest-same : (t : Table) (b : List ℕ) (f g : Option Nearest) → InOrder t b → NearestIs t b f → NearestIs t b g → f ≡ g
unfolding NearestIs
nearest-same t b (Some x) (Some y) o p q = same y (foremost-one p.1 q.1) q.0
  where
    same : (y : Nearest) → (x.vertex ≡ y.vertex) × (x.distance ≡ y.distance) → Place t b y.vertex y.slot → Some x ≡ Some y
    same y k r = let z : x.slot ≡ y.slot = place-one o p.0 (rw k.0 r) in rw (z, k.0, k.1)
nearest-same t b (Some x) None o p q = absurd (q x.vertex x.distance p.1.waits)
nearest-same t b None (Some y) o p q = absurd (p y.vertex y.distance q.1.waits)
nearest-same t b None None o p q = refl

pub least-one : (κs : _) (a : _) (z z' : _) (e e' : _) → least.Pre κs a → least.Post κs a z e → least.Post κs a z' e' → z ≡ z'
least-one κs a z z' e e' o p q = nearest-same _ _ z z' o p q

-- `start`: the map, and how many slots there are
pub start-one : {t r : Table} {b c : List ℕ} {n : ℕ} → Holds t b empty × (t.room ≡ n) → Holds r c empty × (r.room ≡ n) → (map_of t b ≡ map_of r c) × (t.room ≡ r.room)
start-one p q = (p.0.map ∙ sym q.0.map, p.1 ∙ sym q.1)

-- `insert`, `pass`, `settle_at` and `drop`: the same
pub gives_one : {t r r' : Table} {b c c' : List ℕ} {m : Map} → Gives t r b c m → Gives t r' b c' m → (map_of r c ≡ map_of r' c') × (r.room ≡ r'.room)
gives_one p q = (p.holds.map ∙ sym q.holds.map, p.room ∙ sym q.room)

pub finish-one : (κs : _) (a : _) (z z' : _) (e e' : _) → finish.Post κs a z e → finish.Post κs a z' e' → z ≡ z'
finish-one κs a z z' e e' p q = p.0 ∙ sym q.0

pub finish-bytes-one : (κs : _) (a : _) (z z' : _) (e e' : _) → finish.Post κs a z e → finish.Post κs a z' e' → e.0.now ≡ e'.0.now
finish-bytes-one κs a z z' e e' p q = p.1 ∙ sym q.1
