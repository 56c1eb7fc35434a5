-- From one table to another: what `Leads` and the answers are made of. Assumes nothing.
use Rattle.std.specs.Prelude.{Option, Some, None}
use mathlib.Core.Path.{◌≡◌, refl, sym, ap, ◌∙◌, subst}
use mathlib.Core.Bool.{false}
use mathlib.Core.List.{List}
use Prim.Native.Nat.{ℕ, ◌≤◌, ◌<◌}
use native.Mathlib.Omega.{arith}
use Rattle.worktable.specs.Map.{Entry, absent, Map, put, size, touched}
use Rattle.worktable.specs.Table.{map_of, InOrder, Place, Gives, PassedIs}
use Rattle.worktable.specs.declared.Table.{Table}
use Rattle.worktable.specs.declared.Passed.{Passed}
use Rattle.worktable.proofs.MapLaws.{put_id, touched-absent, absent-touched}
use Rattle.worktable.proofs.TableLaws.{place-one-more}
use Rattle.worktable.proofs.PassLaws.{gives_at, gives-twice}
use Rattle.meeting.specs.Passing.{missing, entered, met, left}
use Rattle.meeting.proofs.Entries.{left-absent, one-missing}
use Rattle.meeting.specs.Answer.{Leads, ArrivedIs}

pub leads-gives : {t r : Table} {b c : List ℕ} {m k : Map} → Gives t r b c m → m ≡ k → Leads t r c k
leads-gives {t} {r} {b} {c} g e = subst (Leads t r c) e (record { holds = g.holds; room = g.room })

pub leads-is : {t r : Table} {b c : List ℕ} {m : Map} → Gives t r b c m → Leads t r c m
leads-is g = record { holds = g.holds; room = g.room }

pub leads-here : {t : Table} {b : List ℕ} {k : Map} → InOrder t b → map_of t b ≡ k → Leads t t b k
leads-here {t} {b} o e = record { holds = record { order = o; map = e }; room = refl }

pub leads-same : {t r : Table} {c : List ℕ} {m k : Map} → Leads t r c m → m ≡ k → Leads t r c k
leads-same {t} {r} {c} l e = subst (Leads t r c) e l

pub leads-on : {t r q : Table} {c d : List ℕ} {m k : Map} → Leads t r c m → Leads r q d k → Leads t q d k
leads-on l n = record { holds = n.holds; room = n.room ∙ l.room }

pub leads-room : {t r : Table} {c : List ℕ} {m : Map} → Leads t r c m → size m ≤ t.room
leads-room {t} {r} {c} {m} l = rw (← l.holds.map, ← l.room) (omega (arith, l.holds.order.counted))

pub here-room : {t : Table} {b : List ℕ} → InOrder t b → size (map_of t b) ≤ t.room
here-room o = omega (arith, o.counted)

pub here-held : {t : Table} {b : List ℕ} {u s : ℕ} → InOrder t b → Place t b u s → missing (map_of t b u) ≡ false
here-held {t} {b} {u} o p = one-missing (map_of t b u) (place-one-more o p)

-- an entry that is put where it is already
pub stays_put : (m : Map) (u : ℕ) (e : Entry) → m u ≡ e → m ≡ put m u e
stays_put m u e h = sym (put_id m u e h)

-- an entry that has been touched, and then is entered or dropped, has been met
pub touched-met : (D : ℕ) (t : Table) (b : List ℕ) (u x d : ℕ) {c : List ℕ} → Gives t t b c (put (map_of t b) u (touched x (map_of t b u)))
    → {r : Table} {a : List ℕ} → Leads t r a (put (map_of t c) u (entered D x d (map_of t c u))) → Leads t r a (put (map_of t b) u (met D x d (map_of t b u)))
unfolding met
touched-met D t b u x d {c} g l =
    leads-same l
    (ap (λ (e : Entry). put (map_of t c) u (entered D x d e)) (gives_at u (touched x (map_of t b u)) g)
    ∙ gives-twice u (touched x (map_of t b u)) (entered D x d (touched x (map_of t b u))) g)

-- what is told of it is told of the table as it is left
pub told-there : (D : ℕ) (t : Table) (b : List ℕ) (u x : ℕ) {c : List ℕ} → Gives t t b c (put (map_of t b) u (touched x (map_of t b u))) → (p : Passed)
    → PassedIs D t c u (touched x (map_of t b u)) p → PassedIs D t c u (map_of t c u) p
told-there D t b u x {c} g p h = subst (λ (e : Entry). PassedIs D t c u e p) (sym (gives_at u (touched x (map_of t b u)) g)) h

-- who has no entry then had none before, and the table has as many as before, so also a slot, if one is needed
pub new-there : (P : Type 0) (t : Table) (b : List ℕ) (u x d : ℕ) {c : List ℕ} → Gives t t b c (put (map_of t b) u (touched x (map_of t b u))) → 0 < left d (map_of t b u)
    → (map_of t b u ≡ absent → P → size (map_of t b) < t.room) → map_of t c u ≡ absent → (0 < d) × (P → size (map_of t c) < t.room)
new-there P t b u x d {c} g l room z =
    let a : map_of t b u ≡ absent = touched-absent x (map_of t b u) (sym (gives_at u (touched x (map_of t b u)) g) ∙ z) in
    let e : map_of t c ≡ map_of t b = g.holds.map ∙ put_id (map_of t b) u (touched x (map_of t b u)) (a ∙ sym (absent-touched x a)) in
    (omega (arith, l, left-absent d (map_of t b u) a), λ p. subst (λ (m : Map). size m < t.room) (sym e) (room a p))

-- ---- answers
pub fits-is : {t r : Table} {c : List ℕ} {m : Map} → Leads t r c m → ArrivedIs t c m (Some r)
unfolding ArrivedIs
fits-is l = (l, leads-room l)

pub fits-leads : {t r : Table} {c : List ℕ} {m : Map} {x : Option Table} → ArrivedIs t c m x → x ≡ Some r → Leads t r c m
unfolding ArrivedIs
fits-leads {t} {r} {c} {m} h e = (subst (ArrivedIs t c m) e h).0

pub none-lacks : (t : Table) (c : List ℕ) (m : Map) {x : Option Table} → t.room < size m → x ≡ None → ArrivedIs t c m x
unfolding ArrivedIs
none-lacks t c m l e = rw e l

pub none-fits : (t : Table) (c : List ℕ) (m : Map) {x : Option Table} → ArrivedIs t c m x → x ≡ None → t.room < size m
unfolding ArrivedIs
none-fits t c m h e = subst (ArrivedIs t c m) e h
