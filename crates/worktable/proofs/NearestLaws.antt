-- The root of the tree is the foremost entry, if any entry waits.
use Rattle.std.specs.Prelude.{Option, Some, None}
use mathlib.Core.Path.{◌≡◌, refl, sym, ap, subst, ◌∙◌}
use mathlib.Core.Logic.{◌≢◌, ◌⊎◌, inl, inr}
use mathlib.Core.List.{List}
use Prim.Native.Nat.{ℕ, ◌+◌, ◌*◌, ◌/◌, ◌%◌, ◌<◌, ◌≤◌}
use native.Mathlib.Omega.{arith}
use native.Mathlib.Decide.{ℕ_discrete}
use Rattle.table_bytes.specs.Columns.{cols, at}
use Rattle.table_tree.specs.Words.{vacant, vertex_in, key}
use Rattle.table_tree.specs.Chains.{At}
use Rattle.table_tree.proofs.TreeLaws.{least}
use Rattle.table_records.specs.Fields.{distance_in, state_in}
use Rattle.journeys.specs.Counting.{none}
use Rattle.worktable.specs.Map.{distance_of, Waits, Foremost}
use Rattle.worktable.specs.Inside.{lookup}
use Rattle.worktable.specs.Table.{map_of, InOrder, Place, NearestIs}
use Rattle.worktable.specs.declared.Table.{Table}
use Rattle.worktable.specs.declared.Nearest.{Nearest}
use Rattle.worktable.proofs.WordLaws.{entry_vacant, vertex-low}
use Rattle.worktable.proofs.LookupLaws.{lookup-slot}
use Rattle.worktable.proofs.TableLaws.{place-distance, place-state}

-- a word that waits: its key tells distance and vertex
waits-low : (x : ℕ) → state_in x ≡ 0 → distance_in x < none → x / 68719476736 < 134217727
unfolding state_in distance_in
waits-low x a h = omega arith

low-distance : (x : ℕ) → x / 68719476736 < 134217727 → distance_in x ≡ x / 68719476736
unfolding distance_in
low-distance x h =
    let a : x / 68719476736 % 134217728 ≡ x / 68719476736 = omega arith in
    let e : x / 68719476736 / 134217727 ≡ 0 = omega arith in
    rw (a, e) (omega arith)

low-state : (x : ℕ) → x / 68719476736 < 134217727 → state_in x ≡ 0
unfolding state_in
low-state x h = omega arith

key-parts : (x : ℕ) → x / 68719476736 < 134217727 → key x ≡ x / 68719476736 * 65536 + vertex_in x
unfolding key vertex_in
key-parts x h = omega arith

high-key : (w : ℕ) → 9223371968135299072 ≤ w → 8796092956672 ≤ key w
unfolding key
high-key w h = omega arith

low-key : (x : ℕ) → x / 68719476736 < 134217727 → key x ≡ distance_in x * 65536 + vertex_in x
low-key x h = rw (low-distance x h) (key-parts x h)

module _ {t : Table} {b : List ℕ} (o : InOrder t b) (pos : 0 < t.capacity) where
  -- who waits has a slot with such a word
  waiting : (u e : ℕ) → Waits (map_of t b) u e → (i : ℕ) × At t.capacity (cols t.slots b).w u i × (at (cols t.slots b).w i / 68719476736 < 134217727) × (distance_in (at (cols t.slots b).w i) ≡ e)
  unfolding map_of distance_of
  waiting u e h =
      let used : lookup t.capacity (cols t.slots b).w u ≢ vacant = λ z. absurd (omega (arith, ap distance_of (entry_vacant z), h.at, h.some)) in
      let sl = lookup-slot used in
      let p : Place t b u sl.0 = record { slot = sl.1 } in
      let x = at (cols t.slots b).w sl.0 in
      let ed : distance_in x ≡ e = sym (place-distance o p refl) ∙ h.at in
      let es : state_in x ≡ 0 = sym (place-state o p refl) ∙ h.unsettled in
      (sl.0, sl.1, waits-low x es (rw ed h.some), ed)

  module _ {s w : ℕ} (es : s ≡ at (cols t.slots b).t 1) (ew : w ≡ at (cols t.slots b).w s) where
    pub root-low : s < t.capacity
    root-low = rw es ((o.layout pos).win.shape.low 1 (omega arith) (omega arith))

    root : (i : ℕ) → i < t.capacity → key w ≤ key (at (cols t.slots b).w i)
    root i l = rw (ew, es) (least t.capacity (cols t.slots b).w (cols t.slots b).t (o.layout pos).win i l)

    pub nearest-at : {v d : ℕ} → w < 9223371968135299072 → v ≡ vertex_in w → d ≡ distance_in w → NearestIs t b (Some record { slot = s; vertex = v; distance = d })
    unfolding NearestIs
    nearest-at {v} {d} h ev ed = (
      p,
      record {
        waits = record { unsettled = place-state o p ew ∙ low-state w low; at = place-distance o p ew ∙ sym ed; some = rw ed (rw (low-distance w low) (omega arith)) };
        first = λ u e q. let k = waiting u e q in order k.0 u e k.1 k.2 k.3 (ℕ_discrete d e);
      },
    )
      where
        low : w / 68719476736 < 134217727
        low = omega arith

        p : Place t b v s
        p = record { slot = record { low = root-low; used = λ z. absurd (omega (arith, ew)); vertex = ap vertex_in (sym ew) ∙ sym ev } }

        order : (i u e : ℕ) → At t.capacity (cols t.slots b).w u i → at (cols t.slots b).w i / 68719476736 < 134217727 → distance_in (at (cols t.slots b).w i) ≡ e → Dec (d ≡ e) → (d < e) ⊎ ((d ≡ e) × (v ≤ u))
        order i u e a l z c =
            let r = root i a.low in
            let kw = low-key w low in
            let kx = low-key (at (cols t.slots b).w i) l in
            let lv = vertex-low w in
            let lx = vertex-low (at (cols t.slots b).w i) in
            go c (omega (arith, a.vertex))
          where
            go : Dec (d ≡ e) → d * 65536 + v ≤ e * 65536 + u → (d < e) ⊎ ((d ≡ e) × (v ≤ u))
            go (yes q) r = inr (q, omega arith)
            go (no q) r = inl (omega (arith, vertex-low (at (cols t.slots b).w i), a.vertex))

    pub nearest-none : 9223371968135299072 ≤ w → NearestIs t b None
    unfolding NearestIs
    nearest-none h u e q =
        let k = waiting u e q in
        let r = root k.0 k.1.low in
        let kx = low-key (at (cols t.slots b).w k.0) k.2 in
        let kw = high-key w h in
        omega (arith, low-distance (at (cols t.slots b).w k.0) k.2, vertex-low (at (cols t.slots b).w k.0), k.2)

pub nearest-empty : {t : Table} {b : List ℕ} → InOrder t b → t.capacity ≡ 0 → NearestIs t b None
unfolding NearestIs map_of distance_of
nearest-empty {t} {b} o e u d q =
    let m : lookup t.capacity (cols t.slots b).w u ≢ vacant = λ z. absurd (omega (arith, ap distance_of (entry_vacant z), q.at, q.some)) in
    omega (arith, (lookup-slot m).1.low)

-- what the answer of `least` tells in each of its cases
pub nearest-is : {t : Table} {b : List ℕ} {y : Nearest} {x : Option Nearest} → NearestIs t b x → x ≡ Some y → Place t b y.vertex y.slot × Foremost (map_of t b) y.vertex y.distance
unfolding NearestIs
nearest-is {t} {b} h e = subst (NearestIs t b) e h

pub nearest-nothing : (t : Table) (b : List ℕ) {x : Option Nearest} → NearestIs t b x → x ≡ None → (u d : ℕ) → Waits (map_of t b) u d → ⊥
unfolding NearestIs
nearest-nothing t b h e = subst (NearestIs t b) e h
