-- The table and its map: reading at a place, and what a store at one slot gives.
use Rattle.std.specs.Prelude.{Bool, true, false, not, Option, Some, None, is_some}
use mathlib.Core.Path.{◌≡◌, refl, sym, ap, subst, fun_ext, ◌∙◌}
use mathlib.Core.Logic.{◌≢◌, inl, inr}
use mathlib.Core.List.{List}
use Prim.Native.Nat.{ℕ, ◌-◌, ◌+◌, ◌%◌, ◌<◌, ◌≤◌}
use native.Mathlib.Omega.{arith}
use native.Mathlib.Decide.{ℕ_discrete}
use lib.ListN.{length, set}
use Rattle.table_bytes.specs.Columns.{Cols, cols, at, set_n, Sized}
use Rattle.table_bytes.proofs.Access.{sized}
use Rattle.table_tree.specs.Words.{vacant, vertex_in, Slotted}
use Rattle.table_tree.specs.Tree.{Changed}
use Rattle.table_tree.specs.Chains.{At, Missing, Slot, Linked}
use Rattle.table_records.specs.Fields.{distance_in, state_in, remaining_in}
use Rattle.worktable.specs.Map.{Entry, absent, known, Map, distance_of, state_of, remaining_of, empty, put, one, size, size_to}
use Rattle.worktable.specs.Inside.{entry_in, lookup, Single, Layout}
use Rattle.worktable.specs.Table.{map_of, Roomy, InOrder, Holds, Place, Gives, FoundIs}
use Rattle.worktable.specs.declared.Table.{Table}
use Rattle.journeys.proofs.Tests.{never}
use Rattle.worktable.proofs.MapLaws.{put_same, size-put, size-empty}
use Rattle.worktable.proofs.WordLaws.{entry_vacant, entry-used, absent-vacant, vertex-low}
use Rattle.worktable.proofs.LookupLaws.{lookup-none, lookup-missing, lookup-at, Fit, set_at, set-stays, set-map}
use Rattle.worktable.proofs.LayoutLaws.{numbers, pops, change-layout, insert-words, insert-layout, drop-words, drop-layout}

-- two tables that hold the same hold the same map
pub holds_same : {t r : Table} {b c : List ℕ} {m : Map} → Holds t b m → Holds r c m → map_of t b ≡ map_of r c
holds_same p q = p.map ∙ sym q.map

pub holds-here : {t : Table} {b : List ℕ} → InOrder t b → Holds t b (map_of t b)
holds-here o = record { order = o; map = refl }

-- a vertex has one slot
pub place-one : {t : Table} {b : List ℕ} {u s x : ℕ} → InOrder t b → Place t b u s → Place t b u x → s ≡ x
place-one {s = s} {x = x} o p q = (o.layout (omega (arith, p.slot.low))).single s x p.slot.low q.slot.low p.slot.used q.slot.used (p.slot.vertex ∙ sym q.slot.vertex)

pub order-single : {t : Table} {b : List ℕ} → InOrder t b → Single t.capacity (cols t.slots b).w
order-single o s x ls = (o.layout (omega arith)).single s x ls

-- numbers from 65,536 on are no vertices
pub high-absent : {t : Table} {b : List ℕ} {u : ℕ} → InOrder t b → 65536 ≤ u → map_of t b u ≡ absent
unfolding map_of
high-absent {t} {b} {u} o h = entry_vacant (lookup-none t.capacity (cols t.slots b).w u (λ i l n e. omega (arith, vertex-low (at (cols t.slots b).w i))))

-- what the answer of `find` tells in each of its cases
pub found-place : {t : Table} {b : List ℕ} {u s : ℕ} {f : Option ℕ} → FoundIs t b u f → f ≡ Some s → Place t b u s
unfolding FoundIs
found-place {t} {b} {u} h e = subst (FoundIs t b u) e h

pub found-absent : (t : Table) (b : List ℕ) (u : ℕ) {f : Option ℕ} → FoundIs t b u f → f ≡ None → map_of t b u ≡ absent
unfolding FoundIs
found-absent t b u h e = subst (FoundIs t b u) e h

-- and what it tells to who asks only whether there is a slot
pub found-nowhere : (t : Table) (b : List ℕ) (u : ℕ) (f : Option ℕ) {r : Bool} → FoundIs t b u f → is_some f ≡ not r → r ≡ true → map_of t b u ≡ absent
unfolding FoundIs
found-nowhere t b u None h e q = h
found-nowhere t b u (Some s) h e q = never refl (e ∙ ap not q)

pub found-somewhere : (t : Table) (b : List ℕ) (u : ℕ) (f : Option ℕ) {r : Bool} → FoundIs t b u f → is_some f ≡ not r → r ≡ false → (s : ℕ) × Place t b u s
unfolding FoundIs
found-somewhere t b u None h e q = never refl (sym (e ∙ ap not q))
found-somewhere t b u (Some s) h e q = (s, h)

module _ {t : Table} {b : List ℕ} (o : InOrder t b) where
  pub free-some : size (map_of t b) < t.capacity → 0 < t.free
  free-some h = omega (arith, o.counted)

  pub found-not : {u : ℕ} → Missing t.capacity (cols t.slots b).w u → FoundIs t b u None
  unfolding FoundIs map_of
  found-not {u} f = entry_vacant (lookup-none t.capacity (cols t.slots b).w u f)

  pub found_at : {u s : ℕ} → At t.capacity (cols t.slots b).w u s → FoundIs t b u (Some s)
  unfolding FoundIs
  found_at p = record { slot = p }

  pub found_none : {u s : ℕ} → Slot t.capacity (cols t.slots b).w u s → s ≡ t.capacity → FoundIs t b u None
  found_none (inl p) e = absurd (omega (arith, p.low))
  found_none (inr p) e = found-not p.1

  pub found_some : {u s : ℕ} → Slot t.capacity (cols t.slots b).w u s → s ≢ t.capacity → FoundIs t b u (Some s)
  found_some (inl p) e = found_at p
  found_some (inr p) e = absurd (e p.0)

  pub missing-here : {u : ℕ} → map_of t b u ≡ absent → Missing t.capacity (cols t.slots b).w u
  unfolding map_of
  missing-here {u} e = lookup-missing t.capacity (cols t.slots b).w u (absent-vacant (lookup t.capacity (cols t.slots b).w u) e)

  -- u is at s, whose word is w
  module _ {u s : ℕ} (p : Place t b u s) where
    pub place-pos : 0 < t.capacity
    place-pos = omega (arith, p.slot.low)

    pub place-low : s < t.slots
    place-low = omega (arith, p.slot.low, o.slotted.fits)

    pub place-vertex : u < 65536
    place-vertex = rw (← p.slot.vertex) (vertex-low (at (cols t.slots b).w s))

    pub place-entry : {w : ℕ} → w ≡ at (cols t.slots b).w s → map_of t b u ≡ known (distance_in w) (state_in w) (remaining_in w)
    unfolding map_of
    place-entry {w} e = ap entry_in (lookup-at (o.layout place-pos).single p.slot ∙ sym e) ∙ entry-used w (λ z. p.slot.used (sym e ∙ z))

    pub place-distance : {w : ℕ} → w ≡ at (cols t.slots b).w s → distance_of (map_of t b u) ≡ distance_in w
    unfolding distance_of
    place-distance e = ap distance_of (place-entry e)

    pub place-state : {w : ℕ} → w ≡ at (cols t.slots b).w s → state_of (map_of t b u) ≡ state_in w
    unfolding state_of
    place-state e = ap state_of (place-entry e)

    pub place-remaining : {w : ℕ} → w ≡ at (cols t.slots b).w s → remaining_of (map_of t b u) ≡ remaining_in w
    unfolding remaining_of
    place-remaining e = ap remaining_of (place-entry e)

    pub place-one-more : one (map_of t b u) ≡ 1
    unfolding one
    place-one-more = ap one (place-entry refl)

    -- another word of u, or none, fits at s
    pub place-fit : {w : ℕ} → (w ≢ vacant → vertex_in w ≡ u) → Fit t.capacity (cols t.slots b).w s w u
    place-fit f = record {
      low = p.slot.low;
      inside = omega (arith, (sized t.slots b).w, o.slotted.fits);
      old = λ n. p.slot.vertex;
      new = f;
      other = λ i l ne n e. ne ((o.layout place-pos).single i s l p.slot.low n p.slot.used (e ∙ sym p.slot.vertex));
    }

  -- a word of u, who is not there, fits at a vacant slot
  pub new-fit : {u s w : ℕ} → map_of t b u ≡ absent → s < t.capacity → at (cols t.slots b).w s ≡ vacant → vertex_in w ≡ u → Fit t.capacity (cols t.slots b).w s w u
  new-fit {u} e l v f = record {
    low = l;
    inside = omega (arith, (sized t.slots b).w, o.slotted.fits);
    old = λ n. absurd (n v);
    new = λ n. f;
    other = λ i li ne n. missing-here e i li n;
  }

  -- the word w at slot s, with the layout in order again
  module _ {u s w top free : ℕ} {e : Entry} (b' : List ℕ) (lu : u < 65536) (f : Fit t.capacity (cols t.slots b).w s w u) (len : length b' ≡ length b)
      (words : (cols t.slots b').w ≡ set (cols t.slots b).w s w) (is : entry_in w ≡ e) (layout : Layout (numbers t top free) (cols t.slots b'))
      (count : free + one e ≡ t.free + one (map_of t b u)) where
    single : Single t.capacity (cols t.slots b).w
    single = (o.layout (omega (arith, f.low))).single

    map_is : map_of (numbers t top free) b' ≡ put (map_of t b) u e
    unfolding map_of
    map_is = fun_ext (λ v. ap (λ (Y : List ℕ). entry_in (lookup t.capacity Y v)) words ∙ set-map f single v ∙ ap (λ (x : Entry). put (λ x. entry_in (lookup t.capacity (cols t.slots b).w x)) u x v) is)

    counted : size (map_of (numbers t top free) b') + free ≡ t.capacity
    unfolding size
    counted = let a = ap (λ (m : Map). size_to 65536 m) map_is in omega (arith, size-put 65536 (map_of t b) u e lu, o.counted)

    stays : (v x : ℕ) → put (map_of t b) u e v ≢ absent → Place t b v x → Place (numbers t top free) b' v x
    stays v x n p = record { slot = rw words (go (ℕ_discrete x s)) }
      where
        go : Dec (x ≡ s) → At t.capacity (set (cols t.slots b).w s w) v x
        go (yes q) =
            let vu : v ≡ u = sym p.slot.vertex ∙ ap (λ (i : ℕ). vertex_in (at (cols t.slots b).w i)) q ∙ f.old (λ z. p.slot.used (ap (at (cols t.slots b).w) q ∙ z)) in
            let nw : w ≢ vacant = λ z. n (put_same (map_of t b) u e v vu ∙ sym is ∙ entry_vacant z) in
            rw (vu, q) (set_at f nw)
        go (no ne) = set-stays f ne p.slot

    pub gives : Gives t (numbers t top free) b b' (put (map_of t b) u e)
    gives = record {
      holds = record {
        order = record {
          slotted = record { len = len ∙ o.slotted.len; fits = o.slotted.fits; small = o.slotted.small };
          roomy = record { low = o.roomy.low; fits = o.roomy.fits; small = o.roomy.small; mask = o.roomy.mask };
          layout = λ h. layout;
          counted = counted;
        };
        map = map_is;
      };
      room = refl;
      stays = stays;
    }

-- the vertex u at s gets another word
pub gives-changed : {t : Table} {b b' : List ℕ} {u s v w : ℕ} {e : Entry} → InOrder t b → Place t b u s → v ≡ at (cols t.slots b).w s → w ≢ vacant → vertex_in w ≡ vertex_in v → entry_in w ≡ e
    → Changed t.capacity s w (cols t.slots b) (cols t.slots b') → length b' ≡ length b → Gives t t b b' (put (map_of t b) u e)
unfolding one
gives-changed {t} {b} {b'} {u} {s} {v} {w} {e} o p ev nw vert is ch len =
    let f : Fit t.capacity (cols t.slots b).w s w u = place-fit o p (λ z. vert ∙ ap vertex_in ev ∙ p.slot.vertex) in
    gives o {e = e} b' (place-vertex o p) f len ch.w is (change-layout (o.layout (place-pos o p)) f p.slot.used nw ch)
    (omega (arith, place-one-more o p, ap one (sym is ∙ entry-used w nw)))

-- a new vertex u at the top of the vacant slots
pub gives-new : {t : Table} {b b' : List ℕ} {c : Cols} {u w y d x n : ℕ} → InOrder t b → map_of t b u ≡ absent → size (map_of t b) < t.capacity → u < 65536 → vertex_in w ≡ u → entry_in w ≡ known d x n
    → Linked t.capacity t.mask t.top w (cols t.slots b) c → Changed t.capacity t.top w c (cols t.slots b') → y ≡ at (cols t.slots b).n t.top → length b' ≡ length b
    → Gives t (numbers t (y % 65536) (t.free - 1)) b b' (put (map_of t b) u (known d x n))
unfolding one
gives-new {t} {b} {b'} {c} {u} {w} {y} {d} {x} {n} o off room lu vert is lk ch ey len =
    let ps = o.layout (omega arith) in
    let pp = pops ps (free-some o room) in
    let f : Fit t.capacity (cols t.slots b).w t.top w u = new-fit o off pp.low pp.empty vert in
    gives o {e = known d x n} b' lu f len (insert-words ps o.slotted.small (free-some o room) f lk ch) is (insert-layout ps o.slotted.small (free-some o room) f lk ch ey)
    (omega (arith, free-some o room, ap one off))

-- the vertex u at s has gone
pub gives-gone : {t : Table} {b b' : List ℕ} {c₁ c₂ : Cols} {u s : ℕ} → InOrder t b → Place t b u s → Sized t.slots c₁ → Linked t.capacity t.mask s vacant (cols t.slots b) c₁
    → Changed t.capacity s vacant c₁ c₂ → cols t.slots b' ≡ set_n c₂ s t.top → length b' ≡ length b → Gives t (numbers t s (t.free + 1)) b b' (put (map_of t b) u absent)
unfolding one
gives-gone {t} {b} {b'} {c₁} {c₂} {u} {s} o p sz lk ch e len =
    let ps = o.layout (place-pos o p) in
    let f : Fit t.capacity (cols t.slots b).w s vacant u = place-fit o p (λ z. absurd (z refl)) in
    let l : s < length c₁.n = omega (arith, sz.n, place-low o p) in
    gives o {e = absent} b' (place-vertex o p) f len (drop-words ps o.slotted.small f p.slot.used lk l ch e) (entry_vacant refl)
    (drop-layout ps o.slotted.small f p.slot.used lk l ch e) (omega (arith, place-one-more o p))

-- nothing was changed
pub gives_same : {t : Table} {b : List ℕ} {m : Map} → InOrder t b → m ≡ map_of t b → Gives t t b b m
gives_same {t} {b} {m} o e = record { holds = record { order = o; map = sym e }; room = refl; stays = λ v s n p. p }

-- a table without slots is in order and empty, whatever the bytes are
pub start-holds : {t : Table} {b : List ℕ} → Slotted t.slots t.capacity b → Roomy t → t.capacity ≡ 0 → t.free ≡ 0 → Holds t b empty
unfolding map_of empty size
start-holds {t} {b} slotted roomy none free = record {
  order = record { slotted = slotted; roomy = roomy; layout = λ h. absurd (omega arith); counted = omega (arith, size-empty 65536 (map_of t b) nobody) };
  map = fun_ext nobody;
}
  where
    nobody : (u : ℕ) → map_of t b u ≡ absent
    nobody u = entry_vacant (lookup-none t.capacity (cols t.slots b).w u (λ i l n. absurd (omega arith)))

-- one change after another
pub gives_then : {t g r : Table} {b c d : List ℕ} {m : Map} → InOrder t b → Gives t g b c (map_of t b) → Gives g r c d m → Gives t r b d m
unfolding one
gives_then o p q = record {
  holds = q.holds;
  room = q.room ∙ p.room;
  stays = λ v s n l. q.stays v s n (p.stays v s (λ e. absurd (omega (arith, place-one-more o l, ap one e))) l);
}
