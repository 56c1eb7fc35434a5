-- What one step does to the map: the vertex is settled, and the records that arrive at it are passed. Assumes nothing.
use mathlib.Core.Path.{◌≡◌, refl, sym, ap, subst, fun_ext, ◌∙◌}
use mathlib.Core.Logic.{◌≢◌}
use mathlib.Core.Bool.{Bool, true, false, cond, ◌&&◌, ◌||◌}
use mathlib.Core.List.{List, [], ◌∷◌}
use Prim.Native.Nat.{ℕ, zero, suc, ◌-◌, ◌≤◌, ◌<◌, min}
use native.Mathlib.Omega.{arith}
use native.Mathlib.Decide.{ℕ_discrete}
use lib.Dec.{eqb, ltb}
use borrow.Author.Tests.{eq-eqb, ne_eqb}
use Rattle.journeys.specs.Counting.{none, least, count}
use Rattle.journeys.specs.Order.{Settled}
use Rattle.journeys.specs.Network as network
use Rattle.journeys.specs.Network.{Network, Held, distance_in, within, remaining, entry, met, row}
use Rattle.journeys.proofs.Tests.{and_left, and-true}
use Rattle.journeys.proofs.Ways.{Ways, Laws, Loopless}
use Rattle.journeys.proofs.Known.{upd, not_within, Next}
use Rattle.journeys.proofs.Step.{toward, through, toward-other}
use Rattle.journeys.proofs.Greedy.{State}
use Rattle.journeys.proofs.Held.{departs, slot, touch, partway, partway-skip, partway-none, partway-settled, partway-touch, near-held, slot-some, toward-left}
use Rattle.worktable.specs.Map.{Entry, absent, known, Map, put, settled, distance_of, remaining_of}
use Rattle.worktable.proofs.MapLaws.{put_same, put_other}
use Rattle.worktable.specs.Map as map
use Rattle.meeting.specs.Passing as passing
use Rattle.heldmap.specs.Model.{as_entry, held_map}

-- ---- entries by their parts
pub slot-entry : (G : Network) (u d n : ℕ) (state : Bool) → as_entry (slot G u d state n) ≡ map.swept G.allowed (known d (cond state 1 0) n)
unfolding slot map.swept map.spent
slot-entry G u d n true = go (eqb n 0)
  where
    go : (b : Bool) → as_entry (cond (b && true) [] (record { vertex = u; distance = d; state = 1; remaining = n } ∷ [])) ≡ cond b absent (known d 1 n)
    go true = refl
    go false = refl
slot-entry G u d n false = go (eqb n 0 && ltb G.allowed d)
  where
    go : (b : Bool) → as_entry (cond b [] (record { vertex = u; distance = d; state = 0; remaining = n } ∷ [])) ≡ cond b absent (known d 0 n)
    go true = refl
    go false = refl

-- a record that touches an entry of the definitions meets the entry of the map
touch-held : (G : Network) (u b dep d n : ℕ) (state : Bool) → 0 < n → as_entry (touch G u b dep (slot G u d state n)) ≡ passing.met G.allowed b dep (as_entry (slot G u d state n))
unfolding touch passing.met passing.entered map.touched
touch-held G u b dep d n true l = rw (slot-some G u d true n l) (slot-entry G u d (n - 1) true)
touch-held G u b dep d n false l =
    let e : min d b ≡ min b d = omega arith in
    rw (slot-some G u d false n l) (slot-entry G u (min d b) (n - 1) false ∙ ap (λ (x : ℕ). map.swept G.allowed (known x 0 (n - 1))) e)

touch-absent : (G : Network) (u b dep : ℕ) → b ≤ none → as_entry (touch G u b dep []) ≡ passing.met G.allowed b dep absent
unfolding touch passing.met passing.entered map.touched
touch-absent G u b dep h =
    slot-entry G u (min none b) (dep - 1) false ∙ ap (λ (x : ℕ). map.swept G.allowed (known x 0 (dep - 1))) (let e : min none b ≡ b = omega arith in e)

module _ (G : Network) (W : Ways) (L : Laws G W) (loopless : Loopless G) {S : List Settled} (s : State G W S) (v : ℕ) (X : Next G (distance_in S) v) where
  abbrev far : ℕ → ℕ
  far = distance_in S

  abbrev d : ℕ
  d = network.known G far v

  -- the map when v is settled and the first k records have been gone through
  unfoldable pub midway : ℕ → Map
  midway k u = as_entry (partway G far v d k u)

  -- ---- v is settled
  pub next-entry : d ≤ G.allowed → held_map G far v ≡ known d 0 (remaining G far v)
  unfolding held_map entry row
  next-entry near = rw (near-held G far v X.out X.some near, not_within far v X.out)

  settled-now : (u : ℕ) (e : Entry) → map.swept G.allowed (known d 1 (remaining G far v)) ≡ e → put (held_map G far) v e u ≡ midway 0 u
  unfolding midway held_map
  settled-now u e q = go (ℕ_discrete u v)
    where
      go : Dec (u ≡ v) → put (held_map G far) v e u ≡ as_entry (partway G far v d 0 u)
      go (yes p) =
          put_same (held_map G far) v e u p
          ∙ sym (ap (λ (x : ℕ). as_entry (partway G far v d 0 x)) p ∙ ap as_entry (partway-settled G far v d X.out X.some X.some) ∙ slot-entry G v d (remaining G far v) true ∙ q)
      go (no p) = put_other (held_map G far) v e u p ∙ ap as_entry (sym (partway-none G far v d X.out X.some u p))

  swept_kept : (n : ℕ) → 0 < n → map.swept G.allowed (known d 1 n) ≡ known d 1 n
  unfolding map.swept map.spent
  swept_kept zero h = absurd (omega arith)
  swept_kept (suc n) h = rw (ne_eqb (suc n) 0 (omega arith))

  swept-gone : (n : ℕ) → n ≡ 0 → map.swept G.allowed (known d 1 n) ≡ absent
  unfolding map.swept map.spent
  swept-gone zero e = refl
  swept-gone (suc n) e = absurd (omega arith)

  settle-entry : d ≤ G.allowed → settled (held_map G far v) ≡ known d 1 (remaining G far v)
  unfolding distance_of remaining_of
  settle-entry near = ap settled (next-entry near)

  put-again : (m : Map) (e f : Entry) (u : ℕ) → put (put m v e) v f u ≡ put m v f u
  put-again m e f u = go (ℕ_discrete u v)
    where
      go : Dec (u ≡ v) → put (put m v e) v f u ≡ put m v f u
      go (yes p) = put_same (put m v e) v f u p ∙ sym (put_same m v f u p)
      go (no p) = put_other (put m v e) v f u p ∙ put_other m v e u p ∙ sym (put_other m v f u p)

  -- Settled, and kept as long as something remains of it.
  pub settle-keeps : d ≤ G.allowed → 0 < remaining G far v → put (held_map G far) v (settled (held_map G far v)) ≡ midway 0
  settle-keeps near h = fun_ext (λ u. settled-now u (settled (held_map G far v)) (swept_kept (remaining G far v) h ∙ sym (settle-entry near)))

  pub settle-drops : remaining G far v ≡ 0 → put (put (held_map G far) v (settled (held_map G far v))) v absent ≡ midway 0
  settle-drops h = fun_ext (λ u. put-again (held_map G far) (settled (held_map G far v)) absent u ∙ settled-now u absent (swept-gone (remaining G far v) h))

  pub settle-left : d ≤ G.allowed → remaining_of (settled (held_map G far v)) ≡ remaining G far v
  unfolding remaining_of
  settle-left near = ap remaining_of (settle-entry near)

  -- ---- records that lead elsewhere change nothing
  pub midway-skip : (i j : ℕ) → i ≤ j → ((r : ℕ) → i ≤ r → r < j → G.to r ≢ v) → midway j ≡ midway i
  unfolding midway
  midway-skip i j l q = fun_ext (λ u. ap as_entry (partway-skip G far v d u i j l (λ r a b. toward-other G v u r (q r a b))))

  -- ---- a record that leads to v
  module _ (r : ℕ) (l : r < G.records) (t : G.to r ≡ v) (b : G.offer r d ≤ none) where
    other_from : (u : ℕ) → u ≢ G.from r → toward G v u r ≡ false
    unfolding toward
    other_from u n = and_left (eqb (G.to r) v) (ne_eqb (G.from r) u (λ z. n (sym z)))

    leads-here : toward G v (G.from r) r ≡ true
    unfolding toward
    leads-here = and-true (eq-eqb (G.from r) (G.from r) refl) (eq-eqb (G.to r) v t)

    met-from : midway (suc r) (G.from r) ≡ passing.met G.allowed (G.offer r d) (departs G (G.from r)) (midway r (G.from r))
    unfolding midway partway
    met-from =
        ap as_entry (partway-touch G W L loopless s v X r l t)
        ∙ go (met G far (G.from r) || ltb 0 (count (toward G v (G.from r)) r))
      where
        u : ℕ
        u = G.from r

        x : List Held
        x = slot G u (min (network.known G far u) (least (through G v d u) r)) (within (upd far v d) u) (remaining G far u - count (toward G v u) r)

        go : (m : Bool) → as_entry (touch G u (G.offer r d) (departs G u) (cond m x [])) ≡ passing.met G.allowed (G.offer r d) (departs G u) (as_entry (cond m x []))
        go true =
            touch-held G u (G.offer r d) (departs G u) (min (network.known G far u) (least (through G v d u) r)) (remaining G far u - count (toward G v u) r)
            (within (upd far v d) u) (omega (arith, toward-left G far v d X.out X.some u r l leads-here))
        go false = touch-absent G u (G.offer r d) (departs G u) b

    -- A record of u that leads to v meets u.
    pub midway-step : midway (suc r) ≡ put (midway r) (G.from r) (passing.met G.allowed (G.offer r d) (departs G (G.from r)) (midway r (G.from r)))
    unfolding midway
    midway-step = fun_ext (λ u. go u (ℕ_discrete u (G.from r)))
      where
        e : Entry
        e = passing.met G.allowed (G.offer r d) (departs G (G.from r)) (midway r (G.from r))

        go : (u : ℕ) → Dec (u ≡ G.from r) → midway (suc r) u ≡ put (midway r) (G.from r) e u
        go u (yes p) = ap (midway (suc r)) p ∙ met-from ∙ sym (put_same (midway r) (G.from r) e u p)
        go u (no p) =
            ap as_entry (partway-skip G far v d u r (suc r) (omega arith) (λ k a c. subst (λ (z : ℕ). toward G v u z ≡ false) (let q : r ≡ k = omega arith in q) (other_from u p)))
            ∙ sym (put_other (midway r) (G.from r) e u p)
