-- The map of the definitions: its size, its records, and its foremost entry. Assumes nothing.
use mathlib.Core.Path.{◌≡◌, refl, sym, ap, ap₂, ◌∙◌}
use mathlib.Core.Logic.{◌⊎◌, inl, inr, ⊎_elim}
use mathlib.Core.Bool.{Bool, true, false, not, cond, ◌&&◌}
use mathlib.Core.List.{List, [], ◌∷◌, ◌++◌, append-nil}
use Prim.Native.Nat.{ℕ, zero, suc, ◌*◌, ◌≤◌, ◌<◌}
use native.Mathlib.Omega.{arith}
use lib.ListN.{length, length-append}
use borrow.Author.Tests.{le-ltb, ne_eqb}
use Rattle.journeys.specs.Counting.{none, joined, count}
use Rattle.journeys.specs.Network.{Network, Held, within, into, known as known_at, remaining, met, spent, held, row, entry, held_list}
use Rattle.journeys.proofs.Tests.{never, and_left, le-or-lt, same-or-below}
use Rattle.journeys.proofs.Counting.{none-count}
use Rattle.journeys.proofs.Known.{is_within, not_within, Next, Bound}
use Rattle.journeys.proofs.Place.{key, key-less}
use Rattle.journeys.proofs.Held.{held_next, near-held}
use Rattle.worktable.specs.Map as map
use Rattle.worktable.specs.Map.{distance_of, state_of, size_to, size, rows_to, rows, Waits, Foremost}
use Rattle.heldmap.specs.Model.{as_entry, held_map}

-- no vertex beyond the table is met
abbrev pub Bounded : Network → Type 0
Bounded G = ((u : ℕ) → G.vertices ≤ u → none ≤ G.seed u) × ((r : ℕ) → r < G.records → G.from r < G.vertices)

key-order : (n d e v u : ℕ) → d ≡ e → v ≤ u → key n d v ≤ key n e u
unfolding key
key-order n d e v u q h = omega (arith, ap (λ (x : ℕ). x * n) q)

module _ (G : Network) (far : ℕ → ℕ) (low : Bounded G) where
  beyond-unmet : (u : ℕ) → G.vertices ≤ u → met G far u ≡ false
  unfolding met into
  beyond-unmet u h =
      let none-into : count (into G far u) G.records ≡ 0 = none-count (into G far u) G.records (λ r l. and_left (within far (G.to r)) (ne_eqb (G.from r) u (omega (arith, low.1 r l)))) in
      rw (none-into, le-ltb (G.seed u) none (low.0 u h))

  pub beyond-absent : (u : ℕ) → G.vertices ≤ u → entry G far u ≡ []
  unfolding entry held
  beyond-absent u h = rw (beyond-unmet u h)

  pub beyond-none : (u : ℕ) → G.vertices ≤ u → held_map G far u ≡ map.absent
  unfolding held_map
  beyond-none u h = ap as_entry (beyond-absent u h)

  one_entry : (u : ℕ) → map.one (as_entry (entry G far u)) ≡ length (entry G far u)
  unfolding entry map.one
  one_entry u = go (held G far u) (row G far u)
    where
      go : (t : Bool) (x : Held) → map.one (as_entry (cond t (x ∷ []) [])) ≡ length (cond t (x ∷ []) [])
      go true x = refl
      go false x = refl

  row-entry : (u : ℕ) → map.row u (as_entry (entry G far u)) ≡ entry G far u
  unfolding entry row map.row
  row-entry u = go (held G far u)
    where
      x : Held
      x = record { vertex = u; distance = known_at G far u; state = cond (within far u) 1 0; remaining = remaining G far u }

      go : (t : Bool) → map.row u (as_entry (cond t (x ∷ []) [])) ≡ cond t (x ∷ []) []
      go true = refl
      go false = refl

  size-to : (n : ℕ) → size_to n (held_map G far) ≡ length (joined (entry G far) n)
  unfolding size_to held_map joined
  size-to zero = refl
  size-to (suc n) = omega (arith, size-to n, one_entry n, length-append (joined (entry G far) n) (entry G far n))

  rows-to : (n : ℕ) → rows_to n (held_map G far) ≡ joined (entry G far) n
  unfolding rows_to held_map joined
  rows-to zero = refl
  rows-to (suc n) = ap₂ (λ (x y : List Held). x ++ y) (rows-to n) (row-entry n)

  joined-beyond : (n : ℕ) → G.vertices ≤ n → joined (entry G far) n ≡ joined (entry G far) G.vertices
  unfolding joined
  joined-beyond zero h = ap (joined (entry G far)) (let e : 0 ≡ G.vertices = omega arith in e)
  joined-beyond (suc n) h =
      ⊎_elim (λ (e : G.vertices ≡ suc n). ap (joined (entry G far)) (sym e))
      (λ (l : G.vertices < suc n).
      let a : G.vertices ≤ n = omega arith in
      ap (λ (y : List Held). joined (entry G far) n ++ y) (beyond-absent n a) ∙ append-nil (joined (entry G far) n) ∙ joined-beyond n a)
      (same-or-below h)

  -- As many entries as the held list has records, and these are its records.
  pub size-held : G.vertices ≤ 65536 → size (held_map G far) ≡ length (held_list G far)
  unfolding size held_list
  size-held h = size-to 65536 ∙ ap length (joined-beyond 65536 h)

  pub rows-held : G.vertices ≤ 65536 → rows (held_map G far) ≡ held_list G far
  unfolding rows held_list
  rows-held h = rows-to 65536 ∙ joined-beyond 65536 h

  -- ---- the foremost entry
  waits-is : (u e : ℕ) → Waits (held_map G far) u e → (none ≤ far u) × (known_at G far u ≡ e) × (held G far u ≡ true)
  unfolding held_map entry row state_of distance_of
  waits-is u e w = go (held G far u) refl (within far u) refl w.unsettled w.at
    where
      Goal : Type 0
      Goal = (none ≤ far u) × (known_at G far u ≡ e) × (held G far u ≡ true)

      x : Bool → Held
      x s = record { vertex = u; distance = known_at G far u; state = cond s 1 0; remaining = remaining G far u }

      go : (t : Bool) → held G far u ≡ t → (s : Bool) → within far u ≡ s → state_of (as_entry (cond t (x s ∷ []) [])) ≡ 0 → distance_of (as_entry (cond t (x s ∷ []) [])) ≡ e → Goal
      go true h true q a b = absurd (let z : ⊥ = omega arith in z)
      go true h false q a b = (⊎_elim (λ (l : none ≤ far u). l) (λ (l : far u < none). never (is_within far u l) q) (le-or-lt none (far u)), b, h)
      go false h s q a b = absurd (let z : ⊥ = omega (arith, w.some) in z)

  is-waiting : (u : ℕ) → none ≤ far u → known_at G far u < none → held G far u ≡ true → Waits (held_map G far) u (known_at G far u)
  unfolding held_map entry row state_of distance_of
  is-waiting u out some h = record { unsettled = rw (h, not_within far u out); at = rw h; some = some }

  held_low : (u : ℕ) → held G far u ≡ true → u < G.vertices
  unfolding held
  held_low u h =
      ⊎_elim (λ (l : G.vertices ≤ u). never h (and_left (not (spent G.allowed (within far u) (known_at G far u) (remaining G far u))) (beyond-unmet u l))) (λ (l : u < G.vertices). l) (le-or-lt G.vertices u)

  -- The foremost entry, if within D, is the next vertex.
  pub foremost-next : (v d : ℕ) → Foremost (held_map G far) v d → d ≤ G.allowed → Next G far v × (known_at G far v ≡ d)
  foremost-next v d f near =
      let w = waits-is v d f.waits in
      let some : known_at G far v < none = omega (arith, f.waits.some, w.1) in (
        held_next G far v (held_low v w.2) w.0 some (omega (arith, w.1))
            (λ u un uo h. ⊎_elim (λ (q : none ≤ known_at G far u). let l : known_at G far v < known_at G far u = omega arith in omega (arith, key-less G.vertices {v = v} u (held_low v w.2) l))
            (λ (q : known_at G far u < none). before u (known_at G far u) (f.first u (known_at G far u) (is-waiting u uo q h)) w.1)
            (le-or-lt none (known_at G far u))),
        w.1,
      )
    where
      before : (u e : ℕ) → (d < e) ⊎ ((d ≡ e) × (v ≤ u)) → known_at G far v ≡ d → key G.vertices (known_at G far v) v ≤ key G.vertices e u
      before u e (inl l) q = omega (arith, key-less G.vertices {v = v} {d = known_at G far v} {d' = e} u (held_low v (waits-is v d f.waits).2) (let z : known_at G far v < e = omega arith in z))
      before u e (inr x) q = key-order G.vertices (known_at G far v) e v u (q ∙ x.0) x.1

  -- Where no entry waits at D or less, nothing outside S is known within D: whoever is known within D is held.
  pub none-waits : G.allowed < none → ((u e : ℕ) → Waits (held_map G far) u e → G.allowed < e) → Bound G far (suc G.allowed)
  none-waits small h u un uo =
      ⊎_elim
      (λ (q : known_at G far u ≤ G.allowed). h u (known_at G far u) (is-waiting u uo (omega arith) (near-held G far u uo (omega arith) q)))
      (λ (q : G.allowed < known_at G far u). q)
      (le-or-lt (known_at G far u) G.allowed)
