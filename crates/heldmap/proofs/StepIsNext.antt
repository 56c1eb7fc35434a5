-- One step in terms of the order: what the code's step makes of the working table is the held map of one settled vertex more. Assumes nothing.
-- It is over any network whose distances are told by journeys.
use mathlib.Core.Path.{◌≡◌, sym, ap, subst, fun_ext, ◌∙◌}
use mathlib.Core.Logic.{⊎_elim, ◌≢◌}
use mathlib.Core.List.{List, [], ◌∷◌, ◌++◌}
use Prim.Native.Nat.{ℕ, suc, ◌≤◌, ◌<◌}
use native.Mathlib.Omega.{arith}
use lib.ListN.{length, take}
use borrow.Author.Tests.{eq-eqb, ne_eqb}
use Rattle.journeys.specs.Counting.{In}
use Rattle.journeys.specs.Order.{Settled, settled, Order}
use Rattle.journeys.specs.Network as network
use Rattle.journeys.specs.Network.{Network, distance_in, remaining}
use Rattle.journeys.proofs.Tests.{cond-true, cond-false, le-or-lt}
use Rattle.journeys.proofs.Ways.{Ways, Laws, Loopless}
use Rattle.journeys.proofs.Told.{Told, order-state, next-settled}
use Rattle.journeys.proofs.Known.{upd, Next}
use Rattle.journeys.proofs.Greedy.{State}
use Rattle.journeys.proofs.Firsts.{distance-snoc}
use Rattle.worktable.specs.Map as map
use Rattle.worktable.specs.Map.{Map, remaining_of, Foremost}
use Rattle.passing.specs.Row.{Row}
use Rattle.meeting.specs.Passing as passing
use Rattle.heldmap.specs.Model.{held_map, settled_now}
use Rattle.heldmap.proofs.HeldMap.{Bounded, foremost-next}
use Rattle.heldmap.proofs.MapAfterSettling.{midway, settle-keeps, settle-drops, settle-left}
use Rattle.heldmap.proofs.RowOfNetwork.{IsRow, pass_all, enough}

-- What a search asks of a network: its distances are told by journeys, no record leads back to its own end, and no vertex beyond the table is met.
pub record Searched (G : Network) (W : Ways) (distance : ℕ → ℕ → Type 0) : Type 0 where
  pub told : Told G W distance
  pub loopless : Loopless G
  pub bounded : Bounded G

module _ (G : Network) (W : Ways) (distance : ℕ → ℕ → Type 0) (searched : Searched G W distance) {l : List Settled} (O : Order G distance G.allowed l)
    (k : ℕ) (made : k ≤ length l) (x d : ℕ) (F : Foremost (held_map G (distance_in (take k l))) x d) (near : d ≤ G.allowed) where
  abbrev far : ℕ → ℕ
  far = distance_in (take k l)

  L : Laws G W
  L = searched.told.laws

  s : State G W (take k l)
  s = order-state G W distance searched.told O k

  X : Next G far x
  X = (foremost-next G far searched.bounded x d F near).0

  at : network.known G far x ≡ d
  at = (foremost-next G far searched.bounded x d F near).1

  near' : network.known G far x ≤ G.allowed
  near' = rw at near

  -- The foremost entry is the next vertex of the order.
  pub one_further : (k < length l) × (take (suc k) l ≡ take k l ++ settled x d ∷ [])
  one_further =
      let o = next-settled G W distance searched.told O k made x X near' in
      (o.0, o.1 ∙ ap (λ (z : ℕ). take k l ++ settled x z ∷ []) at)

  -- and one of the table
  pub next_low : x < G.vertices
  next_low = X.low

  abbrev mid : ℕ → Map
  mid j = midway G W L searched.loopless s x X j

  -- Settling x in the table makes the map from which the records are passed.
  now-settled : settled_now (held_map G far) x ≡ mid 0
  unfolding settled_now
  now-settled =
      let left = settle-left G W L searched.loopless s x X near' in
      ⊎_elim
      (λ (z : remaining G far x ≤ 0).
      let e : remaining G far x ≡ 0 = omega arith in
      cond-true _ _ (eq-eqb (remaining_of (map.settled (held_map G far x))) 0 (left ∙ e)) ∙ settle-drops G W L searched.loopless s x X e)
      (λ (z : 0 < remaining G far x).
      cond-false _ _ (ne_eqb (remaining_of (map.settled (held_map G far x))) 0 (λ e. absurd (let q : ⊥ = omega (arith, left) in q))) ∙ settle-keeps G W L searched.loopless s x X near' z)
      (le-or-lt (remaining G far x) 0)

  -- x is not among the settled
  far-next : (u : ℕ) → upd far x d u ≡ distance_in (take (suc k) l) u
  far-next u = sym (ap (λ (S : List Settled). distance_in S u) one_further.1 ∙ distance-snoc (take k l) x d u fresh)
    where
      fresh : (y : Settled) → In y (take k l) → y.vertex ≢ x
      fresh y i e = omega (arith, s.small y i, rw e at (s.member y i), X.out)

  -- the records of the network that lead to x, as a row
  module _ (R : Row) (n : ℕ) (I : IsRow G x d R n) where
    here : IsRow G x (network.known G far x) R n
    here = subst (λ (z : ℕ). IsRow G x z R n) (sym at) I

    -- The map after the step.
    pub map_next : passing.passed R n (settled_now (held_map G far) x) ≡ held_map G (distance_in (take (suc k) l))
    map_next =
        ap (passing.passed R n) now-settled
        ∙ fun_ext (λ u. pass_all G W L searched.loopless s x X R n here u)
        ∙ ap (λ (z : ℕ). held_map G (upd far x z)) at
        ∙ ap (held_map G) (fun_ext far-next)

    pub enough-next : passing.Enough R n (settled_now (held_map G far) x)
    enough-next = subst (λ (m : Map). passing.Enough R n m) (sym now-settled) (enough G W L searched.loopless s x X R n here)
