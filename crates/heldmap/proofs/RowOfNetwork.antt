-- A row of records and the records of a network that lead to one vertex: passing the one is going through the other. Assumes nothing.
-- It is over any network, so that the ordinary row and the courier's are two instances.
use mathlib.Core.Path.{◌≡◌, refl, sym, ap, ap₂, subst, ◌∙◌}
use mathlib.Core.Logic.{⊎_elim, ◌≢◌}
use mathlib.Core.Bool.{Bool, true, false, cond, ◌&&◌}
use mathlib.Core.List.{List, [], ◌∷◌}
use Prim.Native.Nat.{ℕ, zero, suc, ◌≤◌, ◌<◌}
use native.Mathlib.Omega.{arith}
use native.Mathlib.Decide.{ℕ_discrete}
use lib.Dec.{eqb}
use borrow.Author.Tests.{eq-eqb, eqb-true}
use Rattle.journeys.specs.Counting.{none, count, one}
use Rattle.journeys.specs.Order.{Settled}
use Rattle.journeys.specs.Network as network
use Rattle.journeys.specs.Network.{Network, Held, distance_in, within, remaining, held, row, entry}
use Rattle.journeys.proofs.Tests.{le-or-lt, and_both, split}
use Rattle.journeys.proofs.Counting.{count-grows, none-count}
use Rattle.journeys.proofs.Ways.{Ways, Laws, Loopless}
use Rattle.journeys.proofs.Known.{upd, Next}
use Rattle.journeys.proofs.Step.{toward, toward-skip, remaining-step}
use Rattle.journeys.proofs.Greedy.{State}
use Rattle.journeys.proofs.Held.{departs, departs-is, partway-none, partway-all}
use Rattle.worktable.specs.Map.{Entry, Map, put}
use Rattle.passing.specs.Row.{Row}
use Rattle.meeting.specs.Passing as passing
use Rattle.heldmap.specs.Model.{as_entry, held_map}
use Rattle.heldmap.proofs.ArrivingRun.{climbs-to}
use Rattle.heldmap.proofs.MapAfterSettling.{midway, midway-skip, midway-step}

-- The first n records of R are those of G that lead to x, each at its number and with what it offers where x has the distance d.
pub record IsRow (G : Network) (x d : ℕ) (R : Row) (n : ℕ) : Type 0 where
  pub number : ℕ → ℕ
  pub ascends : (j : ℕ) → suc j < n → number j < number (suc j)
  pub low : (j : ℕ) → j < n → number j < G.records
  pub leads : (j : ℕ) → j < n → G.to (number j) ≡ x
  pub elsewhere : (k : ℕ) → k < G.records → ((j : ℕ) → j < n → number j ≢ k) → G.to k ≢ x
  pub from : (j : ℕ) → j < n → R.from j ≡ G.from (number j)
  pub offer : (j : ℕ) → j < n → R.offer j ≡ G.offer (number j) d
  pub small : (j : ℕ) → j < n → G.offer (number j) d ≤ none
  pub departing : (u : ℕ) → u < G.vertices → R.departing u ≡ departs G u
  pub allowed : R.allowed ≡ G.allowed

module _ (G : Network) (W : Ways) (L : Laws G W) (loopless : Loopless G) {S : List Settled} (s : State G W S) (x : ℕ) (X : Next G (distance_in S) x) (R : Row) (n : ℕ)
    (I : IsRow G x (network.known G (distance_in S) x) R n) where
  abbrev d : ℕ
  d = network.known G (distance_in S) x

  abbrev mid : ℕ → Map
  mid k = midway G W L loopless s x X k

  -- the number behind the first j records
  behind : ℕ → ℕ
  behind zero = 0
  behind (suc j) = suc (I.number j)

  ordered : (i j : ℕ) → i ≤ j → j < n → I.number i ≤ I.number j
  ordered = climbs-to I.number n (λ i l. omega (arith, I.ascends i l))

  -- no record between the first j and the next leads to x
  gap : (j k : ℕ) → j < n → behind j ≤ k → k < I.number j → G.to k ≢ x
  unfolding behind
  gap j k l a b = I.elsewhere k (omega (arith, I.low j l)) (λ i il. apart j l a b i il)
    where
      apart : (j : ℕ) → j < n → behind j ≤ k → k < I.number j → (i : ℕ) → i < n → I.number i ≢ k
      apart zero l a b i il e = omega (arith, ordered 0 i (omega arith) il)
      apart (suc j) l a b i il e =
          ⊎_elim (λ (q : i ≤ j). let z : ⊥ = omega (arith, ordered i j q (omega arith)) in z)
          (λ (q : j < i). let z : ⊥ = omega (arith, ordered (suc j) i (let p : suc j ≤ i = omega arith in p) il) in z)
          (le-or-lt i j)

  rest : (j k : ℕ) → j ≡ n → behind j ≤ k → k < G.records → G.to k ≢ x
  unfolding behind
  rest j k e a b = I.elsewhere k b (λ i il. apart j e a i il)
    where
      apart : (j : ℕ) → j ≡ n → behind j ≤ k → (i : ℕ) → i < n → I.number i ≢ k
      apart zero e a i il q = omega arith
      apart (suc j) e a i il q = omega (arith, ordered i j (let p : i ≤ j = omega arith in p) (omega arith))

  behind-low : (j : ℕ) → j ≤ n → behind j ≤ G.records
  unfolding behind
  behind-low zero l = omega arith
  behind-low (suc j) l = omega (arith, I.low j l)

  behind-next : (j : ℕ) → j < n → behind j ≤ I.number j
  unfolding behind
  behind-next zero l = omega arith
  behind-next (suc j) l = omega (arith, I.ascends j l)

  -- ---- one record passed
  pass-one : (j : ℕ) → j < n → put (mid (I.number j)) (R.from j) (passing.meets R j (mid (I.number j) (R.from j))) ≡ mid (suc (I.number j))
  pass-one j l =
      let k : ℕ = I.number j in
      let q : R.departing (R.from j) ≡ departs G (G.from k) = ap R.departing (I.from j l) ∙ I.departing (G.from k) (L.from_low k (I.low j l)) in
      rw (I.allowed, I.offer j l, q, I.from j l) (sym (midway-step G W L loopless s x X k (I.low j l) (I.leads j l) (I.small j l)))

  -- ---- all of them
  pass-first : (j : ℕ) → j ≤ n → passing.passed R j (mid 0) ≡ mid (behind j)
  unfolding passing.goes behind
  pass-first zero l = refl
  pass-first (suc j) l =
      ap (λ (m : Map). put m (R.from j) (passing.meets R j (m (R.from j))))
      (pass-first j (omega arith) ∙ sym (midway-skip G W L loopless s x X (behind j) (I.number j) (behind-next j l) (λ k a b. gap j k l a b)))
      ∙ pass-one j l

  -- When the row has been passed, the map is that of S with x.
  pub pass_all : (u : ℕ) → passing.passed R n (mid 0) u ≡ held_map G (upd (distance_in S) x d) u
  unfolding midway held_map
  pass_all u =
      ap (λ (m : Map). m u) (pass-first n (omega arith) ∙ sym (midway-skip G W L loopless s x X (behind n) G.records (behind-low n (omega arith)) (λ k a b. rest n k refl a b)))
      ∙ ap as_entry (partway-all G (distance_in S) x d X.out X.some u)

  -- ---- how many records of the row leave u
  leads-here : (u k : ℕ) → G.to k ≡ x → toward G x u k ≡ eqb (G.from k) u
  unfolding toward
  leads-here u k t = ap (λ (b : Bool). eqb (G.from k) u && b) (eq-eqb (G.to k) x t) ∙ and_yes (eqb (G.from k) u)
    where
      and_yes : (b : Bool) → b && true ≡ b
      and_yes true = refl
      and_yes false = refl

  leave-first : (u j : ℕ) → j ≤ n → passing.leaving R u j ≡ count (toward G x u) (behind j)
  unfolding count behind
  leave-first u zero l = refl
  leave-first u (suc j) l =
      let c : one (eqb (R.from j) u) ≡ one (toward G x u (I.number j)) = ap one (ap (λ (z : ℕ). eqb z u) (I.from j l) ∙ sym (leads-here u (I.number j) (I.leads j l))) in
      let g = toward-skip G x (behind j) (I.number j) (behind-next j l) (λ k a b. gap j k l a b) u in
      omega (arith, leave-first u j (let q : j ≤ n = omega arith in q), c, g)

  leave-all : (u : ℕ) → passing.leaving R u n ≤ count (toward G x u) G.records
  leave-all u = omega (arith, leave-first u n (let q : n ≤ n = omega arith in q), count-grows (toward G x u) (behind n) G.records (behind-low n (omega arith)))

  -- u has no such record if it is x itself or no vertex
  none-toward : (u : ℕ) → ((k : ℕ) → k < G.records → G.from k ≡ u → G.to k ≡ x → ⊥) → count (toward G x u) G.records ≡ 0
  unfolding toward
  none-toward u h =
      none-count (toward G x u) G.records
      (λ k l. ⊎_elim (λ (e : toward G x u k ≡ true). absurd (let p = and_both (eqb (G.from k) u) _ e in h k l (eqb-true _ _ p.0) (eqb-true _ _ p.1))) (λ (e : toward G x u k ≡ false). e) (split (toward G x u k)))

  -- the entries of the others are those of S
  other-entry : (u : ℕ) → u ≢ x → mid 0 u ≡ held_map G (distance_in S) u
  unfolding midway held_map
  other-entry u n = ap as_entry (partway-none G (distance_in S) x d X.out X.some u n)

  by-entry : (u : ℕ) {c : ℕ} → c ≤ remaining G (distance_in S) u → c ≤ R.departing u → c ≤ passing.left (R.departing u) (held_map G (distance_in S) u)
  unfolding held_map entry row passing.left
  by-entry u {c} a b = go (held G (distance_in S) u)
    where
      y : Held
      y = record { vertex = u; distance = network.known G (distance_in S) u; state = cond (within (distance_in S) u) 1 0; remaining = remaining G (distance_in S) u }

      go : (t : Bool) → c ≤ passing.left (R.departing u) (as_entry (cond t (y ∷ []) []))
      go true = a
      go false = b

  -- No vertex has more records in the row than remain to it.
  pub enough : passing.Enough R n (mid 0)
  enough u = omega (arith, leave-all u, go (ℕ_discrete u x))
    where
      held-left : count (toward G x u) G.records ≤ remaining G (distance_in S) u
      held-left = omega (arith, remaining-step G (distance_in S) x d X.out X.some u)

      absent-left : count (toward G x u) G.records ≤ R.departing u
      absent-left =
          ⊎_elim (λ (l : G.vertices ≤ u). omega (arith, none-toward u (λ k kl f t. absurd (let z : ⊥ = omega (arith, L.from_low k kl) in z))))
          (λ (l : u < G.vertices). omega (arith, held-left, I.departing u l, departs-is G (distance_in S) u))
          (le-or-lt G.vertices u)

      go : Dec (u ≡ x) → count (toward G x u) G.records ≤ passing.left (R.departing u) (mid 0 u)
      go (yes e) = omega (arith, none-toward u (λ k kl f t. loopless k kl (f ∙ e ∙ sym t)))
      go (no n) = subst (λ (y : Entry). count (toward G x u) G.records ≤ passing.left (R.departing u) y) (sym (other-entry u n)) (by-entry u held-left absent-left)
