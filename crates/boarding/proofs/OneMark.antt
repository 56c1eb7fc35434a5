-- One hop more is marked: what is known changes for the vertex that it leaves, if it leads into S. With `Step.Known-step` that is all a step of the search has to tell. Assumes nothing.
use mathlib.Core.Path.{◌≡◌, refl, sym, ap, ◌∙◌}
use mathlib.Core.Logic.{⊎_elim, ◌≢◌}
use mathlib.Core.Bool.{Bool, true, false, cond, ◌&&◌}
use Prim.Native.Nat.{ℕ, ◌+◌, ◌-◌, ◌≤◌, ◌<◌, min}
use native.Mathlib.Omega.{arith}
use lib.Dec.{eqb, leb}
use borrow.Author.Tests.{le-leb, eq-eqb, ne_eqb}
use Rattle.journeys.specs.Counting.{none, least}
use Rattle.journeys.specs.Tables.{Tables, hop, walk_count, hop_count}
use Rattle.journeys.specs.Query.{Query}
use Rattle.journeys.specs.Network.{within, into, offered, known}
use Rattle.journeys.specs.Records.{Record, from, to, record_at, record_count}
use Rattle.journeys.proofs.Tests.{Test, same, other, test, cond-true, cond-false, le-or-lt}
use Rattle.journeys.proofs.Counting.{least-none, least-le, least-is, least-min}
use Rattle.journeys.proofs.Known.{within-is}
use Rattle.journeys.proofs.Document.{Numbered, of-walk, of-hop, numbered}
use Rattle.boarding.specs.Rides.{Mode}
use Rattle.boarding.specs.RideJourneys.{standing}
use Rattle.boarding.proofs.Links.{pass}
use Rattle.boarding.proofs.Rides.{link_by, network_by}

-- the least of figures of which all but one are none
least-only : (f : ℕ → ℕ) (n i : ℕ) → i < n → ((r : ℕ) → r ≢ i → f r ≡ none) → least f n ≡ min none (f i)
least-only f n i l h =
    ⊎_elim (λ (q : min none (f i) ≤ least f n). omega (arith, least-none f n, least-le f n i l))
    (λ (q : least f n < min none (f i)). absurd (low (least-is f n (least f n) (omega arith) (omega arith)) q))
    (le-or-lt (min none (f i)) (least f n))
  where
    low : (r : ℕ) × (r < n) × (f r ≤ least f n) → least f n < min none (f i) → ⊥
    low x q = go (test x.0 i)
      where
        go : {t : Bool} → Test x.0 i t → ⊥
        go (same e) = let y : f i ≤ least f n = rw e at x.2 in omega arith
        go (other n) = omega (arith, x.2, h x.0 n)

-- with hop j marked, too
abbrev pub also : (ℕ → Bool) → ℕ → ℕ → Bool
also mark j i = cond (eqb i j) true (mark i)

-- a gate that is opened, behind the tests of its two ends
opened : (f w m t : Bool) (y : ℕ) → (w ≡ true → t ≡ true)
    → min none (cond (f && w) (cond (true && t) y none) none) ≡ min none (min (cond (f && w) (cond (m && t) y none) none) (cond (f && w) y none))
opened false w m t y h = omega arith
opened true false m t y h = omega arith
opened true true m t y h = rw (h refl) (go m)
  where
    go : (m : Bool) → min none y ≡ min none (min (cond (m && true) y none) y)
    go true = omega arith
    go false = omega arith

module _ (N : Tables) (Q : Query) (M : Mode) (mark : ℕ → Bool) (far : ℕ → ℕ) (j : ℕ) (l : j < hop_count N)
    (near : far (hop N j).to < none → far (hop N j).to ≤ standing Q M (hop N j).arrival) where
  -- what hop j offers u
  abbrev pub by_hop : ℕ → ℕ
  by_hop u = cond (eqb (hop N j).from u && within far (hop N j).to) (standing Q M (hop N j).departure) none

  abbrev only : ℕ → ℕ → ℕ
  only u r = cond (eqb r (walk_count N + j)) (by_hop u) none

  abbrev offer-of : (ℕ → Bool) → ℕ → ℕ → Record → ℕ
  offer-of m u r x = cond (eqb (from x) u && within far (to x)) (pass Q (link_by Q M m (r - walk_count N) x) (far (to x))) none

  unchanged : (a b c : ℕ) → a ≡ b → c ≡ none → min none a ≡ min none (min b c)
  unchanged a b c p q = omega arith

  one-record : (u r : ℕ) {x : Record} → Numbered N r x → min none (offer-of (also mark j) u r x) ≡ min none (min (offer-of mark u r x) (only u r))
  unfolding pass
  one-record u r (of-walk h) =
      let ne : r ≢ walk_count N + j = omega arith in
      unchanged _ _ _ refl (cond-false (by_hop u) none (ne_eqb r (walk_count N + j) ne))
  one-record u r (of-hop i h e) = go (test i j)
    where
      q : r - walk_count N ≡ i
      q = omega arith

      go : {t : Bool} → Test i j t → min none (offer-of (also mark j) u r (Record.ridden (hop N i))) ≡ min none (min (offer-of mark u r (Record.ridden (hop N i))) (only u r))
      go (other n) =
          let ne : r ≢ walk_count N + j = λ z. n (let w : i ≡ j = omega arith in w) in
          unchanged _ _ _ (ap (λ (b : Bool). cond (eqb (hop N i).from u && within far (hop N i).to) (cond (b && leb (far (hop N i).to) (standing Q M (hop N i).arrival)) (standing Q M (hop N i).departure) none) none) (ap (also mark j) q ∙ cond-false true (mark i) (ne_eqb i j n) ∙ ap mark (sym q)))
          (cond-false (by_hop u) none (ne_eqb r (walk_count N + j) ne))
      go (same s) =
          let o : also mark j (r - walk_count N) ≡ true = cond-true true (mark (r - walk_count N)) (eq-eqb (r - walk_count N) j (q ∙ s)) in
          let p : only u r ≡ by_hop u = cond-true (by_hop u) none (eq-eqb r (walk_count N + j) (e ∙ ap (λ (k : ℕ). walk_count N + k) s)) in
          rw (o, p, s)
          (opened (eqb (hop N j).from u) (within far (hop N j).to) (mark (r - walk_count N)) (leb (far (hop N j).to) (standing Q M (hop N j).arrival)) (standing Q M (hop N j).departure)
          (λ w. le-leb (far (hop N j).to) (standing Q M (hop N j).arrival) (near (within-is far (hop N j).to w))))

  -- Known: the lesser of what was known and what the hop offers.
  pub known-marked : (u : ℕ) → known (network_by N Q M (also mark j)) far u ≡ min (known (network_by N Q M mark) far u) (by_hop u)
  unfolding known offered into
  known-marked u =
      let a = least-min (λ r. offer-of (also mark j) u r (record_at N r)) (λ r. offer-of mark u r (record_at N r)) (only u) (record_count N) (λ r h. one-record u r (numbered N r h)) in
      let b = least-only (only u) (record_count N) (walk_count N + j) (omega arith) (λ r n. cond-false (by_hop u) none (ne_eqb r (walk_count N + j) n)) in
      let c : only u (walk_count N + j) ≡ by_hop u = cond-true (by_hop u) none (eq-eqb (walk_count N + j) (walk_count N + j) refl) in
      omega (arith, a, b, c, least-none (λ r. offer-of mark u r (record_at N r)) (record_count N))
