-- The search of the mode from step to step: how it begins, what it settles next, how its map and its marks change inside a step, when it ends. The code has to keep these and no more. Assumes nothing.
use mathlib.Core.Path.{◌≡◌, refl, sym, ap, subst, ◌∙◌}
use mathlib.Core.Logic.{◌⊎◌, inl, inr, ⊎_elim}
use mathlib.Core.Bool.{Bool, true, false, cond}
use mathlib.Core.List.{List, [], ◌∷◌, ◌++◌}
use Prim.Native.Nat.{ℕ, suc, ◌≤◌, ◌<◌, min}
use native.Mathlib.Omega.{arith}
use lib.ListN.{length, take}
use Rattle.journeys.specs.Counting.{none, least, In}
use Rattle.journeys.specs.Tables.{Tables, hop, vertex_count, hop_count}
use Rattle.journeys.specs.Query.{Query, allowed, before}
use Rattle.journeys.specs.Settled.{Settled, settled}
use Rattle.journeys.specs.Network.{distance_in, known}
use Rattle.journeys.specs.Records.{record_count, seed}
use Rattle.journeys.specs.Valid.{Valid}
use Rattle.journeys.proofs.Tests.{never, Test, same, other, test, le-or-lt}
use Rattle.journeys.proofs.Counting.{in-snoc}
use Rattle.journeys.proofs.Known.{Next}
use Rattle.journeys.proofs.Firsts.{distance_grows}
use Rattle.journeys.proofs.Step.{through}
use Rattle.journeys.proofs.Document as document
use Rattle.boarding.specs.Rides.{Mode, Stays}
use Rattle.boarding.specs.RideOrder.{IsRideOrder}
use Rattle.boarding.proofs.Rides.{network_by}
use Rattle.boarding.proofs.Marks.{Marked, marks-all, mark-alights, mark-stays, mark-more, none-marked, known-first, marked-near, next-settled, all_settled, known-after}
use Rattle.boarding.proofs.OneMark.{also, by_hop, known-marked}
use Rattle.boarding.proofs.Kept.{Keeps, improved, kept_next, kept-bound, kept-improved}

module _ (N : Tables) (Q : Query) (M : Mode) (ok : Valid N Q) {l : List Settled} (O : IsRideOrder N Q M l) where
  -- inside and between steps, when k vertices are settled: each mark is right, and the figures of the map are what the marks make known
  pub record Underway (k : ℕ) (mark : ℕ → Bool) (f : ℕ → ℕ) : Type 0 where
    pub sound : (j : ℕ) → j < hop_count N → mark j ≡ true → Marked N Q M (take k l) j
    pub keeps : Keeps (network_by N Q M mark) (distance_in (take k l)) (allowed Q) f

  -- between steps every hop is marked that can be
  pub record Searching (k : ℕ) (mark : ℕ → Bool) (f : ℕ → ℕ) : Type 0 where
    pub some : k ≤ length l
    pub underway : Underway k mark f
    pub full : (j : ℕ) → j < hop_count N → Marked N Q M (take k l) j → mark j ≡ true

  small : allowed Q < none
  small = document.allowed-low N Q ok

  -- ---- it begins with the seeds and no mark
  pub begins : (f : ℕ → ℕ) → ((u : ℕ) → f u ≤ allowed Q → u < vertex_count N) → ((u : ℕ) → u < vertex_count N → f u ≡ seed N Q u) → Searching 0 (λ _. false) f
  unfolding distance_in
  begins f low is =
      record {
        some = omega arith;
        underway =
            record {
              sound = λ j _ e. never e refl;
              keeps =
                  record {
                    low = low;
                    out = λ u h. omega arith;
                    near = λ u un uo h. omega (arith, small, is u un, known-first N Q M (λ _. false) u);
                    above = λ u un uo h. omega (arith, small, is u un, known-first N Q M (λ _. false) u);
                  };
            };
        full = λ j _ m. absurd (none-marked N Q M j m);
      }

  module _ {k : ℕ} {mark : ℕ → Bool} {f : ℕ → ℕ} (s : Searching k mark f) where
    first-is : (v : ℕ) → f v ≤ allowed Q → ((u : ℕ) → f u ≤ allowed Q → (f v < f u) ⊎ ((f v ≡ f u) × (v ≤ u)))
        → Next (network_by N Q M mark) (distance_in (take k l)) v × (known (network_by N Q M mark) (distance_in (take k l)) v ≡ f v)
    first-is v h first = kept_next (network_by N Q M mark) (distance_in (take k l)) (allowed Q) small f s.underway.keeps v h first

    -- ---- the foremost vertex of the map, if within D, is the next of the order, with its figure
    pub settles : (v : ℕ) → f v ≤ allowed Q → ((u : ℕ) → f u ≤ allowed Q → (f v < f u) ⊎ ((f v ≡ f u) × (v ≤ u)))
        → (k < length l) × (take (suc k) l ≡ take k l ++ settled v (f v) ∷ [])
    settles v h first =
        let n = first-is v h first in
        let x = next-settled N Q M ok O k mark s.underway.sound s.full s.some v n.0 (omega (arith, n.1)) in
        (x.0, x.1 ∙ ap (λ (d : ℕ). take k l ++ settled v d ∷ []) n.1)

    -- ---- where the map has nothing within D, all is settled
    pub ends : ((u : ℕ) → allowed Q < f u) → length l ≤ k
    ends h =
        (all_settled N Q M ok O k mark s.underway.sound s.full).0 (kept-bound (network_by N Q M mark) (distance_in (take k l)) (allowed Q) small f s.underway.keeps h)

    -- ---- it is settled: the records to it make their offers, the hops among them that are marked
    pub passes : (v : ℕ) → f v ≤ allowed Q → ((u : ℕ) → f u ≤ allowed Q → (f v < f u) ⊎ ((f v ≡ f u) × (v ≤ u))) → (f' : ℕ → ℕ)
        → ((u : ℕ) → f' u ≤ allowed Q → (u < vertex_count N) × (none ≤ distance_in (take (suc k) l) u))
        → ((u : ℕ) → u < vertex_count N → none ≤ distance_in (take (suc k) l) u → f' u ≡ improved (allowed Q) (least (through (network_by N Q M mark) v (f v) u) (record_count N)) (f u))
        → Underway (suc k) mark f'
    passes v h first f' inside is =
        record {
          sound = λ j jl e.
              subst (λ (S : List Settled). Marked N Q M S j) (sym x.1) (mark-more N Q M (take k l) (settled v (f v)) j (s.underway.sound j jl e));
          keeps =
              kept-improved (network_by N Q M mark) (network_by N Q M mark) (distance_in (take k l)) (distance_in (take (suc k) l)) (allowed Q) f f'
              (λ u. least (through (network_by N Q M mark) v (f v) u) (record_count N)) s.underway.keeps refl now still inside is;
        }
      where
        x : (k < length l) × (take (suc k) l ≡ take k l ++ settled v (f v) ∷ [])
        x = settles v h first

        now : (u : ℕ) → known (network_by N Q M mark) (distance_in (take (suc k) l)) u
            ≡ min (known (network_by N Q M mark) (distance_in (take k l)) u) (least (through (network_by N Q M mark) v (f v) u) (record_count N))
        now u =
            let n = first-is v h first in
            known-after N Q M ok O k mark s.underway.sound s.full s.some v n.0 (omega (arith, n.1)) u
            ∙ ap (λ (d : ℕ). min (known (network_by N Q M mark) (distance_in (take k l)) u) (least (through (network_by N Q M mark) v d u) (record_count N))) n.1

        still : (u : ℕ) → none ≤ distance_in (take (suc k) l) u → none ≤ distance_in (take k l) u
        still u o =
            ⊎_elim (λ (q : none ≤ distance_in (take k l) u). q)
            (λ (q : distance_in (take k l) u < none).
            let e : distance_in (take (suc k) l) u ≡ distance_in (take k l) u = ap (λ (S : List Settled). distance_in S u) x.1 ∙ distance_grows (take k l) (settled v (f v) ∷ []) u q in
            omega arith) (le-or-lt none (distance_in (take k l) u))

  -- ---- a hop is marked: it makes its offer, if it leads into S
  pub marks-one : {k : ℕ} {mark : ℕ → Bool} {f : ℕ → ℕ} → Underway k mark f → (j : ℕ) (jl : j < hop_count N) (m : Marked N Q M (take k l) j) (f' : ℕ → ℕ)
      → ((u : ℕ) → f' u ≤ allowed Q → (u < vertex_count N) × (none ≤ distance_in (take k l) u))
      → ((u : ℕ) → u < vertex_count N → none ≤ distance_in (take k l) u
      → f' u ≡ improved (allowed Q) (by_hop N Q M mark (distance_in (take k l)) j jl (marked-near N Q M ok O k j m) u) (f u))
      → Underway k (also mark j) f'
  marks-one {k} {mark} {f} w j jl m f' inside is =
      record {
        sound = λ i il e. right i il (test i j) e;
        keeps =
            kept-improved (network_by N Q M mark) (network_by N Q M (also mark j)) (distance_in (take k l)) (distance_in (take k l)) (allowed Q) f f'
            (by_hop N Q M mark (distance_in (take k l)) j jl (marked-near N Q M ok O k j m)) w.keeps refl
            (known-marked N Q M mark (distance_in (take k l)) j jl (marked-near N Q M ok O k j m)) (λ u o. o) inside is;
      }
    where
      right : (i : ℕ) → i < hop_count N → {t : Bool} → Test i j t → cond t true (mark i) ≡ true → Marked N Q M (take k l) i
      right i il (same e) q = rw e m
      right i il (other n) q = w.sound i il q

  -- ---- the step ends when the hops that arrive in time at settled vertices are marked, and with a hop all that stay for it
  pub closes : {k : ℕ} {mark : ℕ → Bool} {f : ℕ → ℕ} → Underway k mark f → k ≤ length l
      → ((j x : ℕ) → j < hop_count N → In (settled (hop N j).to x) (take k l) → (hop N j).arrival ≤ Q.arrival → x ≤ before Q (hop N j).arrival → mark j ≡ true)
      → ((i j : ℕ) → i < hop_count N → Stays N M i j → mark j ≡ true → mark i ≡ true)
      → Searching k mark f
  closes {k} {mark} w h base closed = record { some = h; underway = w; full = λ j _ m. marks-all N Q M (take k l) mark base closed j m }

  module _ {k : ℕ} {mark : ℕ → Bool} {f : ℕ → ℕ} (s : Searching k mark f) where
    -- Between steps the marks are closed: only what is marked in a step has to be followed.
    pub stays_closed : (i j : ℕ) → i < hop_count N → j < hop_count N → Stays N M i j → mark j ≡ true → mark i ≡ true
    stays_closed i j il jl t e = s.full i il (mark-stays N Q M (take k l) i j il t (s.underway.sound j jl e))

    -- Of the hops that arrive in time only those to the vertex that is settled are new.
    pub closes-step : (v : ℕ) (h : f v ≤ allowed Q) (first : (u : ℕ) → f u ≤ allowed Q → (f v < f u) ⊎ ((f v ≡ f u) × (v ≤ u))) {mark' : ℕ → Bool} {f' : ℕ → ℕ} → Underway (suc k) mark' f'
        → ((j : ℕ) → mark j ≡ true → mark' j ≡ true)
        → ((j : ℕ) → j < hop_count N → (hop N j).to ≡ v → (hop N j).arrival ≤ Q.arrival → f v ≤ before Q (hop N j).arrival → mark' j ≡ true)
        → ((i j : ℕ) → i < hop_count N → Stays N M i j → mark' j ≡ true → mark' i ≡ true)
        → Searching (suc k) mark' f'
    closes-step v h first {mark'} w grows alights closed = closes w (omega (arith, x.0)) base closed
      where
        x : (k < length l) × (take (suc k) l ≡ take k l ++ settled v (f v) ∷ [])
        x = settles s v h first

        base : (j d : ℕ) → j < hop_count N → In (settled (hop N j).to d) (take (suc k) l) → (hop N j).arrival ≤ Q.arrival → d ≤ before Q (hop N j).arrival → mark' j ≡ true
        base j d jl i a q = go (in-snoc (take k l) (settled v (f v)) (settled (hop N j).to d) (subst (In (settled (hop N j).to d)) x.1 i))
          where
            go : In (settled (hop N j).to d) (take k l) ⊎ (settled (hop N j).to d ≡ settled v (f v)) → mark' j ≡ true
            go (inl o) = grows j (s.full j jl (mark-alights N Q M (take k l) j d jl o a q))
            go (inr e) = alights j jl (ap (λ (y : Settled). y.vertex) e) a (omega (arith, ap (λ (y : Settled). y.distance) e))
