-- What is not refused by 25 to 28 is the right list, in words, and the other way round. Assumes nothing.
use mathlib.Core.Path.{◌≡◌, refl, sym, ap, ◌∙◌}
use mathlib.Core.Logic.{inl, inr, ⊎_elim, ◌↔◌, ◌≢◌}
use mathlib.Core.Bool.{Bool, true, false, not, cond, ◌&&◌, ◌||◌}
use mathlib.Core.List.{List}
use Prim.Native.Nat.{ℕ, ◌≤◌, ◌<◌}
use native.Mathlib.Omega.{arith}
use native.Mathlib.Decide.{ℕ_discrete}
use lib.Dec.{eqb, leb, ltb}
use borrow.Author.Tests.{eqb-true, ltb-true, ltb-false, leb-true, eq-eqb, le-leb, lt-ltb, not-true}
use Rattle.journeys.specs.Counting.{none, In}
use Rattle.journeys.specs.Tables.{Tables}
use Rattle.journeys.specs.Query.{Query, asked, allowed}
use Rattle.journeys.specs.Order.{Settled, settled}
use Rattle.journeys.specs.Network.{Network, within, into}
use Rattle.journeys.specs.Records.{seed, network}
use Rattle.journeys.specs.Refusals.{Refusal, fine, unless, first_bad}
use Rattle.journeys.specs.Valid.{Valid}
use Rattle.journeys.specs.Lists.{vertex_in, distance_at}
use Rattle.journeys.specs.VendorLists.{size, record_in, entry_in, listed, far_before, far_listed, no_better, backs, Reason, Fair, Right, is_new, in_time, backed, seed_fair, record_fair, from_place, to_place, bought_refusal, vendor_refusal}
use Rattle.journeys.proofs.Tests.{split, never, and_both, or_cases, or_left, or_right, cond-true, cond-false}
use Rattle.journeys.proofs.Refusals.{or-fine, or-next, unless-fine, unless-good, bad-fine, bad-none}
use Rattle.journeys.proofs.Known.{is_within, within-is, into-is}
use Rattle.journeys.proofs.Firsts.{distance-in}
use Rattle.journeys.proofs.Document.{allowed-low}
use Rattle.journeys.proofs.Valid.{GoodWalk, good-walk}
use Rattle.journeys.proofs.VendorLists.{in_entry, far-entry}
use Rattle.audit.proofs.Scan.{same_number}
use Rattle.lists.proofs.Meaning.{entry-means, not-looked-at}
use Rattle.opening.proofs.SeedsHeld.{seed-other}
use Rattle.reasons.proofs.Reasons.{by-seed, by-record}

-- ---- what a list that names different vertices within D has
module _ (G : Network) (D : ℕ) (Di : D < none) (list : List ℕ) (differ : (i j : ℕ) → i < size list → j < i → vertex_in 12 list j ≢ vertex_in 12 list i)
    (near : (i : ℕ) → i < size list → distance_at 12 list i ≤ D) where
  abbrev S : List Settled
  S = listed list (size list)

  found : (v d : ℕ) → In (settled v d) S → (far_listed list v ≡ d) × (d ≤ D)
  found v d i =
      let r = in_entry list (size list) (settled v d) i in
      let a : v ≡ vertex_in 12 list r.0 = ap (λ (y : Settled). y.vertex) r.2 in
      let c : d ≡ distance_at 12 list r.0 = ap (λ (y : Settled). y.distance) r.2 in
      (ap (far_listed list) a ∙ far-entry list (size list) differ (size list) r.0 (omega arith) r.1 ∙ sym c, omega (arith, near r.0 r.1))

  -- being no better, as a test and in words
  pub fair-means : (v x : ℕ) → (no_better D (far_listed list v) x ≡ true) ↔ Fair G D list v x
  unfolding no_better
  fair-means v x = (there, back)
    where
      f : ℕ
      f = far_listed list v

      there : cond (ltb f none) (leb f x) (ltb D x) ≡ true → Fair G D list v x
      there e =
          record {
            no_less = λ d i. let p = found v d i in
                let l : f < none = omega (arith, p.0, p.1) in
                omega (arith, p.0, leb-true f x (sym (cond-true (leb f x) (ltb D x) (lt-ltb f none l)) ∙ e));
            beyond = λ out. ⊎_elim (λ (t : ltb f none ≡ true). absurd (out f (distance-in S v (ltb-true f none t))))
                (λ (t : ltb f none ≡ false). ltb-true D x (sym (cond-false (leb f x) (ltb D x) t) ∙ e)) (split (ltb f none));
          }

      back : Fair G D list v x → cond (ltb f none) (leb f x) (ltb D x) ≡ true
      back h =
          ⊎_elim (λ (t : ltb f none ≡ true). cond-true (leb f x) (ltb D x) t ∙ le-leb f x (h.no_less f (distance-in S v (ltb-true f none t))))
          (λ (t : ltb f none ≡ false).
          cond-false (leb f x) (ltb D x) t ∙ lt-ltb D x (h.beyond (λ d i. let p = found v d i in let z : ⊥ = omega (arith, ltb-false f none t, p.0, p.1) in z)))
          (split (ltb f none))

  pub record-means : (r : ℕ) → (record_fair G list D r ≡ true) ↔ ((d : ℕ) → In (settled (G.to r) d) S → Fair G D list (G.from r) (G.offer r d))
  unfolding record_fair
  record-means r = (there, back)
    where
      f : ℕ → ℕ
      f = far_listed list

      test : Bool
      test = no_better D (f (G.from r)) (G.offer r (f (G.to r)))

      there : (not (within f (G.to r)) || test) ≡ true → (d : ℕ) → In (settled (G.to r) d) S → Fair G D list (G.from r) (G.offer r d)
      there e d i =
          let p = found (G.to r) d i in
          let l : f (G.to r) < none = omega (arith, p.0, p.1) in
          let t : test ≡ true = ⊎_elim (λ (a : not (within f (G.to r)) ≡ true). never (is_within f (G.to r) l) (not-true (within f (G.to r)) a)) (λ (a : test ≡ true). a) (or_cases (not (within f (G.to r))) test e) in
          (fair-means (G.from r) (G.offer r d)).0 (ap (λ (x : ℕ). no_better D (f (G.from r)) (G.offer r x)) (sym p.0) ∙ t)

      back : ((d : ℕ) → In (settled (G.to r) d) S → Fair G D list (G.from r) (G.offer r d)) → (not (within f (G.to r)) || test) ≡ true
      back h =
          ⊎_elim (λ (a : within f (G.to r) ≡ true). or_right (not (within f (G.to r))) ((fair-means (G.from r) (G.offer r (f (G.to r)))).1 (h (f (G.to r)) (distance-in S (G.to r) (within-is f (G.to r) a)))))
          (λ (a : within f (G.to r) ≡ false). or_left test (ap not a))
          (split (within f (G.to r)))

  -- the reason of an entry
  pub reason-means : G.records ≤ none → (i : ℕ) → i < size list → (backed G list i ≡ true) ↔ Reason G (entry_in list) i (record_in list i)
  unfolding backed backs
  reason-means few i h = (there, back)
    where
      r : ℕ
      r = record_in list i

      v : ℕ
      v = vertex_in 12 list i

      d : ℕ
      d = distance_at 12 list i

      f : ℕ → ℕ
      f = far_before list i

      offers : Bool
      offers = ltb r G.records && into G f v r && eqb (G.offer r (f (G.to r))) d

      by-offer : offers ≡ true → Reason G (entry_in list) i r
      by-offer e =
          let a = and_both (ltb r G.records && into G f v r) (eqb (G.offer r (f (G.to r))) d) e in
          let c = and_both (ltb r G.records) (into G f v r) a.0 in
          let into-r = into-is G f v r c.1 in
          let m = in_entry list i (settled (G.to r) (f (G.to r))) (distance-in (listed list i) (G.to r) into-r.1) in
          inr (
            ltb-true r G.records c.0,
            into-r.0,
            (
              m.0,
              m.1,
              ap (λ (y : Settled). y.vertex) m.2,
              ap (λ (y : Settled). G.offer r y.distance) (sym m.2) ∙ eqb-true (G.offer r (f (G.to r))) d a.1,
            ),
          )

      there : backs G f v d r ≡ true → Reason G (entry_in list) i r
      there e =
          ⊎_elim (λ (t : eqb r none ≡ true). inl (eqb-true r none t, eqb-true (G.seed v) d (sym (cond-true (eqb (G.seed v) d) offers t) ∙ e)))
          (λ (t : eqb r none ≡ false). by-offer (sym (cond-false (eqb (G.seed v) d) offers t) ∙ e))
          (split (eqb r none))

      back : Reason G (entry_in list) i r → backs G f v d r ≡ true
      back (inl p) = sym (by-seed G f v d r p.0 (G.seed v) refl) ∙ eq-eqb (G.seed v) d p.1
      back (inr p) =
          let q = p.2 in
          let at : f (G.to r) ≡ distance_at 12 list q.0 = ap f q.2 ∙ far-entry list (size list) differ i q.0 (omega arith) q.1 in
          let l : f (G.to r) < none = omega (arith, at, near q.0 (omega (arith, q.1))) in
          let n : r ≢ none = λ z. omega (arith, p.0) in
          sym (by-record G f v d r n p.0 p.1 l (G.offer r (f (G.to r))) refl) ∙ eq-eqb (G.offer r (f (G.to r))) d (ap (G.offer r) at ∙ q.3)

-- ---- for tables and a query that nothing refuses
module _ (N : Tables) (Q : Query) (ok : Valid N Q) (list : List ℕ) where
  abbrev G : Network
  G = network N Q

  abbrev D : ℕ
  D = allowed Q

  few : G.records ≤ none
  few = omega (arith, ok.tables.walks_few, ok.tables.hops_few)

  -- what is no seed is offered none, and that is never better
  none-fair : (f : ℕ) → no_better D f none ≡ true
  unfolding no_better
  none-fair f =
      ⊎_elim (λ (t : ltb f none ≡ true). cond-true (leb f none) (ltb D none) t ∙ le-leb f none (omega (arith, ltb-true f none t)))
      (λ (t : ltb f none ≡ false). cond-false (leb f none) (ltb D none) t ∙ lt-ltb D none (allowed-low N Q ok))
      (split (ltb f none))

  -- the two ends are all seeds
  every-seed : seed_fair G list D (asked N Q).from ≡ true → seed_fair G list D (asked N Q).to ≡ true → (v : ℕ) → no_better D (far_listed list v) (seed N Q v) ≡ true
  unfolding seed_fair
  every-seed x y v = go (ℕ_discrete v (asked N Q).from) (ℕ_discrete v (asked N Q).to)
    where
      go : Dec (v ≡ (asked N Q).from) → Dec (v ≡ (asked N Q).to) → no_better D (far_listed list v) (seed N Q v) ≡ true
      go (yes a) c = rw a x
      go (no a) (yes c) = rw c y
      go (no a) (no c) = ap (no_better D (far_listed list v)) (seed-other N Q ok v a c) ∙ none-fair (far_listed list v)

  tests-right : ((i : ℕ) → i < size list → is_new G list i ≡ true) → ((i : ℕ) → i < size list → in_time D list i ≡ true) → ((i : ℕ) → i < size list → backed G list i ≡ true)
      → ((v : ℕ) → no_better D (far_listed list v) (seed N Q v) ≡ true) → ((r : ℕ) → r < G.records → record_fair G list D r ≡ true) → Right G D list
  unfolding in_time
  tests-right new time back seeds fair =
      let differ : (i j : ℕ) → i < size list → j < i → vertex_in 12 list j ≢ vertex_in 12 list i = λ i j h k. ((entry-means 12 G.vertices none list i).0 (new i h)).2 j k in
      let near : (i : ℕ) → i < size list → distance_at 12 list i ≤ D = λ i h. leb-true (distance_at 12 list i) D (time i h) in
      record {
        exists = λ i h. ((entry-means 12 G.vertices none list i).0 (new i h)).0;
        differ = differ;
        near = near;
        reason = λ i h. (reason-means G D (allowed-low N Q ok) list differ near few i h).0 (back i h);
        seeds = λ v l. (fair-means G D (allowed-low N Q ok) list differ near v (seed N Q v)).0 (seeds v);
        records = λ r d l i. (record-means G D (allowed-low N Q ok) list differ near r).0 (fair r l) d i;
      }

  pub passes-right : (vendor_refusal N Q list).number ≡ 0 → Right G D list
  unfolding bought_refusal
  passes-right e =
      let a = or-fine (first_bad 25 (is_new G list) (size list)) _ e in
      let b = or-fine (first_bad 26 (in_time D list) (size list)) _ a.1 in
      let c = or-fine (first_bad 27 (backed G list) (size list)) _ b.1 in
      let f = or-fine (unless (seed_fair G list D (asked N Q).from) 28 from_place) _ c.1 in
      let t = or-fine (unless (seed_fair G list D (asked N Q).to) 28 to_place) _ f.1 in
      tests-right (bad-fine 25 _ _ (omega arith) a.0) (bad-fine 26 _ _ (omega arith) b.0) (bad-fine 27 _ _ (omega arith) c.0)
      (every-seed (unless-fine _ 28 from_place (omega arith) f.0) (unless-fine _ 28 to_place (omega arith) t.0)) (bad-fine 28 _ _ (omega arith) t.1)

  pub right-passes : Right G D list → vendor_refusal N Q list ≡ fine
  unfolding bought_refusal in_time seed_fair
  right-passes R =
      let a = bad-none 25 (is_new G list) (size list) (λ i h. (entry-means 12 G.vertices none list i).1 (R.exists i h, not-looked-at (distance_at 12 list i), λ j k. R.differ i j h k)) in
      let b = bad-none 26 (in_time D list) (size list) (λ i h. le-leb (distance_at 12 list i) D (R.near i h)) in
      let c = bad-none 27 (backed G list) (size list) (λ i h. (reason-means G D (allowed-low N Q ok) list R.differ R.near few i h).1 (R.reason i h)) in
      let seed-good : (v : ℕ) → v < G.vertices → seed_fair G list D v ≡ true = λ v l. (fair-means G D (allowed-low N Q ok) list R.differ R.near v (seed N Q v)).1 (R.seeds v l) in
      let f = unless-good (seed_fair G list D (asked N Q).from) 28 from_place (seed-good (asked N Q).from good.from_low) in
      let t = unless-good (seed_fair G list D (asked N Q).to) 28 to_place (seed-good (asked N Q).to good.to_low) in
      let r = bad-none 28 (record_fair G list D) G.records (λ r l. (record-means G D (allowed-low N Q ok) list R.differ R.near r).1 (λ d i. R.records r d l i)) in
      or-next _ _ (same_number a) ∙ or-next _ _ (same_number b) ∙ or-next _ _ (same_number c) ∙ or-next _ _ (same_number f) ∙ or-next _ _ (same_number t) ∙ r
    where
      good : GoodWalk N Q.walk
      good = good-walk N ok.tables Q.walk ok.query.walk_low

  -- A list is accepted exactly if it is right.
  pub accepted-exactly : ((vendor_refusal N Q list).number ≡ 0) ↔ Right G D list
  accepted-exactly = (passes-right, λ R. ap (λ (z : Refusal). z.number) (right-passes R))
