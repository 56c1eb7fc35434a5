-- Before the first step the working table holds the seeds. Assumes nothing.
use mathlib.Core.Path.{◌≡◌, refl, sym, ap, subst, ◌∙◌}
use mathlib.Core.Logic.{◌≢◌, ◌⊎◌, inl, inr, ⊎_elim}
use mathlib.Core.Bool.{Bool, true, false, not, cond, ◌||◌}
use mathlib.Core.List.{[]}
use Prim.Native.Nat.{ℕ, ◌-◌, ◌≤◌, ◌<◌, min}
use native.Mathlib.Omega.{arith}
use native.Mathlib.Decide.{ℕ_discrete}
use lib.Dec.{eqb, ltb}
use borrow.Author.Tests.{eqb-true, eqb-false, eq-eqb, ne_eqb, lt-ltb, le-ltb, not-true}
use Rattle.journeys.specs.Counting.{none, count}
use Rattle.journeys.specs.Tables.{Tables, Walk, walk, walk_count}
use Rattle.journeys.specs.Query.{Query, asked, from_ticks, to_ticks}
use Rattle.journeys.specs.Network as network
use Rattle.journeys.specs.Network.{Network, distance_in, within, into, offered, remaining, met, held, row, entry}
use Rattle.journeys.specs.Records.{seed}
use Rattle.journeys.specs.CourierRecords as courier
use Rattle.journeys.specs.CourierRecords.{on_ticks, back_ticks}
use Rattle.journeys.specs.Records as records
use Rattle.journeys.proofs.Tests.{and-true, and_left, and_right, or_left, or_cases, cond-false}
use Rattle.journeys.proofs.Counting.{least_skip, least-empty, none-count, some-count}
use Rattle.journeys.proofs.Known.{not_within}
use Rattle.journeys.proofs.Held.{departs, departs-is, near-held}
use Rattle.journeys.proofs.Fits.{from-fits, to-fits}
use Rattle.journeys.proofs.CourierFits.{on_fits, back_fits}
use Rattle.journeys.proofs.CourierDocument.{back-zero}
use Rattle.journeys.proofs.Document.{walk-record, to-zero}
use Rattle.journeys.proofs.Valid.{GoodWalk, good-walk, paired}
use Rattle.journeys.specs.Valid.{Valid}
use Rattle.worktable.specs.Map.{absent, known, Map, empty, put}
use Rattle.worktable.proofs.MapLaws.{put_same, put_other}
use Rattle.heldmap.specs.Model.{held_map}
use Rattle.opening.specs.Seeds.{seed_map}

-- when nothing is settled
nothing : (v : ℕ) → within (distance_in []) v ≡ false
unfolding distance_in
nothing v = not_within (distance_in []) v (omega arith)

none-far : (v : ℕ) → none ≤ distance_in [] v
unfolding distance_in
none-far v = omega arith

module _ (G : Network) where
  none-into : (u r : ℕ) → into G (distance_in []) u r ≡ false
  unfolding into
  none-into u r = and_right (eqb (G.from r) u) (nothing (G.to r))

  none-offered : (u r : ℕ) → offered G (distance_in []) u r ≡ none
  unfolding offered
  none-offered u r = cond-false _ none (none-into u r)

  known-first : (u : ℕ) → G.seed u ≤ none → network.known G (distance_in []) u ≡ G.seed u
  unfolding network.known
  known-first u h =
      omega (arith, least_skip (offered G (distance_in []) u) 0 G.records (omega arith) (λ r a b. omega (arith, none-offered u r)), least-empty (offered G (distance_in []) u))

  into-first : (u : ℕ) → count (into G (distance_in []) u) G.records ≡ 0
  into-first u = none-count (into G (distance_in []) u) G.records (λ r l. none-into u r)

  remaining-first : (u : ℕ) → remaining G (distance_in []) u ≡ departs G u
  remaining-first u = omega (arith, departs-is G (distance_in []) u, into-first u)

  -- a seed that has departing records, or is within D, is not hopeless
  first-held : (u : ℕ) → G.seed u < none → (0 < departs G u) ⊎ (G.seed u ≤ G.allowed) → held G (distance_in []) u ≡ true
  unfolding held met
  first-held u h (inl some) =
      and-true (or_left (ltb 0 (count (into G (distance_in []) u) G.records)) (lt-ltb (G.seed u) none h))
      (ap not (and_left (within (distance_in []) u || ltb G.allowed (network.known G (distance_in []) u)) (ne_eqb (remaining G (distance_in []) u) 0 (λ z. let y : ⊥ = omega (arith, z, remaining-first u) in y))))
  first-held u h (inr near) = near-held G (distance_in []) u outside-all (omega (arith, known-first u (omega arith))) (omega (arith, known-first u (omega arith)))
    where
      outside-all : none ≤ distance_in [] u
      outside-all = none-far u

  -- it is held with all its departing records, and nothing else is held
  first-seed : (u : ℕ) → G.seed u < none → (0 < departs G u) ⊎ (G.seed u ≤ G.allowed) → held_map G (distance_in []) u ≡ known (G.seed u) 0 (departs G u)
  unfolding held_map entry row
  first-seed u h hope = rw (first-held u h hope, nothing u, known-first u (omega arith), remaining-first u)

  first-other : (u : ℕ) → none ≤ G.seed u → held_map G (distance_in []) u ≡ absent
  unfolding held_map entry held met
  first-other u h = rw (into-first u, le-ltb (G.seed u) none h)

-- Two vertices of a network that may be seeds: `a` is one, `b` is one if `two` says so, and there is no other. No seed is hopeless before the first step.
pub record TwoSeeds (G : Network) (a x b y : ℕ) (two : Bool) : Type 0 where
  pub sure : G.seed a ≡ x
  pub other : G.seed b ≡ cond two y none
  pub nowhere : (u : ℕ) → u ≢ a → u ≢ b → G.seed u ≡ none
  pub near : x < none
  pub back : y < none
  pub sure-hopes : (0 < departs G a) ⊎ (x ≤ G.allowed)
  pub other-hopes : two ≡ true → (0 < departs G b) ⊎ (y ≤ G.allowed)

module _ (G : Network) (a x b y : ℕ) where
  hope : {u z : ℕ} → G.seed u ≡ z → (0 < departs G u) ⊎ (z ≤ G.allowed) → (0 < departs G u) ⊎ (G.seed u ≤ G.allowed)
  hope e (inl h) = inl h
  hope e (inr h) = inr (omega arith)

  at-sure : (two : Bool) → TwoSeeds G a x b y two → held_map G (distance_in []) a ≡ known x 0 (departs G a)
  at-sure two S = first-seed G a (omega (arith, S.sure, S.near)) (hope S.sure S.sure-hopes) ∙ ap (λ (d : ℕ). known d 0 (departs G a)) S.sure

  at_other : (two : Bool) → TwoSeeds G a x b y two → held_map G (distance_in []) b ≡ cond two (known y 0 (departs G b)) absent
  at_other true S = first-seed G b (omega (arith, S.other, S.back)) (hope S.other (S.other-hopes refl)) ∙ ap (λ (d : ℕ). known d 0 (departs G b)) S.other
  at_other false S = first-other G b (omega (arith, S.other))

  -- The map of the seeds is what the definitions hold before the first step.
  pub seeds-held : (two : Bool) → TwoSeeds G a x b y two → (u : ℕ) → seed_map a (known x 0 (departs G a)) b (known y 0 (departs G b)) two u ≡ held_map G (distance_in []) u
  unfolding seed_map empty
  seeds-held true S u = go (ℕ_discrete u b) (ℕ_discrete u a)
    where
      m : Map
      m = put empty a (known x 0 (departs G a))

      go : Dec (u ≡ b) → Dec (u ≡ a) → put m b (known y 0 (departs G b)) u ≡ held_map G (distance_in []) u
      go (yes q) r = put_same m b _ u q ∙ sym (ap (held_map G (distance_in [])) q ∙ at_other true S)
      go (no q) (yes r) = put_other m b _ u q ∙ put_same empty a _ u r ∙ sym (ap (held_map G (distance_in [])) r ∙ at-sure true S)
      go (no q) (no r) = put_other m b _ u q ∙ put_other empty a _ u r ∙ sym (first-other G u (omega (arith, S.nowhere u r q)))
  seeds-held false S u = go (ℕ_discrete u a) (ℕ_discrete u b)
    where
      go : Dec (u ≡ a) → Dec (u ≡ b) → put empty a (known x 0 (departs G a)) u ≡ held_map G (distance_in []) u
      go (yes r) q = put_same empty a _ u r ∙ sym (ap (held_map G (distance_in [])) r ∙ at-sure false S)
      go (no r) (yes q) = put_other empty a _ u r ∙ sym (ap (held_map G (distance_in [])) q ∙ at_other false S)
      go (no r) (no q) = put_other empty a _ u r ∙ sym (first-other G u (omega (arith, S.nowhere u r q)))

module _ (N : Tables) (Q : Query) (ok : Valid N Q) where
  abbrev e : Walk
  e = asked N Q

  good : GoodWalk N Q.walk
  good = good-walk N ok.tables Q.walk ok.query.walk_low

  gated : (t : Bool) {z : ℕ} → z ≤ none → min none (cond t z none) ≡ cond t z none
  gated true h = omega arith
  gated false h = omega arith

  -- the walk i leaves its "from" and arrives at its "to"
  walk-departs : (i : ℕ) → i < walk_count N → 0 < departs (records.network N Q) (walk N i).from
  unfolding departs
  walk-departs i l =
      some-count (λ r. eqb (records.from (records.record_at N r)) (walk N i).from) (records.record_count N) i (omega arith)
      (eq-eqb (records.from (records.record_at N i)) (walk N i).from (ap records.from (walk-record N i l)))

  walk-arrives : (i : ℕ) → i < walk_count N → 0 < departs (courier.network N Q) (walk N i).to
  unfolding departs
  walk-arrives i l =
      some-count (λ r. eqb (records.to (records.record_at N r)) (walk N i).to) (records.record_count N) i (omega arith)
      (eq-eqb (records.to (records.record_at N i)) (walk N i).to (ap records.to (walk-record N i l)))

  -- the twin of the road, if it has one
  twin-there : not (eqb e.twin none) ≡ true → (e.twin < walk_count N) × ((walk N e.twin).from ≡ e.to) × ((walk N e.twin).to ≡ e.from)
  twin-there q =
      let p = paired N ok.tables Q.walk ok.query.walk_low (eqb-false e.twin none (not-true (eqb e.twin none) q)) in
      (p.0, p.1.from, p.1.to)

  -- ---- the ordinary seeds
  -- whether "to" is a seed too
  abbrev pub two : Bool
  two = not (eqb e.twin none) || eqb Q.offset e.len

  pub seed-from : seed N Q e.from ≡ from_ticks N Q
  unfolding seed
  seed-from =
      rw (eq-eqb e.from e.from refl, ne_eqb e.to e.from (λ z. good.apart (sym z))) (omega (arith, from-fits N Q ok))

  pub seed-to : seed N Q e.to ≡ cond two (to_ticks N Q) none
  unfolding seed
  seed-to = rw (ne_eqb e.from e.to good.apart, eq-eqb e.to e.to refl) (gated two (omega (arith, to-fits N Q ok)))

  pub seed-other : (u : ℕ) → u ≢ e.from → u ≢ e.to → seed N Q u ≡ none
  unfolding seed
  seed-other u a b = rw (ne_eqb e.from u (λ z. a (sym z)), ne_eqb e.to u (λ z. b (sym z))) (omega arith)

  -- e leaves "from"; its twin leaves "to", or "to" is the place itself
  pub ordinary-seeds : TwoSeeds (records.network N Q) e.from (from_ticks N Q) e.to (to_ticks N Q) two
  ordinary-seeds =
      record {
        sure = seed-from;
        other = seed-to;
        nowhere = seed-other;
        near = omega (arith, from-fits N Q ok);
        back = omega (arith, to-fits N Q ok);
        sure-hopes = inl (walk-departs Q.walk ok.query.walk_low);
        other-hopes = λ t.
            ⊎_elim
            (λ (q : not (eqb e.twin none) ≡ true). let p = twin-there q in inl (subst (λ (u : ℕ). 0 < departs (records.network N Q) u) p.1 (walk-departs e.twin p.0)))
            (λ (q : eqb Q.offset e.len ≡ true). inr (omega (arith, to-zero N Q ok (eqb-true Q.offset e.len q))))
            (or_cases (not (eqb e.twin none)) (eqb Q.offset e.len) t);
      }

  -- ---- the courier's
  -- whether "from" is a seed too
  abbrev pub two_back : Bool
  two_back = not (eqb e.twin none) || eqb Q.offset 0

  on-seed : courier.seed N Q e.to ≡ on_ticks N Q
  unfolding courier.seed
  on-seed = rw (eq-eqb e.to e.to refl, ne_eqb e.from e.to good.apart) (omega (arith, on_fits N Q ok))

  back-seed : courier.seed N Q e.from ≡ cond two_back (back_ticks N Q) none
  unfolding courier.seed
  back-seed = rw (ne_eqb e.to e.from (λ z. good.apart (sym z)), eq-eqb e.from e.from refl) (gated two_back (omega (arith, back_fits N Q ok)))

  no-seed : (u : ℕ) → u ≢ e.to → u ≢ e.from → courier.seed N Q u ≡ none
  unfolding courier.seed
  no-seed u a b = rw (ne_eqb e.to u (λ z. a (sym z)), ne_eqb e.from u (λ z. b (sym z))) (omega arith)

  -- e arrives at "to"; its twin arrives at "from", or "from" is the place itself
  pub courier-seeds : TwoSeeds (courier.network N Q) e.to (on_ticks N Q) e.from (back_ticks N Q) two_back
  courier-seeds =
      record {
        sure = on-seed;
        other = back-seed;
        nowhere = no-seed;
        near = omega (arith, on_fits N Q ok);
        back = omega (arith, back_fits N Q ok);
        sure-hopes = inl (walk-arrives Q.walk ok.query.walk_low);
        other-hopes = λ t.
            ⊎_elim
            (λ (q : not (eqb e.twin none) ≡ true). let p = twin-there q in inl (subst (λ (u : ℕ). 0 < departs (courier.network N Q) u) p.2 (walk-arrives e.twin p.0)))
            (λ (q : eqb Q.offset 0 ≡ true). inr (omega (arith, back-zero N Q (eqb-true Q.offset 0 q))))
            (or_cases (not (eqb e.twin none)) (eqb Q.offset 0) t);
      }
