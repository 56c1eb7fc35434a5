-- The seeds, offered to an empty map, are its figures. Assumes nothing.
use mathlib.Core.Path.{◌≡◌, refl, sym, ap, subst, fun_ext, ◌∙◌}
use mathlib.Core.Logic.{◌≢◌}
use mathlib.Core.Bool.{Bool, true, false, not, cond}
use mathlib.Core.List.{List, []}
use Prim.Native.Nat.{ℕ, ◌/◌, ◌≤◌, ◌<◌, min}
use native.Mathlib.Omega.{arith}
use lib.ListN.{length}
use borrow.Author.Tests.{not-true, not-false}
use Rattle.journeys.specs.Counting.{none}
use Rattle.journeys.specs.Tables.{Tables, Walk, vertex_count, tables_of, walk_at}
use Rattle.journeys.specs.Query.{Query, asked, allowed, from_ticks, to_ticks}
use Rattle.journeys.specs.Records.{seed}
use Rattle.journeys.specs.Valid.{Valid}
use Rattle.journeys.specs.Answers.{Lent, tables}
use Rattle.journeys.proofs.Tests.{Test, same, other, test, cond-true, cond-false}
use Rattle.journeys.proofs.Fits.{from-fits, to-fits}
use Rattle.journeys.proofs.Valid.{GoodWalk, good-walk}
use Rattle.journeys.proofs.Document as document
use Rattle.worktable.specs.Map.{Map, empty, state_of, remaining_of, distance_of}
use Rattle.worktable.specs.Table.{map_of, Holds}
use Rattle.worktable.specs.declared.Table.{Table}
use Rattle.improving.specs.Figures.{Plain, figures, Ready, improved_at, Bettered}
use Rattle.improving.proofs.Betters.{improved-less}
use Rattle.boarding.proofs.Kept.{improved}
use Rattle.records.specs.declared.Walk as records
use Rattle.records.specs.Meaning.{walk_of}
use Rattle.parts.specs.Listing.{road_of}
use Rattle.parts.specs.declared.Road.{Road}
use Rattle.intake.specs.Lending.{lent}
use Rattle.opening.specs.Seeds.{from_ticks_of, to_ticks_of, to_is_seed}
use Rattle.opening.proofs.FirstHeld as ordinary
use Rattle.opening.proofs.SeedsHeld.{two, seed-from, seed-to, seed-other}

-- ---- the map before the first seed
empty-plain : Plain empty
unfolding empty state_of remaining_of
empty-plain = record { unsettled = λ u. refl; spare = λ u. refl }

pub empty-ready : {t : Table} {b : List ℕ} → Holds t b empty → t.room ≡ min (length b / 16) (min 65536 65536) → length b ≡ 1048576 → Ready t b
empty-ready {t} {b} h room long = record { order = h.order; plain = subst Plain (sym h.map) empty-plain; room = omega (arith, room, long) }

pub empty-figures : {t : Table} {b : List ℕ} → Holds t b empty → (u : ℕ) → figures t b u ≡ none
unfolding empty distance_of
empty-figures h u = ap (λ (m : Map). distance_of (m u)) h.map

offered-as : {o o' u u' : ℕ} (f : ℕ → ℕ) → o ≡ o' → u ≡ u' → improved_at o u o f ≡ improved_at o' u' o' f
offered-as f p q = rw (p, q)

-- ---- the seeds
module _ (N : Tables) (Q : Query) (ok : Valid N Q) where
  good : GoodWalk N Q.walk
  good = good-walk N ok.tables Q.walk ok.query.walk_low

  abbrev e : Walk
  e = asked N Q

  -- A seed within D is of a vertex of the tables.
  pub seed-low : (u : ℕ) → seed N Q u ≤ allowed Q → u < vertex_count N
  seed-low u h = go (test u e.from) (test u e.to)
    where
      go : {s t : Bool} → Test u e.from s → Test u e.to t → u < vertex_count N
      go (same p) q = omega (arith, p, good.from_low)
      go (other n) (same q) = omega (arith, q, good.to_low)
      go (other n) (other m) = absurd (let z : ⊥ = omega (arith, h, seed-other N Q ok u n m, document.allowed-low N Q ok) in z)

  module _ (f : ℕ → ℕ) (none_yet : (u : ℕ) → f u ≡ none) where
    -- after "from"
    abbrev first : ℕ → ℕ
    first = improved_at (from_ticks N Q) e.from (from_ticks N Q) f

    first-from : (u : ℕ) → u ≡ e.from → improved (from_ticks N Q) (from_ticks N Q) (f u) ≡ seed N Q u
    first-from u p =
        improved-less (from_ticks N Q) (from_ticks N Q) (f u) (omega arith) (omega (arith, none_yet u, from-fits N Q ok))
        ∙ sym (ap (seed N Q) p ∙ seed-from N Q ok)

    pub one-seed : two N Q ok ≡ false → first ≡ seed N Q
    one-seed no_more = fun_ext (λ u. go u (test u e.from) (test u e.to))
      where
        go : (u : ℕ) {s t : Bool} → Test u e.from s → Test u e.to t → cond s (improved (from_ticks N Q) (from_ticks N Q) (f u)) (f u) ≡ seed N Q u
        go u (same p) q = first-from u p
        go u (other n) (same q) = none_yet u ∙ sym (ap (seed N Q) q ∙ seed-to N Q ok ∙ cond-false (to_ticks N Q) none no_more)
        go u (other n) (other m) = none_yet u ∙ sym (seed-other N Q ok u n m)

    -- and after "to", where it is one
    pub both-seeds : two N Q ok ≡ true → improved_at (to_ticks N Q) e.to (to_ticks N Q) first ≡ seed N Q
    both-seeds more = fun_ext (λ u. go u (test u e.to) (test u e.from))
      where
        go : (u : ℕ) {s t : Bool} → Test u e.to s → Test u e.from t
            → cond s (improved (to_ticks N Q) (to_ticks N Q) (cond t (improved (from_ticks N Q) (from_ticks N Q) (f u)) (f u))) (cond t (improved (from_ticks N Q) (from_ticks N Q) (f u)) (f u)) ≡ seed N Q u
        go u (same q) (same p) = absurd (good.apart (sym p ∙ q))
        go u (same q) (other n) =
            improved-less (to_ticks N Q) (to_ticks N Q) (f u) (omega arith) (omega (arith, none_yet u, to-fits N Q ok))
            ∙ sym (ap (seed N Q) q ∙ seed-to N Q ok ∙ cond-true (to_ticks N Q) none more)
        go u (other m) (same p) = first-from u p
        go u (other m) (other n) = none_yet u ∙ sym (seed-other N Q ok u n m)

-- ---- the same with the numbers as the code has them
module _ (size : ℕ) (v w h : List ℕ) (Q : Query) (ok : Valid (tables_of size v w h) Q) where
  abbrev b : Lent
  b = lent v w h size [] []

  pub road-fits : (Q.walk < length w / 16) × (Q.offset ≤ (walk_at w Q.walk).len) × (Q.speed ≤ 100)
  road-fits = ordinary.road-fits b Q ok

  module _ (road : Road) (r : road ≡ road_of w Q) where
    near-is : from_ticks_of road ≡ from_ticks (tables b) Q
    near-is = ap from_ticks_of r ∙ ordinary.from-ticks b Q ok

    back_is : to_ticks_of road ≡ to_ticks (tables b) Q
    back_is = ap to_ticks_of r ∙ ordinary.to-ticks b Q ok

    two_is : to_is_seed road ≡ two (tables b) Q ok
    two_is = ap to_is_seed r ∙ ordinary.to-is-seed-as b Q ok

    pub ticks-small : (from_ticks_of road ≤ 112000) × (to_ticks_of road ≤ 112000)
    ticks-small = (omega (arith, near-is, from-fits (tables b) Q ok), omega (arith, back_is, to-fits (tables b) Q ok))

    module _ (x : records.Walk) (q : x ≡ walk_of (walk_at w Q.walk)) where
      from_is : x.from ≡ (asked (tables b) Q).from
      from_is = ap (λ (y : records.Walk). y.from) q ∙ ap (λ (y : Walk). y.from) (sym (ordinary.asked_is b Q ok))

      to_is : x.to ≡ (asked (tables b) Q).to
      to_is = ap (λ (y : records.Walk). y.to) q ∙ ap (λ (y : Walk). y.to) (sym (ordinary.asked_is b Q ok))

      pub ends_low : (x.from < 65536) × (x.to < 65536)
      ends_low =
          let g = good (tables b) Q ok in
          (omega (arith, from_is, g.from_low, ok.tables.vertices_few), omega (arith, to_is, g.to_low, ok.tables.vertices_few))

      -- "from" has been offered its ticks
      module _ {t t' : Table} {m m' : List ℕ} (H : Holds t m empty) (n : ℕ) (near : n ≡ from_ticks_of road) (B : Bettered n x.from n t t' m m') where
        after_one : figures t' m' ≡ improved_at (from_ticks (tables b) Q) (asked (tables b) Q).from (from_ticks (tables b) Q) (figures t m)
        after_one = B.figures_are ∙ offered-as (figures t m) (near ∙ near-is) from_is

        pub seeded-one : not (to_is_seed road) ≡ true → Ready t' m' × (figures t' m' ≡ seed (tables b) Q)
        seeded-one k = (B.ready, after_one ∙ one-seed (tables b) Q ok (figures t m) (empty-figures H) (sym two_is ∙ not-true _ k))

        -- and "to"
        pub seeded-both : not (to_is_seed road) ≡ false → {t'' : Table} {m'' : List ℕ} (k : ℕ) → k ≡ to_ticks_of road → Bettered k x.to k t' t'' m' m'' → Ready t'' m'' × (figures t'' m'' ≡ seed (tables b) Q)
        seeded-both more k back C = (
          C.ready,
          C.figures_are
              ∙ offered-as (figures t' m') (back ∙ back_is) to_is
              ∙ ap {B = ℕ → ℕ} (λ (f : ℕ → ℕ). improved_at (to_ticks (tables b) Q) (asked (tables b) Q).to (to_ticks (tables b) Q) f) after_one
              ∙ both-seeds (tables b) Q ok (figures t m) (empty-figures H) (sym two_is ∙ not-false _ more),
        )
