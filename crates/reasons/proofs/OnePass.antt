-- What the one pass over the list tells of 25, 26 and 27. Assumes nothing.
use mathlib.Core.Path.{◌≡◌, sym, ap, ap₂, ◌∙◌}
use mathlib.Core.Logic.{◌≢◌, ⊎_elim}
use mathlib.Core.Bool.{Bool, true, false, ◌&&◌}
use mathlib.Core.List.{List}
use Prim.Native.Nat.{ℕ, ◌≤◌, ◌<◌}
use native.Mathlib.Omega.{arith}
use native.Mathlib.Decide.{ℕ_discrete}
use lib.Dec.{eqb, leb, ltb}
use borrow.Author.Tests.{leb-true, ltb-true, le-leb, lt-leb}
use Rattle.journeys.specs.Counting.{none}
use Rattle.journeys.specs.Network.{Network}
use Rattle.journeys.specs.Refusals.{Refusal, unless, or_else, first_bad}
use Rattle.journeys.specs.Lists.{vertex_in, distance_at}
use Rattle.journeys.specs.VendorLists.{size, record_in, far_before, backs, is_new, in_time, backed, seed_fair, record_fair, from_place, to_place, bought_refusal}
use Rattle.journeys.proofs.Tests.{split, never, and_both, and-true, and_left, and_right}
use Rattle.journeys.proofs.Refusals.{or-first, or-next, bad-fine, bad-none}
use Rattle.audit.proofs.Scan.{same_number}
use Rattle.lists.specs.Passes.{First}
use Rattle.lists.proofs.Entries.{first-refused, good-few}
use Rattle.lists.proofs.Meaning.{entry-means}
use Rattle.passing.specs.declared.Arriving.{Arriving}
use Rattle.entries.specs.Noted.{heard, Noted, Before, entry_refusal}
use Rattle.entries.proofs.Noting.{fresh-is}
use Rattle.reasons.specs.Rows.{net_of, Led, Figures, Gives, entry_good, good_by}
use Rattle.reasons.specs.declared.Seeds.{Seeds}
use Rattle.reasons.proofs.Reasons.{backed-by}
use Rattle.reasons.proofs.Listing.{noted-by}

-- two chains with the same first link, where what follows is the same if that link is fine
or_same : (x a b : Refusal) → (x.number ≡ 0 → a ≡ b) → or_else x a ≡ or_else x b
or_same x a b h = go (ℕ_discrete x.number 0)
  where
    go : Dec (x.number ≡ 0) → or_else x a ≡ or_else x b
    go (yes e) = or-next x a e ∙ h e ∙ sym (or-next x b e)
    go (no n) = or-first x a n ∙ sym (or-first x b n)

-- ---- a good entry
module _ (G : Network) (D : ℕ) (list : List ℕ) where
  good-tests : (i : ℕ) → entry_good G D list i ≡ true → (is_new G list i ≡ true) × (in_time D list i ≡ true) × (backed G list i ≡ true)
  unfolding entry_good
  good-tests i e =
      let a = and_both (is_new G list i && in_time D list i) (backed G list i) e in
      let b = and_both (is_new G list i) (in_time D list i) a.0 in
      (b.0, b.1, a.1)

  -- its vertex exists and no earlier entry has it, and its distance is at most D
  pub good-words : (i : ℕ) → entry_good G D list i ≡ true
      → (vertex_in 12 list i < G.vertices) × ((j : ℕ) → j < i → vertex_in 12 list j ≢ vertex_in 12 list i) × (distance_at 12 list i ≤ D)
  unfolding in_time
  good-words i e =
      let t = good-tests i e in
      let m = (entry-means 12 G.vertices none list i).0 t.0 in
      (m.0, m.2, leb-true (distance_at 12 list i) D t.1)

  module _ (few : G.vertices ≤ 65536) (n : ℕ) (good : Before (entry_good G D list) n) where
    pub all_new : Before (is_new G list) n
    all_new k h = (good-tests k (good k h)).0

    pub all-in-time : Before (in_time D list) n
    all-in-time k h = (good-tests k (good k h)).1

    pub entries-few : n ≤ 65536
    entries-few = omega (arith, good-few 12 G.vertices none list few n all_new, few)

    pub noted-good : D ≤ 8640000 → (far : List ℕ) → Figures far → Gives far (far_before list n) → Noted list far n
    noted-good small far F g =
        noted-by list far n F g (λ k h. omega (arith, (good-words k (good k h)).0, few)) (λ k h. omega (arith, (good-words k (good k h)).2, small))
        (λ k j h l. (good-words k (good k h)).1 j l)

-- ---- an entry by its three words
pub good-low : (G : Network) (D : ℕ) (far : ℕ → ℕ) (v d r : ℕ) → good_by G D far v d r ≡ true → v < G.vertices
unfolding good_by
good-low G D far v d r e =
    let a = and_both (ltb v G.vertices && eqb (far v) none && leb d D) (backs G far v d r) e in
    let b = and_both (ltb v G.vertices && eqb (far v) none) (leb d D) a.0 in
    ltb-true v G.vertices (and_both (ltb v G.vertices) (eqb (far v) none) b.0).0

-- the same test by test, n being the test of 25
module _ (G : Network) (D : ℕ) (far : ℕ → ℕ) (v d r : ℕ) (n : Bool) (q : n ≡ (ltb v G.vertices && eqb (far v) none)) where
  pub old-by : n ≡ false → false ≡ good_by G D far v d r
  unfolding good_by
  old-by e = sym (and_left (backs G far v d r) (and_left (leb d D) (sym q ∙ e)))

  pub late_by : D < d → false ≡ good_by G D far v d r
  unfolding good_by
  late_by l = sym (and_left (backs G far v d r) (and_right (ltb v G.vertices && eqb (far v) none) (lt-leb d D l)))

  pub reason-by : n ≡ true → d ≤ D → (b : Bool) → b ≡ backs G far v d r → b ≡ good_by G D far v d r
  unfolding good_by
  reason-by e l b o = o ∙ sym (ap (λ (t : Bool). t && backs G far v d r) (and-true (sym q ∙ e) (le-leb d D l)))

module _ (w h : List ℕ) (a : Arriving) (e : Seeds) (led : Led w h a) (list far : List ℕ) (n D : ℕ) (few : n ≤ 65536) (small : D ≤ 8640000) (i : ℕ) (F : Figures far)
    (g : Gives far (far_before list i)) (good : Before (entry_good (net_of n w h a e) D list) i) where
  pub good-by : (v d r : ℕ) → v ≡ vertex_in 12 list i → d ≡ distance_at 12 list i → r ≡ record_in list i
      → good_by (net_of n w h a e) D (heard far) v d r ≡ entry_good (net_of n w h a e) D list i
  unfolding good_by entry_good in_time
  good-by v d r p q o =
      ap₂ (λ (x y : Bool). x && y)
      (ap₂ (λ (x y : Bool). x && y) (fresh-is list far i (noted-good (net_of n w h a e) D list few i good small far F g) v p n few) (ap (λ (x : ℕ). leb x D) q))
      (backed-by w h a e led list far n i g v d r p q o)

-- ---- what is refused
module _ (G : Network) (D : ℕ) (list : List ℕ) (from to i : ℕ) (F : First (entry_good G D list) (size list) i) where
  abbrev late : Refusal
  late =
      or_else (first_bad 27 (backed G list) (size list))
      (or_else (unless (seed_fair G list D from) 28 from_place) (or_else (unless (seed_fair G list D to) 28 to_place) (first_bad 28 (record_fair G list D) G.records)))

  -- where all are new and in time, the first that is wrong has no reason
  unbacked : i < size list → Before (is_new G list) (size list) → Before (in_time D list) (size list) → record { number = 27; place = i } ≡ late
  unfolding entry_good
  unbacked h new time =
      let B : First (backed G list) (size list) i =
      record {
        within = F.within;
        before = λ k l. (good-tests G D list k (F.before k l)).2;
        fails = λ l. ⊎_elim (λ (t : backed G list i ≡ true). never (and-true (and-true (new i l) (time i l)) t) (F.fails l)) (λ (t : backed G list i ≡ false). t) (split (backed G list i));
      } in
      let e = first-refused 27 (omega arith) (backed G list) (size list) i B h in
      e ∙ sym (or-first (first_bad 27 (backed G list) (size list)) _ (λ z. omega (arith, same_number e)))

  pub entry-told : i < size list → entry_refusal G.vertices D list i ≡ bought_refusal G D list from to
  unfolding entry_refusal bought_refusal
  entry-told h =
      or_same (first_bad 25 (is_new G list) (size list)) _ _
      (λ x. or_same (first_bad 26 (in_time D list) (size list)) _ _
      (λ y. unbacked h (bad-fine 25 (is_new G list) (size list) (omega arith) x) (bad-fine 26 (in_time D list) (size list) (omega arith) y)))

  -- and where none is, 28 decides
  pub entries-told : size list ≤ i
      → or_else (unless (seed_fair G list D from) 28 from_place) (or_else (unless (seed_fair G list D to) 28 to_place) (first_bad 28 (record_fair G list D) G.records))
      ≡ bought_refusal G D list from to
  unfolding bought_refusal
  entries-told h =
      let t : (k : ℕ) → k < size list → (is_new G list k ≡ true) × (in_time D list k ≡ true) × (backed G list k ≡ true) = λ k l. good-tests G D list k (F.before k (omega arith)) in
      let a = bad-none 25 (is_new G list) (size list) (λ k l. (t k l).0) in
      let b = bad-none 26 (in_time D list) (size list) (λ k l. (t k l).1) in
      let c = bad-none 27 (backed G list) (size list) (λ k l. (t k l).2) in
      sym
      (or-next (first_bad 25 (is_new G list) (size list)) _ (same_number a)
      ∙ or-next (first_bad 26 (in_time D list) (size list)) _ (same_number b)
      ∙ or-next (first_bad 27 (backed G list) (size list)) _ (same_number c))
