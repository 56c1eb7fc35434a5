-- The three ways in which the parts operation ends, in either direction, are the answer of the definitions. Assumes nothing.
use mathlib.Core.Path.{◌≡◌, refl, sym, ap, ap₂, subst, ◌∙◌}
use mathlib.Core.Logic.{◌≢◌}
use mathlib.Core.Bool.{Bool, true, false}
use mathlib.Core.List.{List, ◌++◌, flat_map}
use Prim.Native.Nat.{ℕ, ◌+◌, ◌-◌, ◌*◌, ◌/◌, ◌≤◌, ◌<◌}
use native.Mathlib.Omega.{arith}
use lib.ListN.{length, take, drop, replicate}
use lib.Seq.{take_all, take-append_seam}
use borrow.Author.Tests.{eq-eqb}
use Rattle.journeys.specs.Bytes.{filled, cleared}
use Rattle.journeys.specs.Tables.{Tables, walk_at, walk_count, tables_of, vertex_count}
use Rattle.journeys.specs.Query.{Query, allowed}
use Rattle.journeys.specs.Order.{Settled}
use Rattle.journeys.specs.Parts.{Part, part_bytes}
use Rattle.journeys.specs.Refusals.{Refusal, fine}
use Rattle.journeys.specs.Lists.{settled_in}
use Rattle.journeys.specs.ListAnswers.{parts_refused_for, parts_accepted_for, parts_answer_for}
use Rattle.journeys.specs.PartAnswers as answers
use Rattle.journeys.proofs.Tests.{cond-true}
use Rattle.journeys.proofs.Counting.{flat-length}
use Rattle.journeys.proofs.CourierCoverage as courier
use Rattle.journeys.proofs.Decoding.{walk_at_lem, walk-count}
use Rattle.journeys.proofs.Fits as ordinary
use Rattle.journeys.proofs.Fits.{Distinct}
use Rattle.journeys.proofs.Valid.{allowed-high}
use Rattle.journeys.proofs.PartAnswers.{settled-count, refused-before, refused-short, all-fits}
use Rattle.words.specs.Told.{told}
use Rattle.words.specs.Written.{written}
use Rattle.words.specs.Refusal as words
use Rattle.words.proofs.Written.{front, length-written}
use Rattle.records.proofs.RecordBytes.{length_part}
use Rattle.lists.proofs.Entries.{good-few}
use Rattle.parts.specs.Listing.{road_of, Behind}
use Rattle.parts.specs.declared.Road.{Road}
use Rattle.covering.specs.Covering.{Ready, Accepted, first_in, entry_in, listed_in, part_list_in, CoveredIs}
use Rattle.covering.specs.Lending.{count_in, parts_answer_of}
use Rattle.std.specs.Prelude.{Result, Ok, Err, MatchResult}
use Rattle.covering.proofs.ListIsParts.{entry-good, ready, parts_are}
use Rattle.covering.proofs.ListDistinct.{list-distinct}

-- Refusals before the parts: the part buffer is as it was.
pub refused_as_lem : (parts_of : List Settled → List Part) (list parts : List ℕ) (early : Refusal) (r : Result ℕ words.Refusal) → told r ≡ early → count_in r ≡ 0 → early.number ≢ 0
    → parts_answer_of r parts ≡ parts_answer_for parts_of list parts early
unfolding parts_refused_for
refused_as_lem parts_of list parts early r e z n =
    ap₂ (λ (x : Refusal) (k : ℕ). record { refusal = x.number; place = x.place; part_count = k; parts = parts }) e z ∙ sym (refused-before parts_of list parts early n)

-- which reason is not there does not matter
pub accepted-as : (parts_of : List Settled → List Part) (list parts : List ℕ) (early : Refusal) → early.number ≡ 0 → parts_answer_for parts_of list parts fine ≡ parts_answer_for parts_of list parts early
unfolding parts_answer_for
accepted-as parts_of list parts early e = sym (cond-true _ _ (eq-eqb early.number 0 e))

-- no more parts than walks, and two for the query's road
parts-most : (c : Bool) (N : Tables) (Q : Query) (S : List Settled) → Distinct S → length (part_list_in c N Q S) ≤ walk_count N + 2
unfolding part_list_in
parts-most false N Q S d = ordinary.parts-most N Q S d
parts-most true N Q S d = courier.parts-most N Q S d

module _ (c : Bool) (size : ℕ) (v w h r list parts : List ℕ) (Q : Query) (a : Accepted c size v w h r list Q) where
  abbrev N : Tables
  N = tables_of size v w h

  abbrev n : ℕ
  n = length list / 8

  abbrev parts_of : List Settled → List Part
  parts_of = part_list_in c (tables_of size v w h) Q

  abbrev f : ℕ → List Part
  f = listed_in (first_in c (road_of w Q) (allowed Q)) (entry_in c size v w h r list (road_of w Q) (allowed Q))

  -- what reading the road and listing ask for
  pub road-fits : (Q.walk < length w / 16) × (Q.offset ≤ (walk_at w Q.walk).len) × (Q.speed ≤ 100)
  road-fits =
      let l : Q.walk < length w / 16 = omega (arith, a.valid.query.walk_low, walk-count size v w h) in
      (l, rw (walk_at_lem size v w h Q.walk l) at a.valid.query.offset_low, a.valid.query.speed_high)

  pub query-high : (Q.duration ≤ 86400) × (Q.speed ≤ 100)
  query-high = (a.valid.query.duration_high, a.valid.query.speed_high)

  pub list-fits : (e : Road) → e ≡ road_of w Q → (D : ℕ) → D ≡ allowed Q → Ready c size v w h r list e D
  list-fits e s D q = subst (λ (z : Road). Ready c size v w h r list z D) (sym s) (subst (λ (z : ℕ). Ready c size v w h r list (road_of w Q) z) (sym q) (ready c size v w h r list Q a))

  same_parts : (k : ℕ) → k ≤ n → parts_of (take k (settled_in list)) ≡ f k
  same_parts = parts_are c size v w h r list Q a

  -- Refusal 10: the part buffer is zero.
  pub full-low : (b' : List ℕ) (k : ℕ) → CoveredIs f n parts b' (Err k) → k < 4294967296
  unfolding CoveredIs
  full-low b' k x =
      let few = good-few 8 (vertex_count N) (allowed Q) list a.valid.tables.vertices_few n a.good in
      omega (arith, x.made, few, a.valid.tables.vertices_few)

  pub full-as : (b' : List ℕ) (k : ℕ) → CoveredIs f n parts b' (Err k) → record { refusal = 10; place = k; part_count = 0; parts = cleared b' } ≡ parts_answer_for parts_of list parts fine
  unfolding CoveredIs parts_refused_for cleared
  full-as b' k x =
      ap (λ (m : ℕ). record { refusal = 10; place = k; part_count = 0; parts = replicate m 0 }) x.same
      ∙ sym (refused-short parts_of list parts fine refl k (omega (arith, x.made, settled-count list))
      (λ room. let z : ⊥ = omega (arith, room, x.over, ap length (same_parts k x.made)) in z)
      (λ j l. omega (arith, x.before j l, ap length (same_parts j (omega (arith, x.made))))))

  -- All parts fit: they stand at the front, and the rest is zero.
  whole : parts_of (settled_in list) ≡ f n
  whole = ap parts_of (sym (take_all n (settled_in list) (omega (arith, settled-count list)))) ∙ same_parts n (omega arith)

  distinct : Distinct (settled_in list)
  unfolding settled_in
  distinct = list-distinct 8 (vertex_count N) (allowed Q) list n a.good (λ i l. omega (arith, (entry-good c size v w h r list Q a i l).1, allowed-high a.valid.query))

  module _ (b' : List ℕ) (k : ℕ) (C : CoveredIs f n parts b' (Ok k)) where
    listed : Behind 0 (f n) parts b' k
    unfolding CoveredIs
    listed = C.0

    roomy : (j : ℕ) → j ≤ n → length (f j) ≤ length parts / 12
    unfolding CoveredIs
    roomy = C.1

    abbrev bytes : List ℕ
    bytes = flat_map part_bytes (f n)

    long : length bytes ≡ 12 * k
    long = omega (arith, flat-length part_bytes 12 length_part (f n), listed.counted)

    fit : 12 * k ≤ length parts
    fit = omega (arith, listed.room)

    stands : b' ≡ written parts 0 bytes
    stands = listed.bytes ∙ ap (λ (j : ℕ). written parts j bytes) (let z : 12 * 0 ≡ 0 = omega arith in z)

    same : length b' ≡ length parts
    same = ap length stands ∙ length-written parts 0 bytes (omega (arith, long, fit))

    pub all-low : (12 * k ≤ length b') × (k < 4294967296)
    all-low = (omega (arith, fit, same), omega (arith, listed.counted, ap length whole, parts-most c N Q (settled_in list) distinct, a.valid.tables.walks_few))

    front-is : take (12 * k) b' ≡ bytes
    front-is =
        ap (take (12 * k)) (stands ∙ front parts bytes)
        ∙ ap (λ (j : ℕ). take j (bytes ++ drop (length bytes) parts)) (sym long)
        ∙ take-append_seam bytes (drop (length bytes) parts)

    pub all-as : parts_answer_of (Ok k) (filled b' (take (12 * k) b')) ≡ parts_answer_for parts_of list parts fine
    unfolding parts_accepted_for filled
    all-as =
        ap (λ (z : List ℕ). record { refusal = 0; place = 0; part_count = k; parts = z }) (ap (λ (z : List ℕ). z ++ replicate (length b' - length z) 0) front-is ∙ ap (λ (j : ℕ). bytes ++ replicate (j - length bytes) 0) same)
        ∙ ap (λ (j : ℕ). record { refusal = 0; place = 0; part_count = j; parts = bytes ++ replicate (length parts - length bytes) 0 }) (let z : k ≡ length (f n) = omega (arith, listed.counted) in z)
        ∙ ap (λ (ps : List Part). record { refusal = 0; place = 0; part_count = length ps; parts = flat_map part_bytes ps ++ replicate (length parts - length (flat_map part_bytes ps)) 0 }) (sym whole)
        ∙ sym (all-fits parts_of list parts fine refl (λ j l. omega (arith, roomy j (omega (arith, l, settled-count list)), ap length (same_parts j (omega (arith, l, settled-count list))))))

  -- x is what listing the entries answered
  pub end-ready : (b' : List ℕ) (x : Result ℕ ℕ) → CoveredIs f n parts b' x → MatchResult x (λ k. (12 * k ≤ length b') × (k < 4294967296)) (λ k. k < 4294967296)
  end-ready b' (Ok k) C = all-low b' k C
  end-ready b' (Err k) C = full-low b' k C

  pub end-as : (b' : List ℕ) (x : Result ℕ ℕ) → CoveredIs f n parts b' x → (A : answers.PartsAnswer)
      → MatchResult x (λ k. A ≡ parts_answer_of (Ok k) (filled b' (take (12 * k) b'))) (λ k. A ≡ record { refusal = 10; place = k; part_count = 0; parts = cleared b' })
      → A ≡ parts_answer_for parts_of list parts fine
  end-as b' (Ok k) C A m = m ∙ all-as b' k C
  end-as b' (Err k) C A m = m ∙ full-as b' k C

-- ---- by the road and the D that the code has
module _ (c : Bool) (size : ℕ) (v w h r list parts : List ℕ) (Q : Query) (e : Road) (q : e ≡ road_of w Q) (D : ℕ) (d : D ≡ allowed Q) (b' : List ℕ) (x : Result ℕ ℕ) where
  abbrev listing : Road → ℕ → ℕ → List Part
  listing z E = listed_in (first_in c z E) (entry_in c size v w h r list z E)

  pub covered-told : CoveredIs (listed_in (first_in c e D) (entry_in c size v w h r list e D)) (length list / 8) parts b' x
      → CoveredIs (listed_in (first_in c (road_of w Q) (allowed Q)) (entry_in c size v w h r list (road_of w Q) (allowed Q))) (length list / 8) parts b' x
  covered-told t =
      subst (λ (z : Road). CoveredIs (listing z (allowed Q)) (length list / 8) parts b' x) q
      (subst (λ (E : ℕ). CoveredIs (listing e E) (length list / 8) parts b' x) d t)
