-- The road that is asked has small numbers and two ends, and its seeds are what the definitions hold before the first step. Assumes nothing.
use Rattle.std.specs.Prelude.{Option, Some, None, IfSome}
use Rattle.std.specs.Bool.{then_some}
use mathlib.Core.Path.{◌≡◌, refl, sym, ap, ap₂, subst, fun_ext, ◌∙◌}
use mathlib.Core.Logic.{◌⊎◌, inl, inr, ◌≢◌}
use mathlib.Core.Bool.{Bool, true, false, not, cond, ◌||◌}
use mathlib.Core.List.{List, []}
use Prim.Native.Nat.{ℕ, ◌+◌, ◌-◌, ◌*◌, ◌/◌, ◌%◌, ◌≤◌, ◌<◌, min}
use native.Mathlib.Omega.{arith}
use native.Mathlib.Decide.{ℕ_discrete}
use lib.Dec.{eqb, ltb}
use lib.ListN.{length, get_or-eq_default}
use borrow.Author.Tests.{eq-eqb, ne_eqb, lt-ltb, le-ltb}
use Rattle.journeys.specs.Counting.{none}
use Rattle.journeys.specs.Tables.{Tables, Walk, walk, vertex_count, walk_at}
use Rattle.journeys.specs.Query.{Query, asked, wait_ticks, place_ticks, from_ticks, to_ticks}
use Rattle.journeys.specs.Order.{Settled}
use Rattle.journeys.specs.Network.{distance_in}
use Rattle.journeys.specs.Records.{network}
use Rattle.journeys.specs.CourierRecords as courier
use Rattle.journeys.specs.CourierRecords.{on_ticks, back_ticks}
use Rattle.journeys.specs.Answers.{Lent, tables}
use Rattle.journeys.specs.RunAnswers.{held_for}
use Rattle.journeys.proofs.Tests.{cond-true, cond-false, le-or-lt}
use Rattle.journeys.proofs.Held.{departs}
use Rattle.journeys.proofs.CourierFits.{on_fits, back_fits}
use Rattle.journeys.proofs.Fits.{from-fits, to-fits}
use Rattle.journeys.proofs.Valid.{GoodWalk, good-walk}
use Rattle.journeys.specs.Valid.{Valid}
use Rattle.journeys.proofs.Decoding.{vertex-count, walk-count, walk_at_lem}
use Rattle.worktable.specs.Map.{Map, known, size, empty, put}
use Rattle.parts.specs.Listing.{road_of}
use Rattle.parts.specs.declared.Road.{Road}
use Rattle.parts.proofs.Laws.{past_is}
use Rattle.directed.specs.Directed.{due_of}
use Rattle.directed.specs.declared.Directed.{Directed}
use Rattle.heldmap.specs.Directions.{network_in}
use Rattle.heldmap.specs.Model.{held_map}
use Rattle.heldmap.proofs.HeldMap.{size-held}
use Rattle.heldmap.proofs.Directions.{searched}
use Rattle.opening.specs.Seeds.{seed_map, from_ticks_of, to_ticks_of, at_end, to_is_seed, wait_on, sent_ticks, from_is_seed, RoadFits, PairFits, pair_of, pair_map, planted, planted_if, one_or_two, seed_count}
use Rattle.opening.specs.declared.Seed.{Seed}
use Rattle.opening.specs.declared.Pair.{Pair}
use Rattle.opening.proofs.SeedsHeld.{two, two_back, ordinary-seeds, courier-seeds, seeds-held}
use Rattle.opening.proofs.SeedTable.{size-first}

-- the map of two seeds, of which `o` is one if `t` says so, and how many there are
module _ (v : List ℕ) (a : Directed) (s o : Seed) where
  pair-seeds : (t : Bool) → planted_if v a (planted v a empty s) (then_some t o) ≡ seed_map s.vertex (known s.away.0 0 (due_of v a s.vertex)) o.vertex (known o.away.0 0 (due_of v a o.vertex)) t
  unfolding planted_if seed_map
  pair-seeds true = refl
  pair-seeds false = refl

  pair-count : (t : Bool) → one_or_two (then_some t o) ≡ cond t 2 1
  unfolding one_or_two
  pair-count true = refl
  pair-count false = refl

  pair-size : (t : Bool) → s.vertex < 65536 → o.vertex < 65536 → s.vertex ≢ o.vertex → size (planted_if v a (planted v a empty s) (then_some t o)) ≡ one_or_two (then_some t o)
  pair-size t l k ne = ap size (pair-seeds t) ∙ size-first s.vertex _ _ o.vertex _ _ l k ne t ∙ sym (pair-count t)

module _ (b : Lent) (Q : Query) (ok : Valid (tables b) Q) where
  abbrev N : Tables
  N = tables b

  abbrev pub road : Road
  road = road_of b.walks Q

  pub walk_low : Q.walk < length b.walks / 16
  walk_low = rw (walk-count b.hop_size b.vertices b.walks b.hops) at ok.query.walk_low

  pub asked_is : asked N Q ≡ walk_at b.walks Q.walk
  asked_is = walk_at_lem b.hop_size b.vertices b.walks b.hops Q.walk walk_low

  good : GoodWalk N Q.walk
  good = good-walk N ok.tables Q.walk ok.query.walk_low

  pub vertices-as : vertex_count N ≡ length b.vertices / 12
  vertices-as = vertex-count b.hop_size b.vertices b.walks b.hops

  -- the numbers of the road are small, and its ends are two vertices
  pub road-fits : (Q.walk < length b.walks / 16) × (Q.offset ≤ (walk_at b.walks Q.walk).len) × (Q.speed ≤ 100)
  road-fits = (walk_low, subst (λ (x : Walk). Q.offset ≤ x.len) asked_is ok.query.offset_low, ok.query.speed_high)

  -- the ticks of both seeds
  pub from-ticks : from_ticks_of road ≡ from_ticks N Q
  from-ticks = ap (λ (k : ℕ). Q.offset + k) (sym (past_is b.hop_size b.vertices b.walks b.hops Q Q.walk Q.offset))

  pub to-ticks : to_ticks_of road ≡ to_ticks N Q
  to-ticks =
      sym
      (ap (λ (x : Walk). place_ticks Q (walk N x.twin) (x.len - Q.offset)) asked_is
      ∙ ap (λ (k : ℕ). (walk_at b.walks Q.walk).len - Q.offset + k)
      (past_is b.hop_size b.vertices b.walks b.hops Q (walk_at b.walks Q.walk).twin ((walk_at b.walks Q.walk).len - Q.offset)))

  pub road-small : (length b.vertices / 12 ≤ 65536) × (Q.walk < length b.walks / 16) × (from_ticks_of road ≤ 112000) × (to_ticks_of road ≤ 112000)
  road-small = (omega (arith, ok.tables.vertices_few, vertices-as), walk_low, omega (arith, from-ticks, from-fits N Q ok), omega (arith, to-ticks, to-fits N Q ok))

  pub road-ends : ((walk_at b.walks Q.walk).from < length b.vertices / 12) × ((walk_at b.walks Q.walk).to < length b.vertices / 12)
      × ((walk_at b.walks Q.walk).from ≢ (walk_at b.walks Q.walk).to)
  road-ends =
      subst (λ (x : Walk). (x.from < length b.vertices / 12) × (x.to < length b.vertices / 12) × (x.from ≢ x.to)) asked_is
      (omega (arith, good.from_low, vertices-as), omega (arith, good.to_low, vertices-as), good.apart)

  -- the place is the end of the road exactly if nothing is left behind it
  at_length : eqb ((walk_at b.walks Q.walk).len - Q.offset) 0 ≡ eqb Q.offset (walk_at b.walks Q.walk).len
  at_length = go (ℕ_discrete Q.offset (walk_at b.walks Q.walk).len)
    where
      len : ℕ
      len = (walk_at b.walks Q.walk).len

      go : Dec (Q.offset ≡ len) → eqb (len - Q.offset) 0 ≡ eqb Q.offset len
      go (yes e) = eq-eqb (len - Q.offset) 0 (omega arith) ∙ sym (eq-eqb Q.offset len e)
      go (no n) = ne_eqb (len - Q.offset) 0 (λ z. n (omega (arith, road-fits.1))) ∙ sym (ne_eqb Q.offset len n)

  pub to-is-seed-as : to_is_seed road ≡ two N Q ok
  unfolding to_is_seed at_end
  to-is-seed-as =
      ap₂ (λ (x : Walk) (t : Bool). not (eqb x.twin none) || t) (sym asked_is) at_length
      ∙ ap (λ (x : Walk). not (eqb (asked N Q).twin none) || eqb Q.offset x.len) (sym asked_is)

  -- the courier's ticks
  wait-on : (i : ℕ) → wait_on b.walks Q.speed i ≡ wait_ticks Q (walk N i)
  unfolding wait_on
  wait-on i = go (le-or-lt (length b.walks / 16) i)
    where
      go : (length b.walks / 16 ≤ i) ⊎ (i < length b.walks / 16) → cond (ltb i (length b.walks / 16)) ((walk_at b.walks i).wait * Q.speed) 0 ≡ wait_ticks Q (walk N i)
      go (inl l) =
          cond-false _ 0 (le-ltb i (length b.walks / 16) l)
          ∙ (let z : 0 ≡ 0 * Q.speed = omega arith in z)
          ∙ sym (ap (wait_ticks Q) (get_or-eq_default N.walks (record { from = 0; to = 0; len = 0; wait = 0; twin = 0 }) (omega (arith, walk-count b.hop_size b.vertices b.walks b.hops))))
      go (inr l) = cond-true _ 0 (lt-ltb i (length b.walks / 16) l) ∙ sym (ap (wait_ticks Q) (walk_at_lem b.hop_size b.vertices b.walks b.hops i l))

  on-ticks : sent_ticks b.walks Q.speed road.back.0 Q.walk ≡ on_ticks N Q
  unfolding sent_ticks
  on-ticks =
      ap₂ (λ (t : Bool) (k : ℕ). cond t 0 ((walk_at b.walks Q.walk).len - Q.offset + k)) at_length (wait-on Q.walk)
      ∙ ap (λ (x : Walk). cond (eqb Q.offset x.len) 0 (x.len - Q.offset + wait_ticks Q (asked N Q))) (sym asked_is)

  back-ticks : sent_ticks b.walks Q.speed Q.offset road.twin ≡ back_ticks N Q
  unfolding sent_ticks
  back-ticks = ap (λ (k : ℕ). cond (eqb Q.offset 0) 0 (Q.offset + k)) (wait-on road.twin ∙ ap (λ (x : Walk). wait_ticks Q (walk N x.twin)) (sym asked_is))

  from-is-seed-as : from_is_seed road ≡ two_back N Q ok
  unfolding from_is_seed
  from-is-seed-as = ap (λ (x : Walk). not (eqb x.twin none) || eqb Q.offset 0) (sym asked_is)

  -- ---- the seeds in either direction
  pub road-few : RoadFits b.walks road
  road-few =
      record {
        low = walk_low;
        speed = ok.query.speed_high;
        from = road-small.2;
        to = road-small.3;
        on = omega (arith, on-ticks, on_fits N Q ok);
        back = omega (arith, back-ticks, back_fits N Q ok);
      }

  if-so : {T : Type 0} (t : Bool) (x : T) (P : T → Type 0) → P x → IfSome (then_some t x) P
  if-so true x P p = p
  if-so false x P p = tt

  pub pair_fits : (c : Bool) → PairFits (length b.vertices / 12) (pair_of c b.walks road)
  unfolding pair_of
  pair_fits true =
      record {
        sure = record { vertex = road-ends.1; away = road-few.on };
        other = if-so (from_is_seed road) _ _ (record { vertex = road-ends.0; away = road-few.back }, λ z. road-ends.2 (sym z));
      }
  pair_fits false =
      record {
        sure = record { vertex = road-ends.0; away = road-few.from };
        other = if-so (to_is_seed road) _ _ (record { vertex = road-ends.1; away = road-few.to }, road-ends.2);
      }

  -- the seeds of both directions
  abbrev to-on : Seed
  to-on = record { vertex = (walk_at b.walks road.walk).to; away = record { 0 = sent_ticks b.walks road.speed road.back.0 road.walk } }

  abbrev from-back : Seed
  from-back = record { vertex = (walk_at b.walks road.walk).from; away = record { 0 = sent_ticks b.walks road.speed road.near.0 road.twin } }

  abbrev from-on : Seed
  from-on = record { vertex = (walk_at b.walks road.walk).from; away = record { 0 = from_ticks_of road } }

  abbrev to-back : Seed
  to-back = record { vertex = (walk_at b.walks road.walk).to; away = record { 0 = to_ticks_of road } }

  same-seeds : {a a' x x' m m' c c' y y' n n' : ℕ} {t t' : Bool} → a ≡ a' → x ≡ x' → m ≡ m' → c ≡ c' → y ≡ y' → n ≡ n' → t ≡ t'
      → seed_map a (known x 0 m) c (known y 0 n) t ≡ seed_map a' (known x' 0 m') c' (known y' 0 n') t'
  same-seeds p q r s t u v = rw (p, q, r, s, t, u, v)

  -- The map of the seeds is what the definitions hold before the first step, where `a` tells what is due in this direction.
  module _ (a : Directed) where
    abbrev Due : Bool → Type 0
    Due c = (u : ℕ) → u < vertex_count N → due_of b.vertices a u ≡ departs (network_in c N Q) u

    due-at : (c : Bool) → Due c → (f : Walk → ℕ) → f (asked N Q) < vertex_count N → due_of b.vertices a (f (walk_at b.walks Q.walk)) ≡ departs (network_in c N Q) (f (asked N Q))
    due-at c due f l = ap (λ (x : Walk). due_of b.vertices a (f x)) (sym asked_is) ∙ due (f (asked N Q)) l

    pub first-held : (c : Bool) → Due c → pair_map b.vertices a (pair_of c b.walks road) ≡ held_map (network_in c N Q) (distance_in [])
    unfolding pair_of
    first-held true due =
        pair-seeds b.vertices a to-on from-back (from_is_seed road)
        ∙ same-seeds (ap (λ (x : Walk). x.to) (sym asked_is)) on-ticks (due-at true due (λ x. x.to) good.to_low) (ap (λ (x : Walk). x.from) (sym asked_is)) back-ticks (due-at true due (λ x. x.from) good.from_low) from-is-seed-as
        ∙ fun_ext (λ u. seeds-held (courier.network N Q) _ _ _ _ (two_back N Q ok) (courier-seeds N Q ok) u)
    first-held false due =
        pair-seeds b.vertices a from-on to-back (to_is_seed road)
        ∙ same-seeds (ap (λ (x : Walk). x.from) (sym asked_is)) from-ticks (due-at false due (λ x. x.from) good.from_low) (ap (λ (x : Walk). x.to) (sym asked_is)) to-ticks (due-at false due (λ x. x.to) good.to_low) to-is-seed-as
        ∙ fun_ext (λ u. seeds-held (network N Q) _ _ _ _ (two N Q ok) (ordinary-seeds N Q ok) u)

    -- there are as many seeds as the definitions hold
    pub seeds-sized : (c : Bool) → Due c → (l : List Settled) → seed_count (pair_of c b.walks road) ≡ length (held_for (network_in c N Q) l 0)
    unfolding pair_of
    seeds-sized c due l = sym (sized c) ∙ ap size (first-held c due) ∙ size-held (network_in c N Q) (distance_in []) (searched c N Q ok).bounded ok.tables.vertices_few
      where
        sized : (c : Bool) → size (pair_map b.vertices a (pair_of c b.walks road)) ≡ seed_count (pair_of c b.walks road)
        sized true = pair-size b.vertices a to-on from-back (from_is_seed road) (omega (arith, road-ends.1, road-small.0)) (omega (arith, road-ends.0, road-small.0)) (λ z. road-ends.2 (sym z))
        sized false = pair-size b.vertices a from-on to-back (to_is_seed road) (omega (arith, road-ends.0, road-small.0)) (omega (arith, road-ends.1, road-small.0)) road-ends.2

  abbrev pub capacity : ℕ
  capacity = min (length b.held / 16) (min (length b.vertices / 12) 65536)

  -- ---- the same with the road as the code has it
  module _ (r : Road) (e : r ≡ road) (c : Bool) where
    pub road-needs : length b.held % 16 ≡ 0
        → ((length b.held % 16 ≡ 0) × (length b.vertices / 12 ≤ 65536) × RoadFits b.walks r) × PairFits (length b.vertices / 12) (pair_of c b.walks r)
    road-needs h =
        subst (λ (z : Road). ((length b.held % 16 ≡ 0) × (length b.vertices / 12 ≤ 65536) × RoadFits b.walks z) × PairFits (length b.vertices / 12) (pair_of c b.walks z)) (sym e)
        ((h, road-small.0, road-few), pair_fits c)
