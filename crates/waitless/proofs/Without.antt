-- Where no walk has a wait, each rule is what it was before. Assumes nothing.
use mathlib.Core.Path.{◌≡◌, refl, sym, ap, ap₂, subst, fun_ext, ◌∙◌}
use mathlib.Core.Logic.{◌≢◌}
use mathlib.Core.Bool.{Bool, true, false, not, cond, ◌&&◌, ◌||◌}
use mathlib.Core.List.{List, [], ◌∷◌, ◌++◌, flat_map}
use Prim.Native.Nat.{ℕ, ◌+◌, ◌-◌, ◌*◌, ◌/◌, ◌<◌, min, max}
use native.Mathlib.Omega.{arith}
use lib.Dec.{eqb, ltb}
use lib.ListN.{length}
use borrow.Author.Tests.{le-leb}
use Rattle.journeys.specs.Counting.{none, joined}
use Rattle.journeys.specs.Tables.{Tables, walk, hop, vertex_count, walk_count, hop_count}
use Rattle.journeys.specs.Query.{Query, asked, asked_twin, allowed, wait_ticks, past_ticks, walk_ticks, place_ticks, from_ticks, to_ticks}
use Rattle.journeys.specs.Journeys as now
use Rattle.journeys.specs.Journeys.{Journey, Distance}
use Rattle.journeys.specs.Settled.{Settled}
use Rattle.journeys.specs.Network.{Network}
use Rattle.journeys.specs.Records as records
use Rattle.journeys.specs.Records.{Record, walked, ridden, offer, seed, record_at, record_count, network}
use Rattle.journeys.specs.Parts.{Part, part, near, first_part, first_parts, part_at, parts_at, part_list}
use Rattle.journeys.specs.Refusals.{Refusal, chain, first_bad, ends_ok, length_ok, twin_ok, walk_ok, hop_ok, walk_ascends, hop_ascends, vertex_ok, contents}
use Rattle.journeys.proofs.Tests.{and_both}
use Rattle.waitless.specs.Before as old
use Rattle.waitless.specs.Before.{JourneyBefore, DistanceBefore, walk_ok_before, contents_before, offer_before, seed_before, network_before, first_part_before, part_at_before, part_list_before}

-- no walk has a wait
abbrev pub Waitless : Tables → Type 0
Waitless N = (i : ℕ) → (walk N i).wait ≡ 0

module _ (N : Tables) (W : Waitless N) where
  -- ---- refusal 2
  walk-ok-same : (i : ℕ) → walk_ok N i ≡ walk_ok_before N i
  unfolding walk_ok walk_ok_before
  walk-ok-same i = rw (W i) (and_yes (ends_ok _ _ _ && length_ok (walk N i).len))
    where
      and_yes : (b : Bool) → (b && true) && twin_ok N i (walk N i) ≡ b && twin_ok N i (walk N i)
      and_yes true = refl
      and_yes false = refl

  pub contents-same : contents N ≡ contents_before N
  unfolding contents contents_before
  contents-same =
      ap (λ (ok : ℕ → Bool). chain (first_bad 2 ok (walk_count N) ∷ first_bad 3 (hop_ok N) (hop_count N) ∷ first_bad 4 (walk_ascends N) (walk_count N) ∷ first_bad 5 (hop_ascends N) (hop_count N) ∷ first_bad 6 (vertex_ok N) (vertex_count N) ∷ []))
      (fun_ext walk-ok-same)

  module _ (Q : Query) where
    -- ---- ticks
    no-wait : (i : ℕ) → wait_ticks Q (walk N i) ≡ 0
    no-wait i = ap (λ (s : ℕ). s * Q.speed) (W i) ∙ omega arith

    none-past : (i place : ℕ) → past_ticks Q (walk N i) place ≡ 0
    none-past i place = go (eqb place (walk N i).len)
      where
        go : (t : Bool) → cond t (wait_ticks Q (walk N i)) 0 ≡ 0
        go true = no-wait i
        go false = refl

    walk_same : (i : ℕ) → walk_ticks Q (walk N i) ≡ (walk N i).len
    walk_same i = omega (arith, no-wait i)

    from-same : from_ticks N Q ≡ Q.offset
    from-same = omega (arith, none-past Q.walk Q.offset)

    to_same : to_ticks N Q ≡ (asked N Q).len - Q.offset
    to_same = omega (arith, none-past (asked N Q).twin ((asked N Q).len - Q.offset))

    -- ---- journeys
    pub to-before : {v d : ℕ} → Journey N Q v d → JourneyBefore N Q v d
    to-before now.from_end = subst (JourneyBefore N Q (asked N Q).from) (sym from-same) old.from_end
    to-before (now.to_end n) = subst (JourneyBefore N Q (asked N Q).to) (sym to_same) (old.to_end n)
    to-before (now.at_to e) = old.at_to e
    to-before (now.by_walk i l {d = d} j) = subst (λ (t : ℕ). JourneyBefore N Q (walk N i).from (d + t)) (sym (walk_same i)) (old.by_walk i l (to-before j))
    to-before (now.by_hop i l a j) = old.by_hop i l a (to-before j)
    to-before (Journey.wait h j) = JourneyBefore.wait h (to-before j)

    pub from-before : {v d : ℕ} → JourneyBefore N Q v d → Journey N Q v d
    from-before old.from_end = subst (Journey N Q (asked N Q).from) from-same now.from_end
    from-before (old.to_end n) = subst (Journey N Q (asked N Q).to) to_same (now.to_end n)
    from-before (old.at_to e) = now.at_to e
    from-before (old.by_walk i l {d = d} j) = subst (λ (t : ℕ). Journey N Q (walk N i).from (d + t)) (walk_same i) (now.by_walk i l (from-before j))
    from-before (old.by_hop i l a j) = now.by_hop i l a (from-before j)
    from-before (JourneyBefore.wait h j) = Journey.wait h (from-before j)

    pub distance-before : (v d : ℕ) → Distance N Q v d → DistanceBefore N Q v d
    distance-before v d x = record { starts = to-before x.starts; latest = λ d' j. x.latest d' (from-before j) }

    pub distance-now : (v d : ℕ) → DistanceBefore N Q v d → Distance N Q v d
    distance-now v d x = record { starts = from-before x.starts; latest = λ d' j. x.latest d' (to-before j) }

    -- ---- the network
    seed-same : (v : ℕ) → seed N Q v ≡ seed_before N Q v
    unfolding seed seed_before
    seed-same v =
        ap₂ (λ (a b : ℕ). min (cond (eqb (asked N Q).from v) a none) (cond (eqb (asked N Q).to v && (not (eqb (asked N Q).twin none) || eqb Q.offset (asked N Q).len)) b none)) from-same to_same

    offer-same : (r : ℕ) → offer Q (record_at N r) ≡ offer_before N Q (record_at N r)
    unfolding record_at offer offer_before
    offer-same r = fun_ext (λ d. go d (ltb r (walk_count N)))
      where
        go : (d : ℕ) (t : Bool) → offer Q (cond t (walked (walk N r)) (ridden (hop N (r - walk_count N)))) d ≡ offer_before N Q (cond t (walked (walk N r)) (ridden (hop N (r - walk_count N)))) d
        go d true = ap (λ (t : ℕ). d + t) (walk_same r)
        go d false = refl

    pub network-same : network N Q ≡ network_before N Q
    network-same = ap₂ over (fun_ext seed-same) (fun_ext offer-same)
      where
        over : (ℕ → ℕ) → (ℕ → ℕ → ℕ) → Network
        over seed offer = record { vertices = (network_before N Q).vertices; records = record_count N; allowed = allowed Q; from = λ r. records.from (record_at N r); to = λ r. records.to (record_at N r); seed = seed; offer = offer }

    -- ---- parts
    first-same : (i : ℕ) → first_part N Q i ≡ first_part_before N Q i
    unfolding first_part first_part_before
    first-same i = ap (λ (k : ℕ). part i (near N Q i - k) (near N Q i)) (omega (arith, none-past i (near N Q i)))

    at_same : (d i : ℕ) → part_at N Q d i ≡ part_at_before N Q d i
    unfolding part_at part_at_before
    at_same d i = ap (λ (k : ℕ). part i (max ((walk N i).len - k) (near N Q i)) (walk N i).len) (let z : allowed Q - d - wait_ticks Q (walk N i) ≡ allowed Q - d = omega (arith, no-wait i) in z)

    pub parts_same : (S : List Settled) → part_list N Q S ≡ part_list_before N Q S
    unfolding part_list first_parts parts_at part_list_before
    parts_same S =
        ap₂ (λ (f : ℕ → List Part) (g : ℕ → ℕ → List Part). (f Q.walk ++ cond (eqb (asked N Q).twin none) [] (f (asked N Q).twin)) ++ flat_map (λ (x : Settled). joined (λ i. cond (eqb (walk N i).to x.vertex) (g x.distance i) []) (walk_count N)) S)
        (fun_ext first-same) (fun_ext (λ d. fun_ext (at_same d)))
