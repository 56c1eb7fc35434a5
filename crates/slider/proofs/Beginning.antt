-- More time, same beginning, stated once over the direction. Assumes nothing.
use mathlib.Core.Path.{◌≡◌, sym, ap, subst, ◌∙◌}
use mathlib.Core.Logic.{◌⊎◌, inl, inr, ⊎_elim, ◌≢◌}
use mathlib.Core.List.{List, [], ◌++◌}
use Prim.Native.Nat.{ℕ, ◌-◌, ◌≤◌, ◌<◌}
use native.Mathlib.Omega.{arith}
use native.Mathlib.Nat.{mul-le-mul_right}
use lib.ListN.{length, take, drop}
use lib.Seq.{take-append_seam, drop-append_seam}
use Rattle.journeys.specs.Counting.{none, In}
use Rattle.journeys.specs.Tables.{Tables, walk, walk_count}
use Rattle.journeys.specs.Query.{Query, allowed}
use Rattle.journeys.specs.Network.{Network}
use Rattle.journeys.specs.Order.{Settled, settled, Order}
use Rattle.journeys.specs.Valid.{Valid}
use Rattle.journeys.proofs.Tests.{le-or-lt}
use Rattle.journeys.proofs.Valid.{paired}
use Rattle.journeys.proofs.Firsts.{more-time, order_same, follows-each, follows-drop, follows-apart}
use Rattle.journeys.proofs.Told.{order-all}
use Rattle.slider.specs.Longer.{during, Longer}
use Rattle.slider.specs.Directions.{Direction, Orders, Covers}
use Rattle.slider.proofs.SameOrder.{allowing, order-under}
use Rattle.slider.proofs.Lawful.{Lawful}

module _ (N : Tables) (R : Direction) (law : Lawful N R) where
  -- the order of the query with another duration, over the network and the distances of the first
  over_first : (Q : Query) (s : ℕ) {l : List Settled} → Orders R (during Q s) l → Order (R.network Q) (R.distance Q) (allowed (during Q s)) l
  over_first Q s {l} O =
      let D : ℕ = allowed (during Q s) in
      let a : Order (allowing (R.network Q) D) (R.distance (during Q s)) D l = subst (λ (G : Network). Order G (R.distance (during Q s)) D l) (law.network Q s) O in
      order-under (R.network Q) D D (R.distance Q)
      (order_same (allowing (R.network Q) D) (λ v d x. law.distance (during Q s) Q.duration v d x) (λ v d x. law.distance Q s v d x) a)

  module _ (Q Q' : Query) (longer : Longer Q Q') where
    more-ticks : allowed Q ≤ allowed (during Q Q'.duration)
    more-ticks = mul-le-mul_right Q.speed longer.more

    over : {l' : List Settled} → Orders R Q' l' → Order (R.network Q) (R.distance Q) (allowed (during Q Q'.duration)) l'
    over {l'} O = over_first Q Q'.duration (subst (λ (q : Query). Orders R q l') longer.only O)

    module _ {l l' : List Settled} (O : Orders R Q l) (O' : Orders R Q' l') where
      -- The list of the shorter duration is the start of the longer one's, distances included.
      pub same-beginning : (zs : List Settled) × (l' ≡ l ++ zs)
      same-beginning = more-time (R.network Q) (R.distance Q) more-ticks O (over O')

      -- What the longer one lists besides is farther than the shorter time allows: it may be cut at the first distance above it.
      pub beyond : Valid N Q → (x : Settled) → In x same-beginning.0 → allowed Q < x.distance
      beyond ok x i =
          let zs = same-beginning.0 in
          let whole : Order (R.network Q) (R.distance Q) (allowed (during Q Q'.duration)) (l ++ zs) =
          subst (Order (R.network Q) (R.distance Q) (allowed (during Q Q'.duration))) same-beginning.1 (over O') in
          let rest = follows-drop (R.network Q) (R.distance Q) (allowed (during Q Q'.duration)) (length l) [] (l ++ zs) whole.steps in
          let i' : In x (drop (length l) (l ++ zs)) = subst (In x) (sym (drop-append_seam l zs)) i in
          let is = (follows-each (R.network Q) (R.distance Q) (allowed (during Q Q'.duration)) (take (length l) (l ++ zs)) (drop (length l) (l ++ zs)) rest x i').0 in
          let apart = follows-apart (R.network Q) (R.distance Q) (allowed (during Q Q'.duration)) (take (length l) (l ++ zs)) (drop (length l) (l ++ zs)) rest x i' x.distance in
          let O° : Order (R.network Q) (R.distance Q) (R.network Q).allowed l = subst (λ (D : ℕ). Order (R.network Q) (R.distance Q) D l) (sym (law.window Q)) O in
          let listed : x.distance ≤ (R.network Q).allowed → In x l = λ h. order-all (R.network Q) (law.ways Q) (R.distance Q) (law.told Q ok) O° x.vertex x.distance is h in
          ⊎_elim (λ (h : x.distance ≤ allowed Q). absurd (apart (subst (In x) (sym (take-append_seam l zs)) (listed (omega (arith, law.window Q))))))
          (λ (h : allowed Q < x.distance). h)
          (le-or-lt x.distance (allowed Q))

    -- Every place that the shorter covers the longer covers, whatever tells the places of each.
    pub stays-covered : {lies lies' : ℕ → ℕ → Type 0} → Covers N R Q lies → Covers N R Q' lies' → (i x : ℕ) → i < walk_count N → 0 < x → x < (walk N i).len → lies i x → lies' i x
    stays-covered C C' i x il x0 xl c =
        let y = (C.exactly i x il x0 xl).0 c in
        let z : R.inside Q' i x y.0 = subst (λ (q : Query). R.inside q i x y.0) (sym longer.only) (law.inside Q Q'.duration i x y.0 y.2) in
        let e : allowed Q' ≡ allowed (during Q Q'.duration) = ap allowed longer.only in
        (C'.exactly i x il x0 xl).1 (y.0, omega (arith, y.1, more-ticks, e), z)

    -- So does every point of a road with a twin, which either record may cover.
    pub point-stays-covered : Valid N Q → {lies lies' : ℕ → ℕ → Type 0} → Covers N R Q lies → Covers N R Q' lies' → (i x : ℕ) → i < walk_count N → (walk N i).twin ≢ none → 0 < x → x < (walk N i).len
        → lies i x ⊎ lies (walk N i).twin ((walk N i).len - x) → lies' i x ⊎ lies' (walk N i).twin ((walk N i).len - x)
    point-stays-covered ok {lies} {lies'} C C' i x il n x0 xl =
        let pair = paired N ok.tables i il n in
        let e : (walk N (walk N i).twin).len ≡ (walk N i).len = pair.1.len in
        ⊎_elim (λ (y : lies i x). inl (stays-covered C C' i x il x0 xl y))
        (λ (y : lies (walk N i).twin ((walk N i).len - x)). inr (stays-covered C C' (walk N i).twin ((walk N i).len - x) pair.0 (omega arith) (omega (arith, e)) y))
