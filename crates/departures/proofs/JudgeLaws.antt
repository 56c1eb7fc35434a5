-- From the lowest lines among the sorted records to the answer of the definitions. Assumes nothing.
use mathlib.Core.Path.{◌≡◌, refl, sym, ap, ap₂, subst, ◌∙◌}
use mathlib.Core.Logic.{◌⊎◌, inl, inr, ⊎_elim, ◌≢◌}
use mathlib.Core.Bool.{Bool, true, false, cond}
use mathlib.Core.List.{List, [], ◌∷◌, ◌++◌, map, flat_map}
use Prim.Native.Nat.{ℕ, zero, suc, ◌+◌, ◌-◌, ◌*◌, ◌/◌, ◌%◌, ◌<◌, ◌≤◌, ◌^◌}
use native.Mathlib.Omega.{arith}
use lib.Dec.{eqb}
use lib.ListN.{length, drop, length-map}
use borrow.Author.Tests.{eq-eqb, ne_eqb}
use Rattle.journeys.specs.Counting.{none, least, joined, In}
use Rattle.journeys.specs.Bytes.{filled, cleared}
use Rattle.journeys.specs.Refusals.{Refusal, fine, or_else}
use Rattle.journeys.proofs.Tests.{split, cond-true, cond-false}
use Rattle.journeys.proofs.Counting.{least-le, least-is, least-none}
use Rattle.journeys.proofs.Refusals.{or-first, or-next}
use Rattle.table_bytes.specs.Columns.{at}
use Rattle.sorting.specs.Sorted.{recs, sorted}
use Rattle.sorting.proofs.Arranged.{sorted-from, sorted-ascends, sorted-length}
use Rattle.feed.specs.Lines.{place}
use Rattle.lines.proofs.Passes.{place_is}
use Rattle.feed.specs.Stops.{Stop}
use Rattle.feed.specs.Trips.{stop, next, once, in_time, first_bad_stop, hops_of}
use Rattle.succession.specs.Entries.{stop_in, stops_in, lowest_bad, AllOnce}
use Rattle.succession.proofs.OrderLaws.{ordered, stop-at, stops-length}
use Rattle.succession.proofs.Rearranged.{from_sorted, times-sorted, repeats-sorted}
use Rattle.connections.specs.Gathered.{hop_entry, hop_entries, gathered_in}
use Rattle.connections.proofs.GatherLaws.{few}
use Rattle.connections.proofs.Consecutive.{hop-from}
use Rattle.relabelled.proofs.AlikeLaws.{once-alike, time-alike}
use Rattle.hoporder.specs.Named.{stops_named}
use Rattle.hoporder.specs.Hops.{Placed, entries_of, hop_out}
use Rattle.hoporder.proofs.PairwiseLaws.{at_in}
use Rattle.hoporder.proofs.HopFields.{small, placed-sorted, entry-trip}
use Rattle.hoporder.proofs.LineLaws.{all-good, named-alike, below_none, none-bad, lowest-bad}
use Rattle.hoporder.proofs.HopOrder.{in_order_lem, hops-named}
use Rattle.hopbytes.specs.Listing.{trip_at, Good, OnTrip, OnTrips}
use Rattle.departures.specs.Entries.{stops_at, Listed}
use Rattle.departures.specs.Answered.{trips_refusal, trips_hops, trips_bytes}
use Rattle.departures.proofs.SliceLaws.{recs-are, flat-joined, filled-same, cleared-same}

pub on-sorted : (trips W : List ℕ) → OnTrips trips W → OnTrips trips (sorted W)
on-sorted trips W f i h = let r = (sorted-from W).found i h in subst (OnTrip trips) (sym r.2) (f r.0 r.1)

-- a refusal, and none
module _ (S : List Stop) (b c : List ℕ) (len : length c ≡ length b) where
  pub refused-hops : ((trips_refusal S).number ≡ 0 → ⊥) → 0 ≡ trips_hops S
  unfolding trips_hops
  refused-hops f = sym (cond-false (length (hops_of S)) 0 (ne_eqb (trips_refusal S).number 0 f))

  pub refused-bytes : {d : List ℕ} → ((trips_refusal S).number ≡ 0 → ⊥) → d ≡ cleared c → d ≡ trips_bytes S b
  unfolding trips_bytes
  refused-bytes f e = e ∙ cleared-same c b len ∙ sym (cond-false (filled b (flat_map (λ h. h) (hops_of S))) (cleared b) (ne_eqb (trips_refusal S).number 0 f))

  pub refusal-told : {a : Refusal} {x h : ℕ} {d : List ℕ} (k : ℕ) → 0 < k → a ≡ record { number = k; place = x } → record { number = k; place = x } ≡ trips_refusal S → h ≡ 0 → d ≡ cleared c
      → {n : ℕ} → (a ≡ trips_refusal S) × (h ≡ trips_hops S) × (d ≡ trips_bytes S b) × (h ≤ n)
  refusal-told k p q t e z =
      let f : (trips_refusal S).number ≡ 0 → ⊥ = λ y. absurd (omega (arith, ap (λ (r : Refusal). r.number) t)) in
      (q ∙ t, e ∙ refused-hops f, refused-bytes f z, omega arith)

  module _ (f : (trips_refusal S).number ≡ 0) where
    pub accepted-hops : trips_hops S ≡ length (hops_of S)
    unfolding trips_hops
    accepted-hops = cond-true (length (hops_of S)) 0 (eq-eqb (trips_refusal S).number 0 f)

    pub accepted-bytes : filled c (flat_map (λ h. h) (hops_of S)) ≡ trips_bytes S b
    unfolding trips_bytes
    accepted-bytes = filled-same c b (flat_map (λ h. h) (hops_of S)) len ∙ sym (cond-true (filled b (flat_map (λ h. h) (hops_of S))) (cleared b) (eq-eqb (trips_refusal S).number 0 f))

module _ (trips W : List ℕ) (l : Listed trips W) where
  abbrev S : List Stop
  S = stops_at trips W

  abbrev E : List Stop
  E = stops_in W

  abbrev E' : List Stop
  E' = stops_in (sorted W)

  told-whole : (good : ℕ → Bool) {r : ℕ} → r ≡ lowest_bad E good → place r ≡ r
  unfolding lowest_bad
  told-whole good {r} q = place_is r (subst (λ (x : ℕ). x ≤ none) (sym q) (least-none (λ i. cond (good i) none (stop E i).line) (length E)))

  -- 15
  module _ {r : ℕ} (e : r ≡ lowest_bad E' (once E')) where
    pub fifteen : r ≡ lowest_bad E (once E)
    fifteen = e ∙ repeats-sorted W l.rising.rises

    pub fifteen-told : (r ≡ none → ⊥) → record { number = 15; place = r } ≡ trips_refusal S
    unfolding trips_refusal
    fifteen-told n =
        let first = lowest-bad (λ x. x) (trip_at trips) W l.rising 15 (omega arith) (once E) (once S) (once-alike (named-alike (λ x. x) (trip_at trips) W)) fifteen n in
        ap (λ (y : ℕ). record { number = 15; place = y }) (sym (told-whole (once E) fifteen)) ∙ sym (or-first (first_bad_stop S 15 (once S)) (first_bad_stop S 16 (in_time S)) (λ z. omega (arith, ap (λ (y : Refusal). y.number) first)) ∙ first)

    module _ (n : r ≡ none) where
      pub all_once : AllOnce E
      all_once = all-good E (once E) (below_none (λ x. x) (trip_at trips) W l.rising) (sym fifteen ∙ n)

      below-none' : (i : ℕ) → i < length E' → (stop E' i).line < none
      below-none' i h = let k = (from_sorted W).found i h in rw k.2 (below_none (λ x. x) (trip_at trips) W l.rising k.0 k.1)

      pub all-once' : AllOnce E'
      all-once' = all-good E' (once E') below-none' (sym e ∙ n)

      no-fifteen : first_bad_stop S 15 (once S) ≡ fine
      no-fifteen = none-bad (λ x. x) (trip_at trips) W l.rising 15 (omega arith) (once E) (once S) (once-alike (named-alike (λ x. x) (trip_at trips) W)) (sym fifteen ∙ n)

      -- 16
      module _ {s : ℕ} (f : s ≡ lowest_bad E' (in_time E')) where
        pub sixteen : s ≡ lowest_bad E (in_time E)
        sixteen = f ∙ times-sorted W

        pub sixteen-told : (s ≡ none → ⊥) → record { number = 16; place = s } ≡ trips_refusal S
        unfolding trips_refusal
        sixteen-told m =
            let second = lowest-bad (λ x. x) (trip_at trips) W l.rising 16 (omega arith) (in_time E) (in_time S) (time-alike (named-alike (λ x. x) (trip_at trips) W)) sixteen m in
            ap (λ (y : ℕ). record { number = 16; place = y }) (sym (told-whole (in_time E) sixteen)) ∙ sym (or-next (first_bad_stop S 15 (once S)) (first_bad_stop S 16 (in_time S)) (ap (λ (y : Refusal). y.number) no-fifteen) ∙ second)

        pub nothing-told : s ≡ none → trips_refusal S ≡ fine
        unfolding trips_refusal
        nothing-told m =
            or-next (first_bad_stop S 15 (once S)) (first_bad_stop S 16 (in_time S)) (ap (λ (y : Refusal). y.number) no-fifteen)
            ∙ none-bad (λ x. x) (trip_at trips) W l.rising 16 (omega arith) (in_time E) (in_time S) (time-alike (named-alike (λ x. x) (trip_at trips) W)) (sym sixteen ∙ m)

  -- ---- the hops
  module _ (f : Placed W) (u : AllOnce E) (u' : AllOnce E') where
    pub hops-are : hops_of S ≡ map (hop_out (trip_at trips)) (sorted (hop_entries E' (length E')))
    hops-are = sym (hops-named (λ x. x) (trip_at trips) W f) ∙ ap (map (hop_out (trip_at trips))) (sym (in_order_lem W f l.rising.rises u u'))

    pub hops-count : length (hops_of S) ≡ length (hop_entries E' (length E'))
    hops-count = ap length hops-are ∙ length-map (sorted (hop_entries E' (length E'))) (hop_out (trip_at trips)) ∙ sorted-length (hop_entries E' (length E'))

    pub hops-flat : (k : ℕ) → k ≡ length (hop_entries E' (length E')) → joined (λ i. hop_out (trip_at trips) (at (sorted (hop_entries E' (length E'))) i)) k ≡ flat_map (λ h. h) (hops_of S)
    hops-flat k e =
        ap (joined (λ i. hop_out (trip_at trips) (at (sorted (hop_entries E' (length E'))) i))) (e ∙ sym (sorted-length (hop_entries E' (length E'))))
        ∙ sym (flat-joined (hop_out (trip_at trips)) (sorted (hop_entries E' (length E'))))
        ∙ ap (flat_map (λ h. h)) (sym hops-are)

    shorter : {i : ℕ} → i < length E' → i < length (sorted W)
    shorter h = rw (stops-length (sorted W)) at h

    shortest : {i : ℕ} → i < length E → i < length W
    shortest h = rw (stops-length W) at h

    pub on-trips : OnTrips trips (hop_entries E' (length E'))
    on-trips i h =
        let r = hop-from (ordered (sorted W) (sorted-ascends W)) u' (length E') (at (hop_entries E' (length E')) i) (omega arith) (at_in (hop_entries E' (length E')) i h) in
        let p = (from_sorted W).found r.0 r.3 in
        let a = small (sorted W) (placed-sorted W f) r.0 (shorter r.3) in
        let b = small (sorted W) (placed-sorted W f) r.1 (shorter r.2) in
        let t = ap (λ (x : ℕ). x / 2 ^ 64 % 2 ^ 64 % 2 ^ 32) r.6 ∙ entry-trip E' r.0 r.1 a b ∙ ap (λ (s : Stop). s.trip) (p.2 ∙ stop-at W p.0) in
        subst (Good trips) (sym t) (l.listed p.0 (shortest p.1))

    -- what `gather` leaves: k hops in front
    module _ (b : List ℕ) {Y : List ℕ} {n k : ℕ} (y : Y ≡ sorted W) (m : n ≡ length W) (e : k ≡ length (hop_entries (stops_in Y) n)) (g : recs n b ≡ gathered_in Y n) where
      same-hops : hop_entries (stops_in Y) n ≡ hop_entries E' (length E')
      same-hops = ap₂ (λ (x : List ℕ) (j : ℕ). hop_entries (stops_in x) j) y (m ∙ sym (sorted-length W) ∙ sym (stops-length (sorted W)))

      few-hops : k ≤ n
      few-hops = omega (arith, e, few (stops_in Y) n)

      front-is : recs k b ≡ hop_entries E' (length E')
      unfolding gathered_in
      front-is = recs-are k n b (hop_entries (stops_in Y) n) (drop (length (hop_entries (stops_in Y) n)) Y) few-hops (sym e) g ∙ same-hops

      pub finish-fits : length b ≡ 20 * n → (20 * k ≤ length b) × OnTrips trips (recs k b)
      finish-fits len = (omega (arith, few-hops), subst (OnTrips trips) (sym front-is) on-trips)

      pub gathered-told : (b₀ : List ℕ) {a : Refusal} {d : List ℕ} → a ≡ fine → trips_refusal S ≡ fine → length b ≡ length b₀ → d ≡ filled b (joined (λ i. hop_out (trip_at trips) (at (sorted (recs k b)) i)) k)
          → (a ≡ trips_refusal S) × (k ≡ trips_hops S) × (d ≡ trips_bytes S b₀) × (k ≤ n)
      gathered-told b₀ {a} {d} q t len z =
          let f : (trips_refusal S).number ≡ 0 = ap (λ (r : Refusal). r.number) t in
          let counted : k ≡ length (hop_entries E' (length E')) = e ∙ ap length same-hops in (
            q ∙ sym t,
            counted ∙ sym hops-count ∙ sym (accepted-hops S b₀ b len f),
            z ∙ ap (filled b) (ap (λ (x : List ℕ). joined (λ i. hop_out (trip_at trips) (at (sorted x) i)) k) front-is ∙ hops-flat k counted) ∙ accepted-bytes S b₀ b len f,
            few-hops,
          )
