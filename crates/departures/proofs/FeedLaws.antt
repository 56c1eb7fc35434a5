-- The answer for the stops of all trips is the rest of the timetable's answer, where nothing was refused before. Assumes nothing.
use mathlib.Core.Path.{◌≡◌, refl, sym, ap, ap₂, subst, ◌∙◌}
use mathlib.Core.Logic.{◌⊎◌, inl, inr, ⊎_elim, ◌≢◌}
use mathlib.Core.Bool.{Bool, true, false, cond}
use mathlib.Core.List.{List, [], ◌∷◌, flat_map}
use Prim.Native.Nat.{ℕ, zero, suc, ◌+◌, ◌/◌, ◌≤◌}
use native.Mathlib.Omega.{arith}
use native.Mathlib.Decide.{ℕ_discrete}
use lib.Dec.{eqb, leb}
use lib.ListN.{length}
use borrow.Author.Tests.{eq-eqb, ne_eqb, eqb-true, eqb-false, le-leb}
use Rattle.journeys.specs.Counting.{none}
use Rattle.journeys.specs.Bytes.{filled, cleared}
use Rattle.journeys.specs.Refusals.{Refusal, fine, unless, or_else, chain, first_from, table_of}
use Rattle.journeys.proofs.Tests.{split, cond-true, cond-false}
use Rattle.journeys.proofs.Refusals.{or-first, or-next, from-fine, from-none, unless-good, unless-bad}
use Rattle.feed.specs.Ids.{ids_refusal}
use Rattle.feed.specs.Stops.{Stop, header_refusal, lines_refusal, known_refusal}
use Rattle.feed.specs.Lines.{place}
use Rattle.feed.specs.Trips.{stop, once, in_time, first_bad_stop, hops_of}
use Rattle.feed.specs.Answers.{Feed, Passed, stops_in, feed_hops, feed_refusal, hop_count, target_after}
use Rattle.relabelled.specs.Alike.{Alike, Told}
use Rattle.relabelled.proofs.AlikeLaws.{repeats-alike, times-alike, hops-alike}
use Rattle.departures.specs.Answered.{trips_refusal, trips_hops, trips_bytes}

-- stops by other names have the same answer
module _ {S T : List Stop} (a : Alike S T) (t : Told S T) where
  pub refusal-alike : trips_refusal S ≡ trips_refusal T
  unfolding trips_refusal
  refusal-alike = ap₂ or_else (repeats-alike a t) (times-alike a t)

  pub count-alike : trips_hops S ≡ trips_hops T
  unfolding trips_hops
  count-alike = ap₂ (λ (r : Refusal) (h : List (List ℕ)). cond (eqb r.number 0) (length h) 0) refusal-alike (hops-alike a t)

  pub bytes-alike : (b : List ℕ) → trips_bytes S b ≡ trips_bytes T b
  unfolding trips_bytes
  bytes-alike b = ap₂ (λ (r : Refusal) (h : List (List ℕ)). cond (eqb r.number 0) (filled b (flat_map (λ x. x) h)) (cleared b)) refusal-alike (hops-alike a t)

-- ---- 15 and 16, where 17 never comes
three : (f s u : Refusal) → (s.number ≡ 0 → s ≡ fine) → ((or_else f s).number ≡ 0 → u ≡ fine) → or_else f (or_else s u) ≡ or_else f s
three f s u g h = go (ℕ_discrete f.number 0) (ℕ_discrete s.number 0)
  where
    go : Dec (f.number ≡ 0) → Dec (s.number ≡ 0) → or_else f (or_else s u) ≡ or_else f s
    go (no p) q = or-first f (or_else s u) p ∙ sym (or-first f s p)
    go (yes p) (no q) = ap (or_else f) (or-first s u q)
    go (yes p) (yes q) = ap (or_else f) (or-next s u q ∙ h (ap (λ (r : Refusal). r.number) (or-next f s p) ∙ q) ∙ sym (g q))

told-number : (good : ℕ → Bool) (pl : ℕ → ℕ) (k n i : ℕ) → ((first_from (λ i. unless (good i) k (pl i)) n i).number ≡ 0) ⊎ ((first_from (λ i. unless (good i) k (pl i)) n i).number ≡ k)
unfolding first_from
told-number good pl k zero i = inl refl
told-number good pl k (suc n) i = go (split (good i)) (told-number good pl k n (i + 1))
  where
    go : (good i ≡ true) ⊎ (good i ≡ false) → ((first_from (λ i. unless (good i) k (pl i)) n (i + 1)).number ≡ 0) ⊎ ((first_from (λ i. unless (good i) k (pl i)) n (i + 1)).number ≡ k)
        → ((or_else (unless (good i) k (pl i)) (first_from (λ i. unless (good i) k (pl i)) n (i + 1))).number ≡ 0) ⊎ ((or_else (unless (good i) k (pl i)) (first_from (λ i. unless (good i) k (pl i)) n (i + 1))).number ≡ k)
    go (inl t) r =
        let e = ap (λ (r : Refusal). r.number) (or-next (unless (good i) k (pl i)) (first_from (λ i. unless (good i) k (pl i)) n (i + 1)) (ap (λ (r : Refusal). r.number) (unless-good (good i) k (pl i) t))) in
        ⊎_elim (λ q. inl (e ∙ q)) (λ q. inr (e ∙ q)) r
    go (inr t) r =
        ⊎_elim
        (λ (z : k ≡ 0). ⊎_elim (λ q. inl (zero-next z ∙ q)) (λ q. inr (zero-next z ∙ q)) r)
        (λ (z : k ≡ 0 → ⊥). inr (ap (λ (r : Refusal). r.number) (or-first (unless (good i) k (pl i)) (first_from (λ i. unless (good i) k (pl i)) n (i + 1)) (λ y. z (sym bad ∙ y))) ∙ bad))
        (dec (ℕ_discrete k 0))
      where
        bad : (unless (good i) k (pl i)).number ≡ k
        bad = ap (λ (r : Refusal). r.number) (unless-bad (good i) k (pl i) t)

        zero-next : k ≡ 0 → (or_else (unless (good i) k (pl i)) (first_from (λ i. unless (good i) k (pl i)) n (i + 1))).number ≡ (first_from (λ i. unless (good i) k (pl i)) n (i + 1)).number
        zero-next z = ap (λ (r : Refusal). r.number) (or-next (unless (good i) k (pl i)) (first_from (λ i. unless (good i) k (pl i)) n (i + 1)) (bad ∙ z))

        dec : Dec (k ≡ 0) → (k ≡ 0) ⊎ (k ≡ 0 → ⊥)
        dec (yes y) = inl y
        dec (no y) = inr y

bad-number : (S : List Stop) (k : ℕ) (good : ℕ → Bool) → ((first_bad_stop S k good).number ≡ 0) ⊎ ((first_bad_stop S k good).number ≡ k)
unfolding first_bad_stop
bad-number S k good = told-number good (λ i. place (stop S i).line) k (length S) 0

bad-fine : (S : List Stop) (k : ℕ) (good : ℕ → Bool) → (first_bad_stop S k good).number ≡ 0 → first_bad_stop S k good ≡ fine
unfolding first_bad_stop
bad-fine S k good e =
    from-none (λ i. unless (good i) k (place (stop S i).line)) (length S) 0 (from-fine (λ i. unless (good i) k (place (stop S i).line)) (length S) 0 e)

not-one : (S : List Stop) → (trips_refusal S).number ≡ 1 → ⊥
unfolding trips_refusal
not-one S e = go (bad-number S 15 (once S)) (bad-number S 16 (in_time S))
  where
    go : ((first_bad_stop S 15 (once S)).number ≡ 0) ⊎ ((first_bad_stop S 15 (once S)).number ≡ 15) → ((first_bad_stop S 16 (in_time S)).number ≡ 0) ⊎ ((first_bad_stop S 16 (in_time S)).number ≡ 16) → ⊥
    go (inl p) (inl q) = absurd (omega (arith, e, q, ap (λ (r : Refusal). r.number) (or-next (first_bad_stop S 15 (once S)) (first_bad_stop S 16 (in_time S)) p)))
    go (inl p) (inr q) = absurd (omega (arith, e, q, ap (λ (r : Refusal). r.number) (or-next (first_bad_stop S 15 (once S)) (first_bad_stop S 16 (in_time S)) p)))
    go (inr p) q = absurd (omega (arith, e, p, ap (λ (r : Refusal). r.number) (or-first (first_bad_stop S 15 (once S)) (first_bad_stop S 16 (in_time S)) (λ z. omega (arith, p, z)))))

-- ---- the whole answer
module _ (F : Feed) where
  -- and the target has room for the hops
  module _ (p : Passed F) (room : (trips_refusal (stops_in F)).number ≡ 0 → length (hops_of (stops_in F)) ≤ length F.target / 20) where
    pub feed-refusal : feed_refusal F ≡ trips_refusal (stops_in F)
    unfolding feed_refusal trips_refusal feed_hops
    feed-refusal =
        or-next _ _ p.target ∙ or-next _ _ p.stops ∙ or-next _ _ p.trips ∙ or-next _ _ p.header ∙ or-next _ _ p.lines ∙ or-next _ _ p.known
        ∙ three (first_bad_stop (stops_in F) 15 (once (stops_in F))) (first_bad_stop (stops_in F) 16 (in_time (stops_in F))) (unless (leb (length (hops_of (stops_in F))) (length F.target / 20)) 17 0)
        (bad-fine (stops_in F) 16 (in_time (stops_in F))) (λ e. unless-good _ 17 0 (le-leb _ _ (room e)))

    pub feed-count : hop_count F ≡ trips_hops (stops_in F)
    unfolding hop_count trips_hops feed_hops
    feed-count = ap (λ (r : Refusal). cond (eqb r.number 0) (length (hops_of (stops_in F))) 0) feed-refusal

    pub feed-target : target_after F ≡ trips_bytes (stops_in F) F.target
    unfolding target_after trips_bytes feed_hops
    feed-target =
        ap (λ (r : Refusal). cond (eqb r.number 1) F.target (cond (eqb r.number 0) (filled F.target (flat_map (λ h. h) (hops_of (stops_in F)))) (cleared F.target))) feed-refusal
        ∙ cond-false F.target _ (ne_eqb (trips_refusal (stops_in F)).number 1 (not-one (stops_in F)))
