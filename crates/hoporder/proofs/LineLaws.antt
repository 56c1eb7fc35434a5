-- From the lowest place of a line that is not good to the number of the first such line: lines rise. Assumes nothing.
use mathlib.Core.Path.{◌≡◌, refl, sym, ap, ap₂, subst, ◌∙◌}
use mathlib.Core.Logic.{◌⊎◌, inl, inr, ⊎_elim, ◌≢◌}
use mathlib.Core.Bool.{Bool, true, false, cond}
use mathlib.Core.List.{List}
use Prim.Native.Nat.{ℕ, ◌+◌, ◌<◌, ◌≤◌}
use native.Mathlib.Omega.{arith}
use lib.Dec.{eqb}
use lib.ListN.{length}
use Rattle.journeys.specs.Counting.{none, least}
use Rattle.journeys.specs.Refusals.{Refusal, fine, unless, first_from}
use Rattle.journeys.proofs.Tests.{split, never, cond-true, cond-false}
use Rattle.journeys.proofs.Counting.{least-le, least-is, least-none}
use Rattle.journeys.proofs.Refusals.{from-none, from_first, unless-good, unless-bad}
use Rattle.table_bytes.specs.Columns.{at}
use Rattle.feed.specs.Lines.{place}
use Rattle.feed.specs.Stops.{Stop}
use Rattle.feed.specs.Trips.{stop, first_bad_stop}
use Rattle.succession.specs.Entries.{stop_in, stops_in, lowest_bad}
use Rattle.succession.proofs.OrderLaws.{stop-at, stops-length}
use Rattle.relabelled.specs.Alike.{Alike}
use Rattle.hoporder.specs.Named.{stop_named, stops_named, Rising}
use Rattle.hoporder.proofs.HopFields.{named-at, named-length}

-- nothing is bad where no line is told
pub all-good : (S : List Stop) (good : ℕ → Bool) → ((i : ℕ) → i < length S → (stop S i).line < none) → lowest_bad S good ≡ none → (i : ℕ) → i < length S → good i ≡ true
unfolding lowest_bad
all-good S good f e i h = ⊎_elim (λ (q : good i ≡ true). q)
    (λ (q : good i ≡ false).
    let least-here : least (λ i. cond (good i) none (stop S i).line) (length S) ≤ cond (good i) none (stop S i).line = least-le (λ i. cond (good i) none (stop S i).line) (length S) i h in
    absurd (omega (arith, e, least-here, cond-false none (stop S i).line q, f i h)))
    (split (good i))

module _ (number trip_of : ℕ → ℕ) (W : List ℕ) where
  told : {A : Type 0} (g : Stop → A) → ((x : ℕ) → g (stop_in x) ≡ g (stop_named number trip_of x)) → (i : ℕ) → i < length (stops_in W) → g (stop (stops_in W) i) ≡ g (stop (stops_named number trip_of W) i)
  told g e i h = ap g (stop-at W i) ∙ e (at W i) ∙ ap g (sym (named-at number trip_of W i (rw (stops-length W) at h)))

  -- the same stops, told in two ways
  pub named-alike : Alike (stops_in W) (stops_named number trip_of W)
  named-alike = record {
    size = stops-length W ∙ sym (named-length number trip_of W);
    trip = λ i j h k. ap₂ (λ (x y : ℕ). eqb x y) (told (λ s. s.trip) (λ x. refl) i h) (told (λ s. s.trip) (λ x. refl) j k);
    sequence = told (λ s. s.sequence) (λ x. refl);
    vertex = told (λ s. s.vertex) (λ x. refl);
    timed = told (λ s. s.timed) (λ x. refl);
    arrival = told (λ s. s.arrival) (λ x. refl);
    departure = told (λ s. s.departure) (λ x. refl);
  }

  module _ (l : Rising W) where
    pub below_none : (i : ℕ) → i < length (stops_in W) → (stop (stops_in W) i).line < none
    below_none i h = rw (stop-at W i) (l.within i (rw (stops-length W) at h))

    module _ (k : ℕ) (z : 0 < k) (good same : ℕ → Bool) (e : (i : ℕ) → i < length (stops_in W) → good i ≡ same i) where
      told-good : (i : ℕ) → i < length (stops_named number trip_of W) → good i ≡ true → (unless (same i) k (place (stop (stops_named number trip_of W) i).line)).number ≡ 0
      told-good i h q = ap (λ (r : Refusal). r.number) (unless-good (same i) k _ (sym (e i (rw named-alike.size h)) ∙ q))

      pub none-bad : lowest_bad (stops_in W) good ≡ none → first_bad_stop (stops_named number trip_of W) k same ≡ fine
      unfolding first_bad_stop
      none-bad q =
          from-none (λ i. unless (same i) k (place (stop (stops_named number trip_of W) i).line)) (length (stops_named number trip_of W)) 0
          (λ k a b. let h : k < length (stops_named number trip_of W) = omega arith in told-good k h (all-good (stops_in W) good below_none q k (rw named-alike.size h)))

      -- the lowest place is that of the first
      first-at : (i : ℕ) → i < length (stops_in W) → good i ≡ false → ((j : ℕ) → j < i → good j ≡ true)
          → first_bad_stop (stops_named number trip_of W) k same ≡ record { number = k; place = place (number (stop (stops_in W) i).line) }
      unfolding first_bad_stop
      first-at i h q before =
          let f : ℕ → Refusal = λ i. unless (same i) k (place (stop (stops_named number trip_of W) i).line) in
          let there : i < length (stops_named number trip_of W) = rw (← named-alike.size) h in
          let bad : f i ≡ record { number = k; place = place (stop (stops_named number trip_of W) i).line } = unless-bad (same i) k _ (sym (e i h) ∙ q) in
          from_first f (length (stops_named number trip_of W)) 0 i (omega arith) (omega arith) (λ c. omega (arith, ap (λ (r : Refusal). r.number) bad))
          (λ j a b. told-good j (omega arith) (before j b))
          ∙ bad
          ∙ ap (λ (m : ℕ). record { number = k; place = place m })
          (ap (λ (s : Stop). s.line) (named-at number trip_of W i (rw (named-length number trip_of W) at there)) ∙ sym (ap (λ (s : Stop). number s.line) (stop-at W i)))

      abbrev mark : ℕ → ℕ
      mark i = cond (good i) none (stop (stops_in W) i).line

      pub lowest-bad : {r : ℕ} → r ≡ lowest_bad (stops_in W) good → (r ≡ none → ⊥)
          → first_bad_stop (stops_named number trip_of W) k same ≡ record { number = k; place = place (number r) }
      unfolding lowest_bad
      lowest-bad {r} q n =
          let m = least-none mark (length (stops_in W)) in
          let k = least-is mark (length (stops_in W)) r (omega (arith, q, n, m)) (omega (arith, q)) in
          go k.0 k.1 k.2 (least-le mark (length (stops_in W)) k.0 k.1) (split (good k.0))
        where
          under : (j i : ℕ) → j < i → i < length (stops_in W) → (stop (stops_in W) j).line < (stop (stops_in W) i).line
          under j i p h = rw (stop-at W j, stop-at W i) (l.rises j i p (rw (stops-length W) at h))

          go : (i : ℕ) → i < length (stops_in W) → cond (good i) none (stop (stops_in W) i).line ≤ r → least mark (length (stops_in W)) ≤ mark i → (good i ≡ true) ⊎ (good i ≡ false)
              → first_bad_stop (stops_named number trip_of W) k same ≡ record { number = k; place = place (number r) }
          go i h a b (inl t) = absurd (omega (arith, q, n, least-none mark (length (stops_in W)), cond-true none (stop (stops_in W) i).line t, a))
          go i h a b (inr t) =
              let c = cond-false none (stop (stops_in W) i).line t in
              let here : (stop (stops_in W) i).line ≡ r = omega (arith, q, a, b, c) in
              first-at i h t (λ j p. ⊎_elim (λ (y : good j ≡ true). y)
              (λ (y : good j ≡ false).
              absurd (omega (arith, q, here, least-le mark (length (stops_in W)) j (omega arith), cond-false none (stop (stops_in W) j).line y, under j i p h)))
              (split (good j)))
              ∙ ap (λ (x : ℕ). record { number = k; place = place (number x) }) here
