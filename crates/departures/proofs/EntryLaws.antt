-- Where records are those of a timetable's stops, their answer is the timetable's. Assumes nothing.
use mathlib.Core.Path.{◌≡◌, refl, sym, ap, subst, ◌∙◌}
use mathlib.Core.List.{List}
use Prim.Native.Nat.{ℕ, ◌/◌, ◌<◌, ◌≤◌}
use native.Mathlib.Omega.{arith}
use lib.Dec.{eqb}
use lib.ListN.{length, get_or}
use borrow.Author.Tests.{eq-eqb, eqb-true}
use Rattle.journeys.specs.Refusals.{Refusal}
use Rattle.journeys.proofs.Tests.{same_test}
use Rattle.feed.specs.Stops.{Stop}
use Rattle.feed.specs.Trips.{stop, hops_of}
use Rattle.feed.specs.Answers.{Feed, Passed, stops_in, feed_refusal, hop_count, target_after}
use Rattle.relabelled.specs.Alike.{Alike, Told}
use Rattle.relabelled.proofs.AlikeLaws.{hops-alike}
use Rattle.hoporder.specs.Named.{stop_named}
use Rattle.hoporder.proofs.HopFields.{named-at, named-length}
use Rattle.hopbytes.specs.Listing.{trip_at}
use Rattle.departures.specs.Answered.{trips_refusal, trips_hops, trips_bytes}
use Rattle.departures.specs.Entries.{stops_at, EntriesOf}
use Rattle.departures.proofs.JudgeLaws.{accepted-hops}
use Rattle.departures.proofs.FeedLaws.{refusal-alike, count-alike, bytes-alike, feed-refusal, feed-count, feed-target}

module _ (trips : List ℕ) (S : List Stop) (W : List ℕ) (e : EntriesOf trips S W) where
  there : {A : Type 0} (g : Stop → A) (i : ℕ) → i < length S → {x : A} → x ≡ g (stop_named (λ x. x) (trip_at trips) (get_or W i 0)) → x ≡ g (stop (stops_at trips W) i)
  there g i h q = q ∙ ap g (sym (named-at (λ x. x) (trip_at trips) W i (rw (← e.size) h)))

  named : (i : ℕ) → i < length S → stop (stops_at trips W) i ≡ stop_named (λ x. x) (trip_at trips) (get_or W i 0)
  named i h = named-at (λ x. x) (trip_at trips) W i (rw (← e.size) h)

  pub entries-alike : Alike S (stops_at trips W)
  entries-alike = record {
    size = e.size ∙ sym (named-length (λ x. x) (trip_at trips) W);
    trip = λ i j h k. same_test _ _
        (λ t. eq-eqb _ _ (ap (λ (s : Stop). s.trip) (named i h) ∙ e.together i j h k (eqb-true _ _ t) ∙ sym (ap (λ (s : Stop). s.trip) (named j k))))
        (λ t. eq-eqb _ _ (e.apart i j h k (sym (ap (λ (s : Stop). s.trip) (named i h)) ∙ eqb-true _ _ t ∙ ap (λ (s : Stop). s.trip) (named j k))));
    sequence = λ i h. there (λ s. s.sequence) i h (e.sequence i h);
    vertex = λ i h. there (λ s. s.vertex) i h (e.vertex i h);
    timed = λ i h. there (λ s. s.timed) i h (e.timed i h);
    arrival = λ i h. there (λ s. s.arrival) i h (e.arrival i h);
    departure = λ i h. there (λ s. s.departure) i h (e.departure i h);
  }

  pub entries-told : Told S (stops_at trips W)
  entries-told = record { line = λ i h. there (λ s. s.line) i h (e.line i h); trip_number = λ i h. there (λ s. s.trip_number) i h (e.trip_number i h) }

-- the records of a feed's stops, in a target with room for them
module _ (F : Feed) (W : List ℕ) (p : Passed F) (e : EntriesOf F.trips (stops_in F) W) where
  abbrev T : List Stop
  T = stops_at F.trips W

  a : Alike (stops_in F) T
  a = entries-alike F.trips (stops_in F) W e

  t : Told (stops_in F) T
  t = entries-told F.trips (stops_in F) W e

  module _ (room : trips_hops T ≤ length F.target / 20) where
    fits : (trips_refusal (stops_in F)).number ≡ 0 → length (hops_of (stops_in F)) ≤ length F.target / 20
    fits z =
        let f : (trips_refusal T).number ≡ 0 = ap (λ (r : Refusal). r.number) (sym (refusal-alike a t)) ∙ z in
        omega (arith, accepted-hops T F.target F.target refl f, ap length (hops-alike a t))

    pub whole-refusal : feed_refusal F ≡ trips_refusal T
    whole-refusal = feed-refusal F p fits ∙ refusal-alike a t

    pub whole-count : hop_count F ≡ trips_hops T
    whole-count = feed-count F p fits ∙ count-alike a t

    pub whole-target : target_after F ≡ trips_bytes T F.target
    whole-target = feed-target F p fits ∙ bytes-alike a t F.target
