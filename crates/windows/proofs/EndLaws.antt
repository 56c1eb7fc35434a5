-- What is carried over all stops tells the timetable's answer. Assumes nothing.
use mathlib.Core.Path.{◌≡◌, refl, sym, ap, ap₂, subst, ◌∙◌}
use mathlib.Core.Logic.{◌⊎◌, inl, inr, ⊎_elim}
use mathlib.Core.List.{List, flat_map}
use Prim.Native.Nat.{ℕ, ◌+◌, ◌-◌, ◌*◌, ◌/◌, ◌%◌, ◌<◌, ◌≤◌, ◌^◌}
use native.Mathlib.Omega.{arith}
use lib.ListN.{length, take}
use borrow.Author.Tests.{eqb-true}
use Rattle.journeys.specs.Counting.{none, joined}
use Rattle.journeys.specs.Bytes.{filled, cleared}
use Rattle.journeys.specs.Refusals.{Refusal, fine, whole_of, table_of}
use Rattle.journeys.proofs.Tests.{and_both}
use Rattle.journeys.proofs.Refusals.{unless-fine}
use Rattle.table_bytes.specs.Columns.{at}
use Rattle.table_bytes.proofs.Access.{col-length}
use Rattle.sorting.specs.Sorted.{recs, sorted}
use Rattle.sorting.proofs.Arranged.{sorted-from, sorted-ascends, sorted-length}
use Rattle.feed.specs.Stops.{Stop}
use Rattle.feed.specs.Trips.{once, in_time, hops_of}
use Rattle.feed.specs.Answers as answers
use Rattle.feed.specs.Answers.{Feed, Passed, feed_refusal, hop_count, target_after}
use Rattle.succession.specs.Entries.{stop_in, stops_in, lowest_bad, AllOnce}
use Rattle.connections.specs.Gathered.{hop_entries}
use Rattle.relabelled.proofs.AlikeLaws.{hops-alike}
use Rattle.stoplist.specs.declared.Columns.{Columns}
use Rattle.hoporder.specs.Hops.{Placed, hop_out}
use Rattle.hoporder.proofs.HopFields.{placed-sorted}
use Rattle.hopbytes.specs.Listing.{trip_at, OnTrips}
use Rattle.std.specs.Prelude.{Result}
use Rattle.words.specs.Refusal.{Refusal as Reasoned}
use Rattle.words.specs.Told.{told}
use Rattle.departures.specs.Answered.{hops_told, trips_refusal, trips_hops, trips_bytes}
use Rattle.departures.specs.Entries.{stops_at, Listed, EntriesOf}
use Rattle.departures.proofs.SliceLaws.{recs-take, filled-same, cleared-same}
use Rattle.departures.proofs.JudgeLaws.{fifteen-told, all_once, all-once', sixteen-told, nothing-told, hops-count, hops-flat, on-trips, refusal-told, accepted-hops, accepted-bytes}
use Rattle.departures.proofs.FeedLaws.{refusal-alike}
use Rattle.departures.proofs.EntryLaws.{entries-alike, entries-told, whole-refusal, whole-count, whole-target}
use Rattle.carry.specs.declared.Carry.{Carry}
use Rattle.carry.specs.Carried.{start, all_followed, all_hops, late_end}
use Rattle.carry.proofs.Runs.{fifteen-all, hops-all}
use Rattle.carry.proofs.Times.{sixteen-all}
use Rattle.std.specs.Prelude.{Option, Some, None}
use Rattle.carry.specs.declared.Item.{Item}
use Rattle.sieve.specs.Kept.{bound, kept}
use Rattle.sieve.proofs.KeptLaws.{kept-all}
use Rattle.recorded.specs.Asked.{Read, Short, stops_read, records_read}
use Rattle.recorded.proofs.Whole.{inside, lines-good, stops-fine, trips-fine, records-entries, records-listed, records-placed, records-distinct}
use Rattle.windows.specs.declared.Run.{Run}
use Rattle.windows.specs.Gone.{Ready, Held, all, more, Gone, Ended, repeats, late, many, fits}
use Rattle.windows.proofs.RoomLaws.{room-refusal, room-count, room-target}

-- ---- the end, by what a call tells
module _ {trips b d : List ℕ} {room k : ℕ} {c : Carry} {r : Result ℕ Reasoned} {x : ℕ} (q : x ≡ late_end c) (f : c.fifteen ≡ none) where
  pub ended-late : (x ≡ none → ⊥) → told r ≡ record { number = 16; place = x } → hops_told r ≡ 0 → d ≡ cleared b → Ended trips b room k c r d
  ended-late n t h e = late f (λ z. n (q ∙ z)) (t ∙ ap (λ (y : ℕ). record { number = 16; place = y }) q) h e

-- ---- all records are below the last bound
below_top : (x : ℕ) → x / 2 ^ 64 / 2 ^ 64 < 2 ^ 32 → x < bound None
below_top x h = up (up h)
  where
    up : {x y : ℕ} → x / 2 ^ 64 < y → x < 0 + 2 ^ 64 * y
    up p = omega (arith, p)

under : {x a b : ℕ} → x < a → a ≤ b → x < b
under p q = omega (arith, p, q)

least : (x : ℕ) → 0 ≤ x
least x = omega arith

module _ (trips R : List ℕ) (l : Listed trips R) (p : Placed R) where
  abbrev S : List ℕ
  S = sorted R

  all-kept : (b : Option Item) → bound None ≤ bound b → kept 0 (bound b) S ≡ S
  all-kept b h = kept-all 0 (bound b) S (λ i q. (least (at S i), under (below_top (at S i) (placed-sorted R p i q)) h))

  trips-above : (i : ℕ) → i < length S → 0 < (stop_in (at S i)).trip
  trips-above i h = let r = (sorted-from R).found i h in subst (λ (x : ℕ). 0 < (stop_in x).trip) (sym r.2) (l.listed r.0 r.1).above

  module _ {room : ℕ} {W : List ℕ} {run : Run} (g : Gone S room W run) (h : bound None ≤ bound run.lo) where
    abbrev C : Carry
    C = run.carry

    carried-all : C ≡ all_followed start S
    carried-all = g.carried ∙ ap (all_followed start) (all-kept run.lo h)

    abbrev E' : List Stop
    E' = stops_in S

    fifteen-is : C.fifteen ≡ lowest_bad E' (once E')
    fifteen-is = ap (λ (c : Carry). c.fifteen) carried-all ∙ fifteen-all S (sorted-ascends R) trips-above

    abbrev H : List ℕ
    H = hop_entries E' (length E')

    held : Held room run.hops W H
    held = subst (Held room run.hops W) (ap (all_hops start) (all-kept run.lo h) ∙ hops-all S (sorted-ascends R) trips-above) g.hops

    module _ (f : C.fifteen ≡ none) where
      pub u : AllOnce (stops_in R)
      u = all_once trips R l fifteen-is f

      pub u' : AllOnce E'
      u' = all-once' trips R l fifteen-is f

      sixteen-is : late_end C ≡ lowest_bad E' (in_time E')
      sixteen-is = ap late_end carried-all ∙ sixteen-all S (sorted-ascends R) trips-above u'

      held-front : run.hops ≤ room → take run.hops W ≡ H
      held-front q = go held
        where
          go : Held room run.hops W H → take run.hops W ≡ H
          go (all a e) = e
          go (more a e) = absurd (omega (arith, a, q))

      held-many : room < run.hops → room < length H
      held-many q = go held
        where
          go : Held room run.hops W H → room < length H
          go (all a e) = absurd (omega (arith, a, q))
          go (more a e) = e

      pub hops-on-trips : (b : List ℕ) → W ≡ recs room b → run.hops ≤ room → OnTrips trips (recs run.hops b)
      hops-on-trips b w q = subst (OnTrips trips) (sym (recs-take run.hops room b q ∙ ap (take run.hops) (sym w) ∙ held-front q)) (on-trips trips R l p u u')

-- ---- the timetable's answer
module _ (F : Feed) (C : Columns) (from : ℕ) (r : Read F C from) (s : Short F) where
  pub ready : Ready C F.stops F.trips F.stop_times from
  unfolding records_read stops_read
  ready = record {
    inside = inside F C from r;
    within = r.within;
    text = s.text;
    good = lines-good F C from r;
    distinct = records-distinct F C from r s;
    stops = stops-fine F C from r;
    trips = trips-fine F C from r;
    few = s.trips;
  }

  pub whole_room : {room : ℕ} → room ≡ length F.target / 20 → length F.target ≡ 20 * room
  unfolding table_of whole_of
  whole_room e =
      let t = unless-fine (table_of 20 0 262144 F.target) 1 2 (omega arith) r.passed.target in
      let w = eqb-true (length F.target % 20) 0 (and_both _ _ (and_both _ _ t).0).0 in
      omega (arith, w, e)

  abbrev R : List ℕ
  R = records_read F C from

  abbrev T : List Stop
  T = stops_at F.trips R

  l : Listed F.trips R
  l = records-listed F C from r s

  p : Placed R
  p = records-placed F C from r s

  e : EntriesOf F.trips (answers.stops_in F) R
  e = records-entries F C from r s

  module _ {room : ℕ} (q : room ≡ length F.target / 20) (b : List ℕ) (len : length b ≡ length F.target) {run : Run} (g : Gone (sorted R) room (recs room b) run) (h : bound None ≤ bound run.lo) where
    pub end-on-trips : run.carry.fifteen ≡ none → run.hops ≤ room → OnTrips F.trips (recs run.hops b)
    end-on-trips f m = hops-on-trips F.trips R l p g h f b refl m

    abbrev Told : Result ℕ Reasoned → List ℕ → Type 0
    Told a d = (told a ≡ feed_refusal F) × (hops_told a ≡ hop_count F) × (d ≡ target_after F)

    as-records : (a : Result ℕ Reasoned) (d : List ℕ) → told a ≡ trips_refusal T → hops_told a ≡ trips_hops T → d ≡ trips_bytes T F.target → hops_told a ≤ room → Told a d
    as-records a d x y z m =
        let few : trips_hops T ≤ length F.target / 20 = omega (arith, m, y, q) in
        (x ∙ sym (whole-refusal F R r.passed e few), y ∙ sym (whole-count F R r.passed e few), z ∙ sym (whole-target F R r.passed e few))

    as-refused : (a : Result ℕ Reasoned) (d : List ℕ) (k : ℕ) {x : ℕ} → 0 < k → told a ≡ record { number = k; place = x } → record { number = k; place = x } ≡ trips_refusal T → hops_told a ≡ 0 → d ≡ cleared b → Told a d
    as-refused a d k o t w n z =
        let y = refusal-told T F.target b len k o t w n z {n = room} in
        as-records a d y.0 y.1 y.2 y.3

    module _ (f : run.carry.fifteen ≡ none) (n : late_end run.carry ≡ none) where
      is-fine : trips_refusal T ≡ fine
      is-fine = nothing-told F.trips R l (fifteen-is F.trips R l p g h) f (sixteen-is F.trips R l p g h f) n

      fine-number : (trips_refusal T).number ≡ 0
      fine-number = ap (λ (x : Refusal). x.number) is-fine

      abbrev H' : List ℕ
      H' = hop_entries (stops_in (sorted R)) (length (stops_in (sorted R)))

      count-is : length (hops_of T) ≡ length H'
      count-is = hops-count F.trips R l p (u F.trips R l p g h f) (u' F.trips R l p g h f)

      as_many : (a : Result ℕ Reasoned) (d : List ℕ) → room < run.hops → told a ≡ record { number = 17; place = 0 } → hops_told a ≡ 0 → d ≡ cleared b → Told a d
      as_many a d o t z w =
          let alike = entries-alike F.trips (answers.stops_in F) R e in
          let same = entries-told F.trips (answers.stops_in F) R e in
          let none_yet : (trips_refusal (answers.stops_in F)).number ≡ 0 = ap (λ (x : Refusal). x.number) (refusal-alike alike same) ∙ fine-number in
          let over = held-many F.trips R l p g h f o in
          let long : length F.target / 20 < length (hops_of (answers.stops_in F)) = omega (arith, q, over, count-is, ap length (hops-alike alike same)) in
          (t ∙ sym (room-refusal F r.passed none_yet long), z ∙ sym (room-count F r.passed none_yet long), w ∙ cleared-same b F.target len ∙ sym (room-target F r.passed none_yet long))

      as-hops : (a : Result ℕ Reasoned) (d : List ℕ) → run.hops ≤ room → told a ≡ fine → hops_told a ≡ run.hops → d ≡ filled b (joined (λ i. hop_out (trip_at F.trips) (at (sorted (recs run.hops b)) i)) run.hops) → Told a d
      as-hops a d o t z w =
          let front : recs run.hops b ≡ H' = recs-take run.hops room b o ∙ held-front F.trips R l p g h f o in
          let counted : run.hops ≡ length H' = sym (col-length 20 run.hops b 0) ∙ ap length front in
          as-records a d
          (t ∙ sym is-fine)
          (z ∙ counted ∙ sym count-is ∙ sym (accepted-hops T F.target b len fine-number))
          (w ∙ ap (filled b) (ap (λ (x : List ℕ). joined (λ i. hop_out (trip_at F.trips) (at (sorted x) i)) run.hops) front ∙ hops-flat F.trips R l p (u F.trips R l p g h f) (u' F.trips R l p g h f) run.hops counted) ∙ accepted-bytes T F.target b len fine-number)
          (omega (arith, z, o))

    pub end-told : (a : Result ℕ Reasoned) (d : List ℕ) → Ended F.trips b room run.hops run.carry a d → (told a ≡ feed_refusal F) × (hops_told a ≡ hop_count F) × (d ≡ target_after F)
    end-told a d (repeats n t z w) = as-refused a d 15 (omega arith) t (fifteen-told F.trips R l (fifteen-is F.trips R l p g h) n) z w
    end-told a d (late f n t z w) = as-refused a d 16 (omega arith) t (sixteen-told F.trips R l (fifteen-is F.trips R l p g h) f (sixteen-is F.trips R l p g h f) n) z w
    end-told a d (many f n o t z w) = as_many f n a d o t z w
    end-told a d (fits f n o t z w) = as-hops f n a d o t z w
