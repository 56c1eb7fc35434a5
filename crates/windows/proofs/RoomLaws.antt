-- 17: more hops than the target has room for. Assumes nothing.
use mathlib.Core.Path.{◌≡◌, refl, sym, ap, ◌∙◌}
use mathlib.Core.Bool.{cond}
use mathlib.Core.List.{List, flat_map}
use Prim.Native.Nat.{ℕ, ◌/◌, ◌<◌}
use lib.Dec.{eqb, leb}
use lib.ListN.{length}
use borrow.Author.Tests.{lt-leb}
use Rattle.journeys.specs.Bytes.{filled, cleared}
use Rattle.journeys.specs.Refusals.{Refusal}
use Rattle.journeys.proofs.Refusals.{or-fine, or-next, unless-bad}
use Rattle.feed.specs.Trips.{once, in_time, first_bad_stop, hops_of}
use Rattle.feed.specs.Answers.{Feed, Passed, stops_in, feed_hops, feed_refusal, hop_count, target_after}
use Rattle.departures.specs.Answered.{trips_refusal}

module _ (F : Feed) (p : Passed F) (z : (trips_refusal (stops_in F)).number ≡ 0) (h : length F.target / 20 < length (hops_of (stops_in F))) where
  pub room-refusal : feed_refusal F ≡ record { number = 17; place = 0 }
  unfolding feed_refusal trips_refusal feed_hops
  room-refusal =
      let t = or-fine (first_bad_stop (stops_in F) 15 (once (stops_in F))) (first_bad_stop (stops_in F) 16 (in_time (stops_in F))) z in
      or-next _ _ p.target ∙ or-next _ _ p.stops ∙ or-next _ _ p.trips ∙ or-next _ _ p.header ∙ or-next _ _ p.lines ∙ or-next _ _ p.known ∙ or-next _ _ t.0 ∙ or-next _ _ t.1
      ∙ unless-bad (leb (length (hops_of (stops_in F))) (length F.target / 20)) 17 0 (lt-leb _ _ h)

  pub room-count : hop_count F ≡ 0
  unfolding hop_count
  room-count = ap (λ (r : Refusal). cond (eqb r.number 0) (length (feed_hops F)) 0) room-refusal

  pub room-target : target_after F ≡ cleared F.target
  unfolding target_after
  room-target = ap (λ (r : Refusal). cond (eqb r.number 1) F.target (cond (eqb r.number 0) (filled F.target (flat_map (λ h. h) (feed_hops F))) (cleared F.target))) room-refusal
