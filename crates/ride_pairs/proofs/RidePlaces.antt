-- The second demand, of the part bytes: which places inside a road they cover, where an accepted and finished run with a boarding time has handed its own list to an
-- accepted call for parts. Assumes nothing.
use mathlib.Core.Path.{◌≡◌, ap, ap₂, subst, ◌∙◌}
use mathlib.Core.Logic.{◌⊎◌, ◌↔◌, ◌≢◌}
use mathlib.Core.List.{List, flat_map}
use Prim.Native.Nat.{ℕ, ◌-◌, ◌≤◌, ◌<◌}
use lib.ListN.{length}
use Rattle.journeys.specs.Counting.{none}
use Rattle.journeys.specs.Bytes.{filled}
use Rattle.journeys.specs.Tables.{Tables, walk, walk_count}
use Rattle.journeys.specs.Query.{Query, allowed}
use Rattle.journeys.specs.Settled.{Settled}
use Rattle.journeys.specs.Parts.{Part, part_list, Covered}
use Rattle.journeys.specs.Lists.{settled_in}
use Rattle.journeys.specs.Answers.{settled_bytes}
use Rattle.journeys.specs.PartAnswers.{PartsLent, parts_tables}
use Rattle.journeys.proofs.Valid.{on-either}
use Rattle.ride_demands.specs.RideCall.{RideCall, RideCompleted, refusal, finished, read, mode}
use Rattle.ride_demands.specs.RidePlaces.{RideInside}
use Rattle.ride_demands.proofs.Demands.{valid, the_order, is_order, settled-are, finished-whole}
use Rattle.ride_demands.proofs.Places.{place-exactly}
use Rattle.siltbrow.specs.PartsCall.{PartsCall, PartsCompleted, parts_refusal, parts_count, the_parts}
use Rattle.siltbrow.proofs.PartsDemands.{parts-accepted, parts-accepted-exactly}
use Rattle.siltbrow.proofs.PlacesInBytes.{Lies, lies-are}
use Rattle.siltbrow.proofs.ListHandedOn.{handed-on}
use Rattle.ride_pairs.specs.RideBeside.{RideFollows}

module _ (c : RideCall) (E : RideCompleted c) (accepted : refusal c ≡ 0) (f : finished c ≡ 1) (p : PartsCall) (F : PartsCompleted p) (own : RideFollows c p) (fine : parts_refusal p ≡ 0) where
  abbrev l : List Settled
  l = the_order c E accepted

  -- the list of the second call is the whole order of the first
  list-whole : settled_in p.lent.list ≡ l
  list-whole =
      let O = is_order c E accepted in
      let are = settled-are c E accepted l O in
      let e = finished-whole c E accepted l O f in
      ap (λ (b : PartsLent). settled_in b.list) own.lent
      ∙ handed-on c.settled c.lent.settled _ l (are.0 ∙ ap length e) (are.1 ∙ ap (λ (m : List Settled). filled c.lent.settled (flat_map settled_bytes m)) e)

  parts_whole : the_parts p ≡ part_list (read c) c.query l
  parts_whole =
      let tables : parts_tables p.lent ≡ read c = ap parts_tables own.lent in
      ap₂ (λ (N : Tables) (Q : Query). part_list N Q (settled_in p.lent.list)) tables own.query ∙ ap (part_list (read c) c.query) list-whole

  lies : (i x : ℕ) → Lies p i x ↔ Covered (part_list (read c) c.query l) i x
  lies i x =
      let sound = (parts-accepted-exactly p F).0 fine in
      let t = parts-accepted p F sound.0 sound.1 in
      subst (λ (ps : List Part). Lies p i x ↔ Covered ps i x) parts_whole (lies-are p.parts p.lent.parts (parts_count p) (the_parts p) t.2 t.3 i x)

  -- A whole-decimetre place inside a road record lies in a counted part record exactly if a journey with rides starts there within the allowed time.
  pub place-covered : (i x : ℕ) → i < walk_count (read c) → 0 < x → x < (walk (read c) i).len → Lies p i x ↔ ((d : ℕ) × (d ≤ allowed c.query) × RideInside (read c) c.query (mode c) i x d)
  place-covered i x il x0 xl =
      let e = place-exactly (read c) c.query (mode c) (valid c E accepted) (is_order c E accepted) i x il x0 xl in
      (λ y. e.0 ((lies i x).0 y), λ y. (lies i x).1 (e.1 y))

  -- A physical point of a road with a twin lies in a counted part record of either record exactly if such a journey starts there along either.
  pub point-covered : (i x : ℕ) → i < walk_count (read c) → (walk (read c) i).twin ≢ none → 0 < x → x < (walk (read c) i).len
      → (Lies p i x ⊎ Lies p (walk (read c) i).twin ((walk (read c) i).len - x))
      ↔ (((d : ℕ) × (d ≤ allowed c.query) × RideInside (read c) c.query (mode c) i x d)
      ⊎ ((d : ℕ) × (d ≤ allowed c.query) × RideInside (read c) c.query (mode c) (walk (read c) i).twin ((walk (read c) i).len - x) d))
  point-covered = on-either (read c) (valid c E accepted).tables (Lies p) (λ i x. (d : ℕ) × (d ≤ allowed c.query) × RideInside (read c) c.query (mode c) i x d) place-covered
