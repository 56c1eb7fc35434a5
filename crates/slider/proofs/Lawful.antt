-- What the theorems below ask of a direction, and that both have it. Assumes nothing.
use mathlib.Core.Path.{◌≡◌, refl, ap, fun_ext}
use Prim.Native.Nat.{ℕ}
use Rattle.journeys.specs.Tables.{Tables}
use Rattle.journeys.specs.Query.{Query, allowed}
use Rattle.journeys.specs.Network.{Network}
use Rattle.journeys.specs.Records as records
use Rattle.journeys.specs.Records.{Record, walked, ridden, record_at}
use Rattle.journeys.specs.CourierRecords as courier
use Rattle.journeys.specs.Valid.{Valid}
use Rattle.journeys.proofs.Ways.{Ways}
use Rattle.journeys.proofs.Told.{Told}
use Rattle.journeys.proofs.Document as document
use Rattle.journeys.proofs.CourierDocument as courier_document
use Rattle.slider.specs.Longer.{during}
use Rattle.slider.specs.Directions.{Direction, ordinary, couriers}
use Rattle.slider.proofs.SameJourneys.{distance-same, inside-same, courier-distance-same, inside-reached-same}
use Rattle.slider.proofs.SameOrder.{allowing}

pub record Lawful (N : Tables) (R : Direction) : Type 1 where
  -- the distances are those of the network
  pub ways : Query → Ways
  pub told : (Q : Query) → Valid N Q → Told (R.network Q) (ways Q) (R.distance Q)
  -- the duration is D and nothing else
  pub window : (Q : Query) → (R.network Q).allowed ≡ allowed Q
  pub network : (Q : Query) (s : ℕ) → R.network (during Q s) ≡ allowing (R.network Q) (allowed (during Q s))
  pub distance : (Q : Query) (s v d : ℕ) → R.distance Q v d → R.distance (during Q s) v d
  pub inside : (Q : Query) (s i x d : ℕ) → R.inside Q i x d → R.inside (during Q s) i x d

module _ (N : Tables) where
  ordinary-offer : (Q : Query) (s : ℕ) (x : Record) → records.offer (during Q s) x ≡ records.offer Q x
  unfolding records.offer
  ordinary-offer Q s (walked w) = refl
  ordinary-offer Q s (ridden h) = refl

  courier-offer : (Q : Query) (s : ℕ) (x : Record) → courier.offer (during Q s) x ≡ courier.offer Q x
  unfolding courier.offer
  courier-offer Q s (walked w) = refl
  courier-offer Q s (ridden h) = refl

  abbrev with-offer : Network → (ℕ → ℕ → ℕ) → Network
  with-offer G o = record { vertices = G.vertices; records = G.records; allowed = G.allowed; from = G.from; to = G.to; seed = G.seed; offer = o }

  ordinary-network : (Q : Query) (s : ℕ) → records.network N (during Q s) ≡ allowing (records.network N Q) (allowed (during Q s))
  unfolding records.seed
  ordinary-network Q s = ap (with-offer (allowing (records.network N Q) (allowed (during Q s)))) (fun_ext (λ r. ordinary-offer Q s (record_at N r)))

  courier-network : (Q : Query) (s : ℕ) → courier.network N (during Q s) ≡ allowing (courier.network N Q) (allowed (during Q s))
  unfolding courier.seed
  courier-network Q s = ap (with-offer (allowing (courier.network N Q) (allowed (during Q s)))) (fun_ext (λ r. courier-offer Q s (record_at N r)))

  pub ordinary-lawful : Lawful N (ordinary N)
  ordinary-lawful =
      record {
        ways = document.ways N;
        told = document.told N;
        window = λ Q. refl;
        network = ordinary-network;
        distance = distance-same N;
        inside = inside-same N;
      }

  pub courier-lawful : Lawful N (couriers N)
  courier-lawful =
      record {
        ways = courier_document.ways N;
        told = courier_document.told N;
        window = λ Q. refl;
        network = courier-network;
        distance = courier-distance-same N;
        inside = inside-reached-same N;
      }
