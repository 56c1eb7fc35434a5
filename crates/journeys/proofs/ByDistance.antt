-- Where every record takes time, the order of settling is that by distance, then by number. Assumes nothing.
use mathlib.Core.Path.{◌≡◌, refl, subst}
use mathlib.Core.Logic.{◌↔◌, ◌≢◌, inl, inr}
use mathlib.Core.List.{List, [], ◌∷◌, ◌++◌}
use Prim.Native.Nat.{ℕ, ◌≤◌, ◌<◌}
use Rattle.journeys.specs.Counting.{none, In}
use Rattle.journeys.specs.Tables.{Tables}
use Rattle.journeys.specs.Query.{Query, allowed}
use Rattle.journeys.specs.Journeys.{Distance}
use Rattle.journeys.specs.Order.{Settled, settled, Earlier, Follows, Order, IsOrder}
use Rattle.journeys.specs.Network.{Network}
use Rattle.journeys.specs.Records.{network}
use Rattle.journeys.specs.Valid.{Valid}
use Rattle.journeys.proofs.Counting.{in_right}
use Rattle.journeys.proofs.Ways.{Ways, Dist, Laws, Strict, arrives-low}
use Rattle.journeys.proofs.Place.{place, earlier-place, place-earlier}
use Rattle.journeys.proofs.Known.{next-first}
use Rattle.journeys.proofs.Ascending.{Asc, asc-same}
use Rattle.journeys.proofs.Firsts.{follows-apart, follows-each}
use Rattle.journeys.proofs.Greedy.{State, empty}
use Rattle.journeys.proofs.Settling.{apart_out, chosen-next, chosen-state, order-exists, order-each, order-whole}
use Rattle.journeys.proofs.Document.{ways, laws, Timely, strict, distance-dist, dist-distance, order-dist, dist-order, allowed-low}

abbrev pub Ascending : List Settled → Type 0
Ascending [] = Unit {0}
Ascending (x ∷ xs) = ((y : Settled) → In y xs → Earlier x y) × Ascending xs

-- l is all vertices with a distance at most D, each with its distance, ascending by distance, then by number
pub record ByDistance (distance : ℕ → ℕ → Type 0) (D : ℕ) (l : List Settled) : Type 0 where
  pub ascending : Ascending l
  pub each : (v d : ℕ) → In (settled v d) l → distance v d × (d ≤ D)
  pub all : (v d : ℕ) → distance v d → d ≤ D → In (settled v d) l

module _ (G : Network) (W : Ways) (L : Laws G W) (D : ℕ) (Di : D < none) where
  places : (l : List Settled) → ((x : Settled) → In x l → Dist G W x.vertex x.distance × (x.distance ≤ D)) → Ascending l → Asc (place G.vertices) l
  places [] each a = tt
  places (x ∷ l) each a = (λ y i. earlier-place G.vertices x y (arrives-low G W L (each x (inl refl)).0.0) (a.0 y i), places l (λ y i. each y (inr i)) a.1)

  -- There is one such list.
  by-distance-one : {l l' : List Settled} → ByDistance (Dist G W) D l → ByDistance (Dist G W) D l' → l ≡ l'
  by-distance-one {l} {l'} B B' =
      asc-same (place G.vertices) l l' (places l (each B) B.ascending) (places l' (each B') B'.ascending)
      (λ x i. let e = each B x i in B'.all x.vertex x.distance e.0 e.1)
      (λ x i. let e = each B' x i in B.all x.vertex x.distance e.0 e.1)
    where
      each : {m : List Settled} → ByDistance (Dist G W) D m → (x : Settled) → In x m → Dist G W x.vertex x.distance × (x.distance ≤ D)
      each C x i = C.each x.vertex x.distance i

  module _ (st : Strict G W) where
    follows-ascending : {S : List Settled} (l : List Settled) → State G W S → Follows G (Dist G W) D S l → Ascending l
    follows-ascending [] s f = tt
    follows-ascending {S} (x ∷ l) s f = (later, follows-ascending l (chosen-state G W L D Di s f.0) f.1)
      where
        later : (y : Settled) → In y l → Earlier x y
        later y i =
            let n = chosen-next G W L D Di s f.0 in
            let X = (follows-each G (Dist G W) D S (x ∷ l) f y (inr i)).0 in
            let out = apart_out G W L D Di s y.vertex (follows-apart G (Dist G W) D S (x ∷ l) f y (inr i)) in
            let ne : y.vertex ≢ x.vertex = λ e. follows-apart G (Dist G W) D (S ++ x ∷ []) l f.1 y i x.distance (rw e (in_right S (x ∷ []) x (inl refl))) in
            place-earlier G.vertices x y (arrives-low G W L X.0) (rw n.is (next-first G W L s.right x.vertex n.next st y.vertex y.distance X.0 out ne))

    order-by-distance : {l : List Settled} → Order G (Dist G W) D l → ByDistance (Dist G W) D l
    order-by-distance {l} O =
        record {
          ascending = follows-ascending l (empty G W) O.steps;
          each = λ v d i. order-each G W L D Di O (settled v d) i;
          all = order-whole G W L D Di O;
        }

    pub orders-agree : {l : List Settled} → Order G (Dist G W) D l ↔ ByDistance (Dist G W) D l
    orders-agree {l} = (
      order-by-distance,
      λ B. subst (Order G (Dist G W) D) (by-distance-one (order-by-distance (order-exists G W L D Di)) B) (order-exists G W L D Di),
    )

-- For tables in which every ride takes time the order of settling is that by distance, then by number.
pub timely-order : (N : Tables) (Q : Query) → Valid N Q → Timely N → {l : List Settled} → IsOrder N Q l ↔ ByDistance (Distance N Q) (allowed Q) l
timely-order N Q ok timely {l} = (
  λ O. there (agree.0 (order-dist N Q ok O)),
  λ B. dist-order N Q ok (agree.1 (back B)),
)
  where
    agree : Order (network N Q) (Dist (network N Q) (ways N Q)) (allowed Q) l ↔ ByDistance (Dist (network N Q) (ways N Q)) (allowed Q) l
    agree = orders-agree (network N Q) (ways N Q) (laws N Q ok) (allowed Q) (allowed-low N Q ok) (strict N Q ok timely)

    there : ByDistance (Dist (network N Q) (ways N Q)) (allowed Q) l → ByDistance (Distance N Q) (allowed Q) l
    there B =
        record { ascending = B.ascending; each = λ v d i. (dist-distance N Q ok (B.each v d i).0, (B.each v d i).1); all = λ v d x h. B.all v d (distance-dist N Q ok x) h }

    back : ByDistance (Distance N Q) (allowed Q) l → ByDistance (Dist (network N Q) (ways N Q)) (allowed Q) l
    back B =
        record { ascending = B.ascending; each = λ v d i. (distance-dist N Q ok (B.each v d i).0, (B.each v d i).1); all = λ v d x h. B.all v d (dist-distance N Q ok x) h }
