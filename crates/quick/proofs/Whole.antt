-- A vertex that is in order and whose claim is met is good: each walk with a twin that leaves it stands for one that arrives. Assumes nothing.
use Rattle.std.proofs.Common.{◌≡◌, ℕ, ◌+◌, ◌/◌, ◌<◌, ◌≤◌, Bool, true, false, not, ◌&&◌, ◌||◌, eqb, List, length, sym, refl, ap, ◌∙◌, ap₂, ⊎_elim, arith, le-ltb, lt-ltb, eq-eqb, eqb-true}
use Rattle.journeys.specs.Counting.{none, one, count}
use Rattle.journeys.specs.Tables.{Walk, vertex_at, walk_at, tables_of, walk}
use Rattle.journeys.specs.Records.{departing}
use Rattle.journeys.specs.Refusals.{walk_ok, vertex_ok}
use Rattle.journeys.proofs.Tests.{and_both, and-true, cond-true, cond-false, le-or-lt}
use Rattle.journeys.proofs.Counting.{count-join, count_same, count_none, none-count, count_most}
use Rattle.journeys.proofs.Decoding.{walk_at_lem, walk-count, vertex-count}
use Rattle.journeys.proofs.Valid.{walk-says}
use Rattle.twins.proofs.Exchange.{paired-leave-as-arrive}
use Rattle.records.specs.Columns.{records_in, from_at, to_at, arriving_below, leaving}
use Rattle.records.specs.Arriving.{first_of, end_of}
use Rattle.records.specs.declared.Kind.TheVariants.{Walks}
use Rattle.records.proofs.Columns.{all-count, walk_from, walk-to, departing-is}
use Rattle.records.proofs.Judged.{vertex-ok}
use Rattle.quick.specs.Claims.{twin_at, leaves, arrives, counted, arriving, alone_in, Run, in_order, claim_of, Ordered, Met}
use Rattle.quick.proofs.Claimed.{claim-short, claim-good}

-- ---- what is counted where it leaves, and what where it arrives: all leave without `pairs`
all-leave : (size : ℕ) (t : List ℕ) (v : ℕ) → leaving size t v ≡ counted false size t v
unfolding leaving leaves
all-leave size t v = count_same _ _ (records_in size t) (λ i l. refl)

pub alone-most : (t : List ℕ) → alone_in t ≤ records_in 16 t
unfolding alone_in
alone-most t = count_most (λ i. eqb (twin_at t i) none) (records_in 16 t)

-- where no walk is alone, none is counted where it leaves
pub none-leaves : (t : List ℕ) → alone_in t ≡ 0 → (v : ℕ) → counted true 16 t v ≡ 0
unfolding alone_in leaves
none-leaves t z v =
    none-count _ (records_in 16 t) (λ i l. ap (λ (b : Bool). b && eqb (from_at 16 t i) v) (count_none (λ j. eqb (twin_at t j) none) (records_in 16 t) z i l))

pub ordered-less : {size : ℕ} {vertices walks hops : List ℕ} {limit : ℕ} (less : ℕ) → less ≤ limit → Ordered size vertices walks hops limit → Ordered size vertices walks hops less
ordered-less less l o =
    record { within = omega (arith, o.within); own = λ v m. o.own v (omega arith); next = λ v m. o.next v (omega arith) }

module _ (size : ℕ) (vertices walks hops : List ℕ) (few : records_in 16 walks ≤ 262144) (ok : (i : ℕ) → i < records_in 16 walks → walk_ok (tables_of size vertices walks hops) i ≡ true) where
  -- walks with a twin that leave v
  twin-leaves : ℕ → ℕ → Bool
  twin-leaves v i = not (eqb (twin_at walks i) none) && eqb (from_at 16 walks i) v

  twin-is : (i : ℕ) → i < records_in 16 walks → (walk (tables_of size vertices walks hops) i).twin ≡ twin_at walks i
  unfolding walk_at
  twin-is i l = ap (λ (x : Walk). x.twin) (walk_at_lem size vertices walks hops i l)

  as_many : (v : ℕ) → count (twin-leaves v) (records_in 16 walks) ≡ count (arrives walks v) (records_in 16 walks)
  unfolding twin-leaves arrives
  as_many v =
      let N = tables_of size vertices walks hops in
      let e = walk-count size vertices walks hops in
      sym (count_same _ _ (records_in 16 walks) (λ i l. ap₂ (λ (x y : ℕ). not (eqb x none) && eqb y v) (twin-is i l) (walk_from size vertices walks hops i l)))
      ∙ rw e at (paired-leave-as-arrive N (rw e few) (λ i l. ok i (rw e at l)) v)
      ∙ count_same _ _ (records_in 16 walks) (λ i l. ap₂ (λ (x y : ℕ). not (eqb x none) && eqb y v) (twin-is i l) (walk-to size vertices walks hops i l))

  leave-or-arrive : (pairs : Bool) (v : ℕ) → leaving 16 walks v ≡ counted pairs 16 walks v + arriving pairs walks v
  unfolding leaving leaves arriving twin-leaves
  leave-or-arrive false v = all-leave 16 walks v ∙ omega arith
  leave-or-arrive true v =
      count-join _ (leaves true 16 walks v) (twin-leaves v) (records_in 16 walks) (λ i l. parts (eqb (twin_at walks i) none) (eqb (from_at 16 walks i) v))
      ∙ ap (λ (x : ℕ). counted true 16 walks v + x) (as_many v)
    where
      parts : (a b : Bool) → one b ≡ one ((not true || a) && b) + one (not a && b)
      parts true true = refl
      parts true false = refl
      parts false true = refl
      parts false false = refl

  -- ---- the vertices in order
  first-right : (v : ℕ) → in_order size vertices walks hops v ≡ true → first_of Walks (vertex_at vertices v) ≡ arriving_below 16 walks v
  unfolding in_order first_of
  first-right v e = eqb-true (vertex_at vertices v).first_walk (arriving_below 16 walks v) (and_both _ _ (and_both _ _ e).0).0

  -- behind the last vertex no walk arrives
  last_end : (v : ℕ) → length vertices / 12 ≤ v → records_in 16 walks ≡ arriving_below 16 walks v
  unfolding arriving_below
  last_end v h =
      sym (all-count _ (records_in 16 walks) (λ i l. lt-ltb (to_at 16 walks i) v (omega (arith, walk-to size vertices walks hops i l, vertex-count size vertices walks hops, (walk-says (tables_of size vertices walks hops) i (ok i l)).to_low))))

  pub runs : (limit : ℕ) → Ordered size vertices walks hops limit → (v : ℕ) → v < limit → Run vertices walks v
  unfolding end_of
  runs limit o v l = (
    first-right v (o.own v l),
    ⊎_elim (λ (h : length vertices / 12 ≤ v + 1). cond-false _ _ (le-ltb (v + 1) (length vertices / 12) h) ∙ last_end (v + 1) h)
        (λ (h : v + 1 < length vertices / 12). cond-true _ _ (lt-ltb (v + 1) (length vertices / 12) h) ∙ first-right (v + 1) (o.next v l h))
        (le-or-lt (length vertices / 12) (v + 1)),
  )

  -- ---- a claim that is met
  claim-says : (pairs : Bool) (limit v : ℕ) → v < limit → claim_of pairs vertices walks limit v < 65536 → claim_of pairs vertices walks limit v + arriving pairs walks v ≡ (vertex_at vertices v).departing
  claim-says pairs limit v w l =
      ⊎_elim (λ (h : arriving pairs walks v ≤ (vertex_at vertices v).departing). omega (arith, claim-good pairs vertices walks limit v w h))
      (λ (h : (vertex_at vertices v).departing < arriving pairs walks v). absurd (let z : ⊥ = omega (arith, claim-short pairs vertices walks limit v w h) in z))
      (le-or-lt (arriving pairs walks v) (vertex_at vertices v).departing)

  pub vertex-right : (pairs : Bool) (limit v : ℕ) → Ordered size vertices walks hops limit → v < limit → Met pairs size vertices walks hops limit v → vertex_ok (tables_of size vertices walks hops) v ≡ true
  unfolding in_order
  vertex-right pairs limit v o l m =
      let x = vertex_at vertices v in
      let e : x.departing ≡ departing (tables_of size vertices walks hops) v =
      sym (claim-says pairs limit v l m.small) ∙ omega (arith, m.exact, departing-is size vertices walks hops v, leave-or-arrive pairs v, all-leave size hops v) in
      let a = and_both (eqb x.first_walk (arriving_below 16 walks v) && eqb x.first_hop (arriving_below size hops v)) _ (o.own v l) in
      vertex-ok size vertices walks hops v (omega (arith, o.within)) ∙ and-true (and-true a.0 (eq-eqb x.departing (departing (tables_of size vertices walks hops) v) e)) a.1
