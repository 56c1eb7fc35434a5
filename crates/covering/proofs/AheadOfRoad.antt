-- The courier's parts that the code lists by the numbers of the query's road, and by the list of records, are those of the definitions. Assumes nothing.
use mathlib.Core.Path.{◌≡◌, sym, ap, ap₂, subst, ◌∙◌}
use mathlib.Core.Logic.{◌⊎◌, inl, inr, ◌≢◌}
use mathlib.Core.Bool.{Bool, true, false, cond, ◌||◌}
use mathlib.Core.List.{List, [], ◌++◌, append-nil}
use Prim.Native.Nat.{ℕ, zero, suc, ◌+◌, ◌-◌, ◌*◌, ◌/◌, ◌≤◌, ◌<◌, min}
use native.Mathlib.Omega.{arith}
use lib.Dec.{eqb}
use lib.ListN.{length}
use borrow.Author.Tests.{eq-eqb, ne_eqb, eqb-false}
use Rattle.journeys.specs.Counting.{none, joined}
use Rattle.journeys.specs.Bytes.{be32}
use Rattle.journeys.specs.Tables.{Tables, Walk, walk, tables_of, walk_at}
use Rattle.journeys.specs.Query.{Query, allowed, asked}
use Rattle.journeys.specs.Order.{settled}
use Rattle.journeys.specs.Parts.{Part, part, near}
use Rattle.journeys.specs.CourierParts.{reach, first_part, first_parts, part_at, parts_at}
use Rattle.journeys.specs.Valid.{Valid}
use Rattle.journeys.proofs.Tests.{cond-true, cond-false, split, Test, test}
use Rattle.journeys.proofs.Counting.{joined_same}
use Rattle.journeys.proofs.Decoding.{walk_at_lem, walk-count}
use Rattle.journeys.proofs.Valid.{paired}
use Rattle.records.specs.Columns.{records_in}
use Rattle.records.proofs.Columns.{walk_from}
use Rattle.listing.specs.Places.{total, from_of, below, same, place}
use Rattle.listing.proofs.PlaceLaws.{same_start, same_here, same-other}
use Rattle.listing.proofs.Froms.{of-walk}
use Rattle.stretches.specs.Stretch.{Right}
use Rattle.parts.specs.Listing.{road_of, near_on, pair_on, first_ahead, run_on, reach_on, ahead_on, aheads_on}
use Rattle.parts.specs.declared.Road.{Road}
use Rattle.covering.proofs.PartsOfRoad.{asked_is, near-is, near-twin, near-walk}

-- what is taken of those i for which F i is u, by a list that numbers these
selected : {A : Type 0} (F : ℕ → ℕ) (u : ℕ) (p : ℕ → List A) (number : ℕ → ℕ) (n : ℕ) → ((x : ℕ) → x < n → F x ≡ u → number (same F u x) ≡ x)
    → joined (λ i. cond (eqb (F i) u) (p i) []) n ≡ joined (λ k. p (number k)) (same F u n)
unfolding joined
selected {A} F u p number zero h = ap (joined (λ k. p (number k))) (sym (same_start F u))
selected {A} F u p number (suc n) h = go (selected F u p number n (λ x l. h x (omega arith))) (test (F n) u)
  where
    f : ℕ → List A
    f i = cond (eqb (F i) u) (p i) []

    go : {b : Bool} → joined f n ≡ joined (λ k. p (number k)) (same F u n) → Test (F n) u b → joined f n ++ cond (eqb (F n) u) (p n) [] ≡ joined (λ k. p (number k)) (same F u (suc n))
    go q (Test.same e) =
        ap₂ (λ (x y : List A). x ++ y) q (cond-true _ _ (eq-eqb (F n) u e) ∙ ap p (sym (h n (omega arith) e)))
        ∙ ap (joined (λ k. p (number k))) (sym (same_here F u n e))
    go q (Test.other e) =
        ap (λ (y : List A). joined f n ++ y) (cond-false _ _ (ne_eqb (F n) u e)) ∙ append-nil (joined f n) ∙ q
        ∙ ap (joined (λ k. p (number k))) (sym (same-other F u n e))

module _ (size : ℕ) (v w h : List ℕ) (Q : Query) (ok : Valid (tables_of size v w h) Q) where
  abbrev N : Tables
  N = tables_of size v w h

  abbrev road : Road
  road = road_of w Q

  len_is : (i : ℕ) → i < length w / 16 → (walk N i).len ≡ (walk_at w i).len
  len_is i l = ap (λ (x : Walk). x.len) (walk_at_lem size v w h i l)

  reach-is : (i : ℕ) → i < length w / 16 → reach N Q i ≡ reach_on road i (walk_at w i).len
  unfolding reach reach_on
  reach-is i l =
      ap₂ (λ (a b : ℕ). cond (eqb i Q.walk || eqb i (asked N Q).twin) a b) (near-is size v w h Q ok i) (len_is i l)
      ∙ ap (λ (x : Walk). cond (eqb i Q.walk || eqb i x.twin) (near_on road i) (walk_at w i).len) (asked_is size v w h Q ok)

  ahead-is : (d i : ℕ) → i < length w / 16 → part_at N Q d i ≡ ahead_on w road (allowed Q - d) i
  unfolding part_at ahead_on
  ahead-is d i l = ap₂ (λ (a b : ℕ). part i 0 (min (min a (allowed Q - d)) b)) (len_is i l) (reach-is i l)

  -- At a settled vertex the numbers of its stretch have all its parts.
  pub aheads-here : {r : List ℕ} → Right (from_of size w h) (total size w h) r → (x d : ℕ)
      → parts_at N Q (settled x d) ≡ aheads_on w road (allowed Q - d) r (below (from_of size w h) x (total size w h)) (same (from_of size w h) x (records_in 16 w))
  unfolding parts_at run_on
  aheads-here {r} right x d =
      ap (joined _) (walk-count size v w h)
      ∙ joined_same _ _ (records_in 16 w) (λ i l. ap₂ (λ (a : ℕ) (ps : List Part). cond (eqb a x) ps []) (walk_from size v w h i l ∙ sym (of-walk size v w h i l)) (ahead-is d i l))
      ∙ selected F x (ahead_on w road (allowed Q - d)) (λ k. be32 r (4 * (below F x n + k))) (records_in 16 w)
      (λ y l e. ap (λ (j : ℕ). be32 r (4 * j)) (ap (λ (u : ℕ). place F n u y) (sym e)) ∙ right.stands y (omega arith))
    where
      F : ℕ → ℕ
      F = from_of size w h

      n : ℕ
      n = total size w h

  -- Step 0 lists what lies before the courier on the query's road.
  first-at : (i place len : ℕ) → near N Q i ≡ place → (walk N i).len ≡ len → place ≤ len → first_part N Q i ≡ part i place (place + min (len - place) (allowed Q))
  unfolding first_part
  first-at i place len e f l =
      let z : min (walk N i).len (near N Q i + allowed Q) ≡ place + min (len - place) (allowed Q) = omega (arith, e, f) in
      ap₂ (part i) e z

  pub aheads-first : first_parts N Q ≡ first_ahead road (allowed Q)
  unfolding first_parts pair_on
  aheads-first =
      ap₂ (λ (x y : List Part). x ++ y) (first-at Q.walk Q.offset (walk_at w Q.walk).len (near-walk size v w h Q ok) (ap (λ (x : Walk). x.len) (asked_is size v w h Q ok)) on)
      (ap (λ (x : Walk). cond (eqb x.twin none) [] (first_part N Q x.twin)) (asked_is size v w h Q ok) ∙ go (split (eqb (walk_at w Q.walk).twin none)))
    where
      T : ℕ
      T = (walk_at w Q.walk).twin

      back : ℕ
      back = (walk_at w Q.walk).len - Q.offset

      on : Q.offset ≤ (walk_at w Q.walk).len
      on = omega (arith, ok.query.offset_low, ap (λ (x : Walk). x.len) (asked_is size v w h Q ok))

      near-back : T ≢ none → near N Q T ≡ back
      near-back n = subst (λ (x : Walk). x.twin ≢ none → near N Q x.twin ≡ x.len - Q.offset) (asked_is size v w h Q ok) (near-twin size v w h Q ok) n

      long : T ≢ none → (walk N T).len ≡ (walk_at w Q.walk).len
      long n =
          subst (λ (x : Walk). x.twin ≢ none → (walk N x.twin).len ≡ x.len) (asked_is size v w h Q ok)
          (λ m. (paired N ok.tables Q.walk ok.query.walk_low m).1.len) n

      rest : (walk_at w Q.walk).len - back ≡ Q.offset
      rest = omega (arith, on)

      go : (eqb T none ≡ true) ⊎ (eqb T none ≡ false) → cond (eqb T none) [] (first_part N Q T) ≡ cond (eqb T none) [] (part T back (back + min Q.offset (allowed Q)))
      go (inl e) = cond-true _ _ e ∙ sym (cond-true _ _ e)
      go (inr e) =
          ap (λ (ps : List Part). cond (eqb T none) [] ps) (first-at T back (walk_at w Q.walk).len (near-back (eqb-false T none e)) (long (eqb-false T none e)) (omega arith)
          ∙ ap (λ (o : ℕ). part T back (back + min o (allowed Q))) rest)
