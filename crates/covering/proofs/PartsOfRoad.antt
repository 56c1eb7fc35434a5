-- The parts that the code lists by the numbers of the query's road are those of the definitions. Assumes nothing.
use mathlib.Core.Path.{◌≡◌, refl, sym, ap, ap₂, subst, ◌∙◌}
use mathlib.Core.Logic.{◌⊎◌, inl, inr, ⊎_elim, ◌≢◌}
use mathlib.Core.Bool.{true, false, cond}
use mathlib.Core.List.{List, [], ◌++◌, append-nil}
use Prim.Native.Nat.{ℕ, zero, suc, ◌+◌, ◌-◌, ◌/◌, ◌≤◌, ◌<◌, max}
use native.Mathlib.Omega.{arith}
use lib.Dec.{eqb}
use lib.ListN.{length}
use borrow.Author.Tests.{eq-eqb, ne_eqb, eqb-false}
use Rattle.journeys.specs.Counting.{none, joined}
use Rattle.journeys.specs.Tables.{Tables, Walk, walk, walk_count, tables_of, vertex_at, walk_at}
use Rattle.journeys.specs.Query.{Query, allowed, asked, wait_ticks, past_ticks}
use Rattle.journeys.specs.Order.{settled}
use Rattle.journeys.specs.Parts.{Part, part, near, first_part, first_parts, part_at, parts_at}
use Rattle.journeys.proofs.Tests.{cond-true, cond-false, same-or-below, split}
use Rattle.journeys.proofs.Decoding.{walk_at_lem, walk-count}
use Rattle.journeys.proofs.Valid.{good-walk, paired}
use Rattle.journeys.specs.Valid.{Valid}
use Rattle.records.specs.Arriving.{first_of, end_of}
use Rattle.records.specs.declared.Kind.TheVariants.{Walks}
use Rattle.parts.specs.Listing.{past_on, road_of, back_start, near_on, pair_on, first_on, part_on, parts_on, run_on}
use Rattle.parts.specs.declared.Road.{Road}
use Rattle.parts.proofs.Laws.{past_is}
use Rattle.heldmap.proofs.ArrivingRun as arriving
use Rattle.heldmap.proofs.ArrivingRun.{up-walk, walk-run}

-- ---- a run of lists among empty ones
module _ {A : Type 0} (f g : ℕ → List A) (first n : ℕ) where
  none_before : (i : ℕ) → ((j : ℕ) → j < i → f j ≡ []) → joined f i ≡ []
  unfolding joined
  none_before zero h = refl
  none_before (suc i) h = ap₂ (λ (x y : List A). x ++ y) (none_before i (λ j l. h j (omega arith))) (h i (omega arith))

  run_inside : ((j : ℕ) → j < first → f j ≡ []) → (k : ℕ) → ((j : ℕ) → j < k → f (first + j) ≡ g j) → joined f (first + k) ≡ joined g k
  unfolding joined
  run_inside h zero e = ap (joined f) (let q : first + 0 ≡ first = omega arith in q) ∙ none_before first h
  run_inside h (suc k) e =
      ap (joined f) (let q : first + suc k ≡ suc (first + k) = omega arith in q)
      ∙ ap₂ (λ (x y : List A). x ++ y) (run_inside h k (λ j l. e j (omega arith))) (e k (omega arith))

  none_after : (t : ℕ) → first + n ≤ t → ((i : ℕ) → first + n ≤ i → i < t → f i ≡ []) → joined f t ≡ joined f (first + n)
  unfolding joined
  none_after zero h e = ap (joined f) (let q : 0 ≡ first + n = omega arith in q)
  none_after (suc t) h e =
      ⊎_elim (λ (q : first + n ≡ suc t). ap (joined f) (sym q))
      (λ (l : first + n < suc t).
      ap (λ (y : List A). joined f t ++ y) (e t (omega arith) (omega arith)) ∙ append-nil (joined f t) ∙ none_after t (omega arith) (λ i a b. e i a (omega arith)))
      (same-or-below h)

  joined-run : (t : ℕ) → first + n ≤ t → ((i : ℕ) → i < first → f i ≡ []) → ((k : ℕ) → k < n → f (first + k) ≡ g k) → ((i : ℕ) → first + n ≤ i → i < t → f i ≡ []) → joined f t ≡ joined g n
  joined-run t h a b c = none_after t h c ∙ run_inside a n b

module _ (size : ℕ) (v w h : List ℕ) (Q : Query) (ok : Valid (tables_of size v w h) Q) where
  abbrev N : Tables
  N = tables_of size v w h

  abbrev road : Road
  road = road_of w Q

  pub low : {i : ℕ} → i < walk_count N → i < length w / 16
  low l = rw (walk-count size v w h) at l

  pub asked_is : asked N Q ≡ walk_at w Q.walk
  asked_is = walk_at_lem size v w h Q.walk (low ok.query.walk_low)

  pub near-is : (i : ℕ) → near N Q i ≡ near_on road i
  unfolding near near_on
  near-is i = ap (λ (x : Walk). cond (eqb i Q.walk) Q.offset (cond (eqb i x.twin) (x.len - Q.offset) 0)) asked_is

  part-is : (d i : ℕ) → i < walk_count N → part_at N Q d i ≡ part_on w road (allowed Q - d) i
  unfolding part_at part_on
  part-is d i l = ap₂ (λ (x : Walk) (z : ℕ). part i (max (x.len - (allowed Q - d - wait_ticks Q x)) z) x.len) (walk_at_lem size v w h i (low l)) (near-is i)

  -- At a settled vertex the run of its arriving walks has all its parts.
  pub parts-here : (x d : ℕ) → x < length v / 12
      → parts_at N Q (settled x d) ≡ parts_on w road (allowed Q - d) (first_of Walks (vertex_at v x)) (end_of Walks v (length w / 16) x - first_of Walks (vertex_at v x))
  unfolding parts_at run_on
  parts-here x d l =
      joined-run (λ i. cond (eqb (walk N i).to x) (part_at N Q d i) []) (λ k. part_on w road (allowed Q - d) (first + k)) first (end - first) (walk_count N)
      (omega (arith, wr.order, wr.fit))
      (λ i b. cond-false _ _ (ne_eqb (walk N i).to x (wr.before i b)))
      (λ k b. cond-true _ _ (eq-eqb (walk N (first + k)).to x (wr.inside (first + k) (omega arith) (omega (arith, wr.order)))) ∙ part-is d (first + k) (omega (arith, wr.order, wr.fit)))
      (λ i a b. cond-false _ _ (ne_eqb (walk N i).to x (wr.after i (omega (arith, wr.order)) b)))
    where
      first : ℕ
      first = first_of Walks (vertex_at v x)

      end : ℕ
      end = end_of Walks v (length w / 16) x

      wr : arriving.Run (λ i. (walk N i).to) (walk_count N) (up-walk N ok.tables) x first end
      wr = walk-run size v w h ok.tables x l

  -- no record is its own twin
  twin-other : (asked N Q).twin ≢ none → (asked N Q).twin ≢ Q.walk
  twin-other n e =
      let p = (paired N ok.tables Q.walk ok.query.walk_low n).1 in
      (good-walk N ok.tables Q.walk ok.query.walk_low).apart (sym p.to ∙ ap (λ (i : ℕ). (walk N i).to) e)

  pub near-twin : (asked N Q).twin ≢ none → near N Q (asked N Q).twin ≡ (asked N Q).len - Q.offset
  unfolding near
  near-twin n = cond-false _ _ (ne_eqb (asked N Q).twin Q.walk (twin-other n)) ∙ cond-true _ _ (eq-eqb (asked N Q).twin (asked N Q).twin refl)

  pub near-walk : near N Q Q.walk ≡ Q.offset
  unfolding near
  near-walk = cond-true _ _ (eq-eqb Q.walk Q.walk refl)

  -- Step 0 lists the parts of the query's road.
  first-is : (i place : ℕ) → near N Q i ≡ place → first_part N Q i ≡ part i (place - (allowed Q - past_on w Q.speed i place)) place
  unfolding first_part
  first-is i place e = ap₂ (λ (o p : ℕ). part i (o - (allowed Q - p)) o) e (ap (past_ticks Q (walk N i)) e ∙ past_is size v w h Q i place)

  pub parts_first : first_parts N Q ≡ first_on road (allowed Q)
  unfolding first_parts pair_on
  parts_first =
      ap₂ (λ (x y : List Part). x ++ y) (first-is Q.walk Q.offset near-walk)
      (ap (λ (x : Walk). cond (eqb x.twin none) [] (first_part N Q x.twin)) asked_is ∙ go (split (eqb (walk_at w Q.walk).twin none)))
    where
      T : ℕ
      T = (walk_at w Q.walk).twin

      back : ℕ
      back = (walk_at w Q.walk).len - Q.offset

      near-back : T ≢ none → near N Q T ≡ back
      near-back n = subst (λ (x : Walk). x.twin ≢ none → near N Q x.twin ≡ x.len - Q.offset) asked_is near-twin n

      go : (eqb T none ≡ true) ⊎ (eqb T none ≡ false) → cond (eqb T none) [] (first_part N Q T) ≡ cond (eqb T none) [] (part T (back_start road (allowed Q)) back)
      go (inl e) = cond-true _ _ e ∙ sym (cond-true _ _ e)
      go (inr e) = ap (λ (ps : List Part). cond (eqb T none) [] ps) (first-is T back (near-back (eqb-false T none e)))
