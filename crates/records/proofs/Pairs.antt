-- A pair of walks tested from its lower record. Assumes nothing.
use mathlib.Core.Path.{◌≡◌, sym, ap, subst, ◌∙◌}
use mathlib.Core.Logic.{⊎_elim, ◌≢◌}
use mathlib.Core.Bool.{true, not, ◌&&◌}
use mathlib.Core.List.{List, []}
use Prim.Native.Nat.{ℕ, ◌≤◌, ◌<◌}
use native.Mathlib.Omega.{arith}
use lib.Dec.{eqb, ltb}
use borrow.Author.Tests.{eq-eqb, eqb-true, lt-ltb, ne_eqb}
use Rattle.journeys.specs.Counting.{none}
use Rattle.journeys.specs.Tables.{Tables, Walk, walk_at, tables_of, vertex_count, walk_count, walk}
use Rattle.journeys.specs.Refusals.{ends_ok, length_ok, wait_ok, pair_ok, twin_ok, walk_ok}
use Rattle.journeys.proofs.Tests.{and_both, and-true, or_cases, or_right, same_test}
use Rattle.journeys.proofs.Decoding.{walk_at_lem, walk-count}
use Rattle.journeys.proofs.Valid.{ends-good}
use Rattle.records.specs.Columns.{records_in}

-- ---- a pair the other way round
record Paired (i : ℕ) (w t : Walk) : Type 0 where
  names : t.twin ≡ i
  from : t.from ≡ w.to
  to : t.to ≡ w.from
  len : t.len ≡ w.len

pair-says : (i : ℕ) (w t : Walk) → pair_ok i w t ≡ true → Paired i w t
unfolding pair_ok
pair-says i w t e =
    let a = and_both (eqb t.twin i && eqb t.from w.to && eqb t.to w.from) _ e in
    let b = and_both (eqb t.twin i && eqb t.from w.to) _ a.0 in
    let c = and_both (eqb t.twin i) _ b.0 in
    record { names = eqb-true _ _ c.0; from = eqb-true _ _ c.1; to = eqb-true _ _ b.1; len = eqb-true _ _ a.1 }

pair-back : (i j : ℕ) (w t : Walk) → Paired i w t → w.twin ≡ j → pair_ok j t w ≡ true
unfolding pair_ok
pair-back i j w t p e =
    and-true (and-true (and-true (eq-eqb _ _ e) (eq-eqb _ _ (sym p.to))) (eq-eqb _ _ (sym p.from))) (eq-eqb _ _ (sym p.len))

ends-back : (n a b : ℕ) → ends_ok n a b ≡ true → ends_ok n b a ≡ true
unfolding ends_ok
ends-back n a b e =
    let g = ends-good n a b e in
    and-true (and-true (lt-ltb _ _ g.1) (lt-ltb _ _ g.0)) (ap not (ne_eqb _ _ (λ q. g.2 (sym q))))

module _ (N : Tables) where
  -- ---- what a good walk says: its ends, its length, and its twin, if it names one
  tests : (i : ℕ) → walk_ok N i ≡ true
      → (ends_ok (vertex_count N) (walk N i).from (walk N i).to ≡ true) × (length_ok (walk N i).len ≡ true) × (twin_ok N i (walk N i) ≡ true)
  unfolding walk_ok
  tests i e =
      let w = walk N i in
      let a = and_both (ends_ok (vertex_count N) w.from w.to && length_ok w.len && wait_ok w.wait) (twin_ok N i w) e in
      let c = and_both (ends_ok (vertex_count N) w.from w.to && length_ok w.len) (wait_ok w.wait) a.0 in
      let b = and_both (ends_ok (vertex_count N) w.from w.to) (length_ok w.len) c.0 in
      (b.0, b.1, a.1)

  paired : (i : ℕ) → walk_ok N i ≡ true → (walk N i).twin ≢ none → Paired i (walk N i) (walk N (walk N i).twin)
  paired i e some =
      ⊎_elim (λ (t : eqb (walk N i).twin none ≡ true). absurd (some (eqb-true _ _ t)))
      (λ t. pair-says _ _ _ (and_both (ltb (walk N i).twin (walk_count N)) _ t).1)
      (or_cases (eqb (walk N i).twin none) _ (tests i e).2)

  -- ---- a walk with a good wait whose twin is lower and good is good exactly if the twin names it
  module _ (i : ℕ) (low : i < none) (inside : i < walk_count N) (lower : (walk N i).twin < i) (waits : wait_ok (walk N i).wait ≡ true) (ok : walk_ok N (walk N i).twin ≡ true) where
    abbrev j : ℕ
    j = (walk N i).twin

    named : walk_ok N i ≡ true → eqb (walk N j).twin i ≡ true
    named e = eq-eqb _ _ (paired i e (λ z. omega arith)).names

    names-back : (walk N j).twin ≡ i → walk_ok N i ≡ true
    unfolding walk_ok
    names-back e =
        let p : Paired j (walk N j) (walk N i) = rw e at (paired j ok (λ z. omega arith)) in
        let t = tests j ok in
        let ends : ends_ok (vertex_count N) (walk N i).from (walk N i).to ≡ true = rw (p.from, p.to) (ends-back (vertex_count N) (walk N j).from (walk N j).to t.0) in
        let long : length_ok (walk N i).len ≡ true = rw p.len t.1 in
        and-true (and-true (and-true ends long) waits) (or_right (eqb j none) (and-true (lt-ltb j (walk_count N) (omega arith)) (pair-back j i (walk N j) (walk N i) p e)))

    pub lower-names : walk_ok N i ≡ eqb (walk N j).twin i
    lower-names = same_test _ _ named (λ t. names-back (eqb-true _ _ t))

-- the same in the bytes of the table
pub lower-names-at : (v w : List ℕ) (i : ℕ) → i < records_in 16 w → records_in 16 w ≤ 262144 → ((k : ℕ) → k < i → walk_ok (tables_of 16 v w []) k ≡ true)
    → (walk_at w i).twin < i → wait_ok (walk_at w i).wait ≡ true → eqb (walk_at w (walk_at w i).twin).twin i ≡ walk_ok (tables_of 16 v w []) i
lower-names-at v w i inside few before lower waits =
    let N = tables_of 16 v w [] in
    let e : (walk N i).twin ≡ (walk_at w i).twin = ap (λ (x : Walk). x.twin) (walk_at_lem 16 v w [] i inside) in
    let l : (walk N i).twin < i = omega arith in
    let t : walk N (walk N i).twin ≡ walk_at w (walk_at w i).twin = ap (walk N) e ∙ walk_at_lem 16 v w [] (walk_at w i).twin (omega arith) in
    sym (lower-names N i (omega arith) (omega (arith, walk-count 16 v w [])) l (subst (λ (x : Walk). wait_ok x.wait ≡ true) (sym (walk_at_lem 16 v w [] i inside)) waits) (before (walk N i).twin l) ∙ ap (λ (x : Walk). eqb x.twin i) t)
