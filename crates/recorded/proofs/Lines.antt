-- Lines that pass two tests pass a third, and the stops of lines have rising numbers. Assumes nothing.
use mathlib.Core.Path.{◌≡◌, refl, sym, ap, subst, ◌∙◌}
use mathlib.Core.Logic.{⊎_elim}
use mathlib.Core.Bool.{Bool, true, false, cond, ◌&&◌, ◌||◌}
use mathlib.Core.List.{List, [], ◌∷◌}
use Prim.Native.Nat.{ℕ, zero, suc, ◌+◌, ◌-◌, ◌≤◌, ◌<◌}
use native.Mathlib.Omega.{arith}
use lib.Dec.{eqb}
use lib.ListN.{length, drop, length-drop}
use Rattle.journeys.specs.Refusals.{Refusal, fine, unless, or_else}
use Rattle.journeys.proofs.Tests.{split, or_left, or_right}
use Rattle.journeys.proofs.Refusals.{or-fine, unless-fine, unless-good, or-next}
use Rattle.naming.proofs.Meaning.{or-rest}
use Rattle.feed.specs.Lines.{empty, place, onto, ends_now, lines_of, first_bad_line}
use Rattle.feed.specs.Stops.{Stop}
use Rattle.feed.specs.Trips.{stop}
use Rattle.stoplist.specs.declared.Columns.{Columns}
use Rattle.stoplist.specs.Made.{stop_made, stops_made}

-- a line that is not refused is empty or good, and so are those behind it
pub line-fine : (k : ℕ) → 0 < k → (good : List ℕ → Bool) (i : ℕ) (l : List ℕ) (ls : List (List ℕ)) → (first_bad_line k good i (l ∷ ls)).number ≡ 0 → ((empty l || good l) ≡ true) × ((first_bad_line k good (i + 1) ls).number ≡ 0)
unfolding first_bad_line
line-fine k z good i l ls e =
    let p = or-fine (unless (empty l || good l) k (place i)) (first_bad_line k good (i + 1) ls) e in
    (unless-fine (empty l || good l) k (place i) z p.0, p.1)

fine-line : (k : ℕ) (good : List ℕ → Bool) (i : ℕ) (l : List ℕ) (ls : List (List ℕ)) → (empty l || good l) ≡ true → first_bad_line k good (i + 1) ls ≡ fine → first_bad_line k good i (l ∷ ls) ≡ fine
unfolding first_bad_line
fine-line k good i l ls e f = ap (λ (r : Refusal). or_else r (first_bad_line k good (i + 1) ls)) (unless-good (empty l || good l) k (place i) e) ∙ or-next fine (first_bad_line k good (i + 1) ls) refl ∙ f

pub none-refused : (k : ℕ) → 0 < k → (good : List ℕ → Bool) (i : ℕ) (ls : List (List ℕ)) → (first_bad_line k good i ls).number ≡ 0 → first_bad_line k good i ls ≡ fine
unfolding first_bad_line
none-refused k z good i [] e = refl
none-refused k z good i (l ∷ ls) e = let p = line-fine k z good i l ls e in fine-line k good i l ls p.0 (none-refused k z good (i + 1) ls p.1)

module _ (j k m : ℕ) (a : 0 < j) (b : 0 < k) (one two three : List ℕ → Bool) (all : (l : List ℕ) → one l ≡ true → two l ≡ true → three l ≡ true) where
  pub third-passes : (i : ℕ) (ls : List (List ℕ)) → (first_bad_line j one i ls).number ≡ 0 → (first_bad_line k two i ls).number ≡ 0 → first_bad_line m three i ls ≡ fine
  unfolding first_bad_line
  third-passes i [] e f = refl
  third-passes i (l ∷ ls) e f =
      let p = line-fine j a one i l ls e in
      let q = line-fine k b two i l ls f in
      fine-line m three i l ls
      (⊎_elim (λ (t : empty l ≡ true). or_left (three l) t) (λ (t : empty l ≡ false). or_right (empty l) (all l (or-rest p.0 t) (or-rest q.0 t))) (split (empty l)))
      (third-passes (i + 1) ls p.1 q.1)

-- ---- every line takes a byte
onto-few : (b : ℕ) (ls : List (List ℕ)) → length (onto b ls) ≤ suc (length ls)
unfolding onto
onto-few b [] = omega arith
onto-few b (l ∷ ls) = omega arith

pub lines-few : (t : List ℕ) → length (lines_of t) ≤ length t
unfolding lines_of
lines-few [] = omega arith
lines-few (b ∷ r) =
    let f = lines-few r in
    ⊎_elim (λ (p : eqb b 10 ≡ true). rw p (omega (arith, f)))
    (λ (p : eqb b 10 ≡ false).
    ⊎_elim (λ (q : eqb b 13 && ends_now r ≡ true). rw (p, q) (omega (arith, f))) (λ (q : eqb b 13 && ends_now r ≡ false). rw (p, q) (omega (arith, f, onto-few b (lines_of r)))) (split (eqb b 13 && ends_now r)))
    (split (eqb b 10))

-- ---- the numbers of the lines
module _ (C : Columns) (stops trips : List ℕ) where
  abbrev E : ℕ → List (List ℕ) → List Stop
  E i ls = stops_made C stops trips i ls

  pub numbered : (i : ℕ) (ls : List (List ℕ)) (k : ℕ) → k < length (E i ls) → (i ≤ (stop (E i ls) k).line) × ((stop (E i ls) k).line < i + length ls)
  unfolding stops_made stop_made
  numbered i [] k h = absurd (omega (arith, h))
  numbered i (l ∷ ls) k h =
      ⊎_elim (λ (t : empty l ≡ true). let g : k < length (E (i + 1) ls) = rw t at h in let r = numbered (i + 1) ls k g in rw t (omega (arith, r.0), omega (arith, r.1)))
      (λ (t : empty l ≡ false). let g : k < suc (length (E (i + 1) ls)) = rw t at h in rw t (here k g (λ j q. numbered (i + 1) ls j q)))
      (split (empty l))
    where
      here : (k : ℕ) → k < suc (length (E (i + 1) ls)) → ((j : ℕ) → j < length (E (i + 1) ls) → (i + 1 ≤ (stop (E (i + 1) ls) j).line) × ((stop (E (i + 1) ls) j).line < i + 1 + length ls))
          → (i ≤ (stop (stop_made C stops trips i l ∷ E (i + 1) ls) k).line) × ((stop (stop_made C stops trips i l ∷ E (i + 1) ls) k).line < i + suc (length ls))
      here zero g f = (omega arith, omega arith)
      here (suc k) g f = let r = f k (omega (arith, g)) in (omega (arith, r.0), omega (arith, r.1))

  pub rising : (i : ℕ) (ls : List (List ℕ)) (j k : ℕ) → j < k → k < length (E i ls) → (stop (E i ls) j).line < (stop (E i ls) k).line
  unfolding stops_made stop_made
  rising i [] j k q h = absurd (omega (arith, h))
  rising i (l ∷ ls) j k q h =
      ⊎_elim (λ (t : empty l ≡ true). let g : k < length (E (i + 1) ls) = rw t at h in rw t (rising (i + 1) ls j k q g))
      (λ (t : empty l ≡ false). let g : k < suc (length (E (i + 1) ls)) = rw t at h in rw t (here j k q g (λ a b r s. rising (i + 1) ls a b r s)))
      (split (empty l))
    where
      here : (j k : ℕ) → j < k → k < suc (length (E (i + 1) ls)) → ((a b : ℕ) → a < b → b < length (E (i + 1) ls) → (stop (E (i + 1) ls) a).line < (stop (E (i + 1) ls) b).line)
          → (stop (stop_made C stops trips i l ∷ E (i + 1) ls) j).line < (stop (stop_made C stops trips i l ∷ E (i + 1) ls) k).line
      here j zero q g f = absurd (omega (arith, q))
      here zero (suc k) q g f = let r = numbered (i + 1) ls k (omega (arith, g)) in omega (arith, r.0)
      here (suc j) (suc k) q g f = f j k (omega (arith, q)) (omega (arith, g))
