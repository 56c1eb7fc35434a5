-- The first line of a text, cut off by its width and the width of its end. Assumes nothing.
use Prim.Native.Nat.{ℕ, ◌+◌, ◌-◌, ◌<◌}
use native.Mathlib.Omega.{arith}
use native.Mathlib.Nat.{suc-add}
use native.Mathlib.Numerals.{add-one}
use mathlib.Core.Path.{◌≡◌, refl, sym, ap, ◌∙◌}
use mathlib.Core.Logic.{⊎_elim}
use mathlib.Core.Bool.{Bool, true, false, ◌&&◌, ◌||◌}
use mathlib.Core.List.{List, [], ◌∷◌}
use lib.Dec.{eqb}
use lib.ListN.{length, get_or, take, drop}
use lib.Seq.{drop-cons, drop-drop}
use borrow.Author.Tests.{eqb-true}
use Rattle.journeys.proofs.Tests.{split, never, and_both, and_right, or-none}
use Rattle.feed.specs.Lines.{ends_now, onto, lines_of}
use Rattle.lines.specs.Ends.{ends, width, end_width}

or-right-of : {a b : Bool} → a ≡ false → (a || b) ≡ true → b ≡ true
or-right-of p q = cc

First : List ℕ → Type 0
First t = lines_of t ≡ take (width t) t ∷ lines_of (drop (width t + end_width (drop (width t) t)) t)

at-lf : (b : ℕ) (r : List ℕ) → eqb b 10 ≡ true → First (b ∷ r)
unfolding First lines_of width end_width ends
at-lf b r e = rw (eqb-true b 10 e) refl

at-crlf : (b : ℕ) (r : List ℕ) → eqb b 10 ≡ false → (eqb b 13 && ends_now r) ≡ true → First (b ∷ r)
unfolding First lines_of width end_width ends ends_now
at-crlf b [] e q = never (and_both (eqb b 13) false q).1 refl
at-crlf b (c ∷ r) e q = rw (eqb-true b 13 (and_both _ (eqb c 10) q).0, eqb-true c 10 (and_both (eqb b 13) _ q).1) refl

ends_now_lem : (b : ℕ) (r : List ℕ) → ends (b ∷ r) ≡ true → First (b ∷ r)
unfolding ends
ends_now_lem b r e = ⊎_elim (at-lf b r) (λ n. at-crlf b r n (or-right-of n e)) (split (eqb b 10))

first_step : (b : ℕ) (r : List ℕ) → ends (b ∷ r) ≡ false → (eqb b 10 ≡ false) × ((eqb b 13 && ends_now r) ≡ false)
unfolding ends
first_step b r e = or-none (eqb b 10) (eqb b 13 && ends_now r) e

last_byte : (b : ℕ) → ends (b ∷ []) ≡ false → First (b ∷ [])
unfolding First lines_of width end_width ends_now onto
last_byte b e = rw ((first_step b [] e).0, and_right (eqb b 13) refl, e) refl

further : (b : ℕ) (r : List ℕ) → ends (b ∷ r) ≡ false → First r → First (b ∷ r)
unfolding First lines_of width onto
further b r e ih = rw ((first_step b r e).0, (first_step b r e).1, e, ih, suc-add) refl

first-line : (b : ℕ) (r : List ℕ) → First (b ∷ r)
first-line b [] = ⊎_elim (ends_now_lem b []) (last_byte b) (split (ends (b ∷ [])))
first-line b (c ∷ r) = ⊎_elim (ends_now_lem b (c ∷ r)) (λ e. further b (c ∷ r) e (first-line c r)) (split (ends (b ∷ c ∷ r)))

module _ (text : List ℕ) (at stop next : ℕ) (h : at < length text) where
  -- the line that begins at a place, and the lines behind it
  pub line-at : stop ≡ at + width (drop at text) → next ≡ stop + end_width (drop stop text)
      → lines_of (drop at text) ≡ take (stop - at) (drop at text) ∷ lines_of (drop next text)
  unfolding First
  line-at p q =
      let w = width (drop at text) in
      let long : stop - at ≡ w = omega arith in
      let cut : drop at text ≡ get_or text at 0 ∷ drop (at + 1) text = rw (add-one, drop-cons text at 0) in
      let whole : First (drop at text) = rw cut (first-line (get_or text at 0) (drop (at + 1) text)) in
      let past : at + (w + end_width (drop (at + w) text)) ≡ next = rw (sym p) (omega arith) in
      rw long (whole ∙ ap (λ l. take w (drop at text) ∷ lines_of l) (ap (λ u. drop (w + end_width u) (drop at text)) (drop-drop w at text) ∙ drop-drop _ at text ∙ ap (λ n. drop n text) past))
