-- A pass over the lines of a text: which line is the first that is not good. Assumes nothing.
use Prim.Native.Nat.{ℕ, ◌+◌, ◌-◌, ◌≤◌, ◌<◌, min}
use native.Mathlib.Omega.{arith}
use mathlib.Core.Path.{◌≡◌, refl, sym, ap, ◌∙◌}
use mathlib.Core.Logic.{⊎_elim}
use mathlib.Core.Bool.{Bool, true, false, ◌&&◌, ◌||◌}
use mathlib.Core.List.{List, [], ◌∷◌}
use lib.Dec.{eqb}
use lib.ListN.{length, take, drop, length-drop, drop_of_length-le}
use lib.Seq.{drop-drop}
use Rattle.journeys.proofs.Tests.{split, and_right, le-or-lt}
use Rattle.journeys.specs.Counting.{none}
use Rattle.journeys.specs.Refusals.{fine, unless, or_else}
use Rattle.feed.specs.Lines.{empty, ends_now, lines_of, place, first_bad_line}
use Rattle.lines.specs.Ends.{ends, width, end_width}
use Rattle.lines.proofs.Lines.{line-at}

-- where 32 bits no longer hold the number of a line, the next one is told by the same
same_place : (i : ℕ) → none ≤ i → place (i + 1) ≡ place i
unfolding place
same_place i h = omega arith

pub capped : (number : ℕ) (good : List ℕ → Bool) (i : ℕ) (ls : List (List ℕ)) → none ≤ i → first_bad_line number good (i + 1) ls ≡ first_bad_line number good i ls
unfolding first_bad_line
capped number good i [] h = refl
capped number good i (l ∷ ls) h = rw (same_place i h, capped number good (i + 1) ls (omega arith)) refl

pub place_is : (i : ℕ) → i ≤ none → place i ≡ i
unfolding place
place_is i h = omega arith

-- the number of the next line, as far as 32 bits hold it
pub next_place : (number : ℕ) (good : List ℕ → Bool) (i : ℕ) (ls : List (List ℕ)) → i ≤ none → first_bad_line number good (i + 1) ls ≡ first_bad_line number good (min (i + 1) none) ls
next_place number good i ls h =
    ⊎_elim (λ (k : none ≤ i). let e : min (i + 1) none ≡ i = omega arith in rw e (capped number good i ls k))
    (λ (k : i < none). let e : min (i + 1) none ≡ i + 1 = omega arith in rw e refl)
    (le-or-lt none i)

module _ (number : ℕ) (good : List ℕ → Bool) (text : List ℕ) (i at : ℕ) where
  pub pass-over : length text ≤ at → first_bad_line number good i (lines_of (drop at text)) ≡ fine
  unfolding first_bad_line lines_of
  pass-over h = rw (drop_of_length-le text h) refl

  module _ (stop next : ℕ) (h : at < length text) (s : stop ≡ at + width (drop at text)) (n : next ≡ stop + end_width (drop stop text)) where
    abbrev pub line_here : List ℕ
    line_here = take (stop - at) (drop at text)

    pub pass-good : (empty line_here || good line_here) ≡ true → first_bad_line number good i (lines_of (drop at text)) ≡ first_bad_line number good (i + 1) (lines_of (drop next text))
    unfolding first_bad_line unless or_else
    pass-good e = rw (line-at text at stop next h s n, e) refl

    pub pass-bad : eqb number 0 ≡ false → (empty line_here || good line_here) ≡ false → first_bad_line number good i (lines_of (drop at text)) ≡ record { number = number; place = place i }
    unfolding first_bad_line unless or_else
    pass-bad z e = rw (line-at text at stop next h s n, e, z) refl

-- a line ends inside the text, and the next begins behind it
width_fits : (t : List ℕ) → width t ≤ length t
unfolding width
width_fits [] = omega arith
width_fits (b ∷ r) = ⊎_elim (λ (e : ends (b ∷ r) ≡ true). rw e (omega arith)) (λ (e : ends (b ∷ r) ≡ false). rw e (omega (arith, width_fits r))) (split (ends (b ∷ r)))

end_fits : (t : List ℕ) → end_width t ≤ length t
unfolding end_width ends ends_now
end_fits [] = omega arith
end_fits (b ∷ []) = ⊎_elim (λ (e : eqb b 10 ≡ true). rw e (omega arith)) (λ (e : eqb b 10 ≡ false). rw (e, and_right (eqb b 13) refl) (omega arith)) (split (eqb b 10))
end_fits (b ∷ c ∷ r) =
    ⊎_elim (λ (e : eqb b 10 ≡ true). rw e (omega arith))
    (λ (e : eqb b 10 ≡ false).
    ⊎_elim (λ (d : (eqb b 13 && eqb c 10) ≡ true). rw (e, d) (omega arith)) (λ (d : (eqb b 13 && eqb c 10) ≡ false). rw (e, d) (omega arith)) (split (eqb b 13 && eqb c 10)))
    (split (eqb b 10))

end-some : (b : ℕ) (r : List ℕ) → ends (b ∷ r) ≡ true → 0 < end_width (b ∷ r)
unfolding end_width
end-some b r e = rw e (⊎_elim (λ (q : eqb b 10 ≡ true). rw q (omega arith)) (λ (q : eqb b 10 ≡ false). rw q (omega arith)) (split (eqb b 10)))

some_bytes : (t : List ℕ) → 0 < length t → 0 < width t + end_width (drop (width t) t)
unfolding width
some_bytes [] h = absurd (omega arith)
some_bytes (b ∷ r) h =
    ⊎_elim (λ (e : ends (b ∷ r) ≡ true). rw e (omega (arith, end-some b r e))) (λ (e : ends (b ∷ r) ≡ false). rw e (omega arith)) (split (ends (b ∷ r)))

module _ (text : List ℕ) (at stop next : ℕ) (h : at ≤ length text) (s : stop ≡ at + width (drop at text)) where
  pub stop-within : (at ≤ stop) × (stop ≤ length text)
  stop-within = omega (arith, width_fits (drop at text), length-drop at text)

  pub next-within : next ≡ stop + end_width (drop stop text) → (stop ≤ next) × (next ≤ length text)
  next-within n = omega (arith, stop-within, end_fits (drop stop text), length-drop stop text)

  pub next-later : at < length text → next ≡ stop + end_width (drop stop text) → at < next
  next-later k n =
      let same : drop (width (drop at text)) (drop at text) ≡ drop stop text = drop-drop (width (drop at text)) at text ∙ ap (λ m. drop m text) (sym s) in
      omega (arith, some_bytes (drop at text) (omega (arith, length-drop at text)), ap end_width same)
