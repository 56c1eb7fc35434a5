-- A plain id that a comma follows is the first field of its line. Assumes nothing.
use Prim.Native.Nat.{ℕ, suc, ◌+◌, ◌-◌, ◌≤◌, ◌<◌}
use native.Mathlib.Omega.{arith}
use native.Mathlib.Numerals.{add-one}
use mathlib.Core.Path.{◌≡◌, refl, sym, ap, ◌∙◌}
use mathlib.Core.Bool.{Bool, true, false, ◌&&◌}
use mathlib.Core.List.{List, [], ◌∷◌, ◌++◌}
use lib.Dec.{eqb, ltb}
use lib.ListN.{length, get_or, take, drop, drop_of_length-le, length-drop}
use lib.Seq.{drop-cons, get_or-drop}
use borrow.Author.Tests.{eqb-true, ne_eqb, eq-eqb, ltb-true, lt-ltb, le-ltb}
use Rattle.journeys.proofs.Tests.{never, and_both, and_left}
use Rattle.feed.specs.Fields.{same}
use Rattle.lines.specs.Ends.{ends, width}
use Rattle.lines.specs.Passing.{quote, plain_width, opens_at, plain_stop}
use Rattle.lines.specs.Spans.{span_at, bytes_in}
use Rattle.naming.specs.Named.{stop_at, line_at, first_bytes, leads, above}

-- ---- the bytes of a name, one after the other
pub above_on : (y : List ℕ) (i : ℕ) → i < length y → above (drop i y) ≡ (ltb 44 (get_or y i 0) && above (drop (i + 1) y))
unfolding above
above_on y i l = rw (drop-cons y i 0 l, add-one i) refl

pub above-over : (y : List ℕ) (i : ℕ) → length y ≤ i → above (drop i y) ≡ true
unfolding above
above-over y i l = rw (drop_of_length-le y l) refl

pub above-not : (y : List ℕ) (i : ℕ) → i < length y → get_or y i 0 ≤ 44 → above (drop i y) ≡ false
above-not y i l h = above_on y i l ∙ and_left _ (le-ltb 44 (get_or y i 0) h)

pub above-next : (y : List ℕ) (i : ℕ) → i < length y → 44 < get_or y i 0 → above (drop i y) ≡ above (drop (i + 1) y)
above-next y i l h = above_on y i l ∙ ap (λ (t : Bool). t && above (drop (i + 1) y)) (lt-ltb 44 (get_or y i 0) h)

-- ---- a line that begins with it
no_end : (b : ℕ) (t : List ℕ) → 44 < b → ends (b ∷ t) ≡ false
unfolding ends
no_end b t h = rw (ne_eqb b 10 (λ e. absurd (omega (arith, e))), ne_eqb b 13 (λ e. absurd (omega (arith, e)))) refl

longer : (b : ℕ) (t : List ℕ) → ends (b ∷ t) ≡ false → take (width (b ∷ t)) (b ∷ t) ≡ b ∷ take (width t) t
unfolding width
longer b t e = rw e refl

comma-goes : (t : List ℕ) → ends (44 ∷ t) ≡ false
unfolding ends
comma-goes t = refl

line_of : (y t : List ℕ) → leads y t ≡ true → above y ≡ true → length y < length t → get_or t (length y) 0 ≡ 44 → (r : List ℕ) × (take (width t) t ≡ y ++ 44 ∷ r)
unfolding leads above
line_of [] [] d p h c = absurd (omega arith)
line_of [] (b ∷ t) d p h c = rw c (take (width t) t, longer 44 t (comma-goes t))
line_of (a ∷ y) [] d p h c = never d refl
line_of (a ∷ y) (b ∷ t) d p h c =
    let both = and_both (eqb a b) (leads y t) d in
    let high = and_both (ltb 44 a) (above y) p in
    let e : a ≡ b = eqb-true a b both.0 in
    let rest = line_of y t both.1 high.1 (omega arith) c in
    let g : 44 < b = omega (arith, e, ltb-true 44 a high.0) in
    (rest.0, longer b t (no_end b t g) ∙ ap (λ (z : ℕ). z ∷ take (width t) t) (sym e) ∙ ap (λ (l : List ℕ). a ∷ l) rest.1)

-- ---- its first field
no-quote : (y r : List ℕ) → above y ≡ true → quote (y ++ 44 ∷ r) ≡ false
unfolding quote above
no-quote [] r p = refl
no-quote (a ∷ y) r p = ne_eqb a 34 (λ e. absurd (omega (arith, e, ltb-true 44 a (and_both (ltb 44 a) (above y) p).0)))

wide-as : (y r : List ℕ) → above y ≡ true → plain_width (y ++ 44 ∷ r) ≡ length y
unfolding plain_width above
wide-as [] r p = refl
wide-as (a ∷ y) r p =
    let high = and_both (ltb 44 a) (above y) p in
    let g = ltb-true 44 a high.0 in
    rw (ne_eqb a 44 (λ e. absurd (omega (arith, e, g))), ne_eqb a 34 (λ e. absurd (omega (arith, e, g)))) (ap suc (wide-as y r high.1))

front : (y r : List ℕ) → take (length y) (y ++ r) ≡ y
front [] r = refl
front (a ∷ y) r = ap (λ (l : List ℕ). a ∷ l) (front y r)

first-is : (y r : List ℕ) → above y ≡ true → first_bytes (y ++ 44 ∷ r) ≡ y
unfolding first_bytes bytes_in span_at opens_at plain_stop
first-is y r p = let e : 0 + length y - 0 ≡ length y = omega arith in rw (no-quote y r p, wide-as y r p, e) (front y (44 ∷ r))

same-own : (f : List ℕ) → same f f ≡ true
unfolding same
same-own [] = refl
same-own (a ∷ f) = rw (eq-eqb a a refl, same-own f) refl

line-here : (text : List ℕ) (at : ℕ) → line_at text at ≡ take (width (drop at text)) (drop at text)
unfolding line_at stop_at
line-here text at = let e : at + width (drop at text) - at ≡ width (drop at text) = omega arith in ap (λ (w : ℕ). take w (drop at text)) e

pub plain-id : (text y : List ℕ) (at : ℕ) → at + length y < length text → get_or text (at + length y) 0 ≡ 44 → above y ≡ true → leads y (drop at text) ≡ true → same y (first_bytes (line_at text at)) ≡ true
plain-id text y at h c p d =
    let l = line_of y (drop at text) d p (omega (arith, length-drop at text)) (get_or-drop at text (length y) 0 ∙ c) in
    let e : line_at text at ≡ y ++ 44 ∷ l.0 = line-here text at ∙ l.1 in
    ap (λ (w : List ℕ). same y (first_bytes w)) e ∙ ap (same y) (first-is y l.0 p) ∙ same-own y
