-- A line whose bytes differ from an id before it ends has another id. Assumes nothing.
use Prim.Native.Nat.{ℕ, zero, suc, ◌+◌, ◌-◌, ◌≤◌, ◌<◌}
use native.Mathlib.Omega.{arith}
use mathlib.Core.Path.{◌≡◌, refl, ap, ◌∙◌}
use mathlib.Core.Logic.{⊎_elim}
use mathlib.Core.Bool.{Bool, true, false, ◌&&◌}
use mathlib.Core.List.{List, [], ◌∷◌}
use lib.Dec.{eqb}
use lib.ListN.{length, get_or, take, drop, length-drop}
use lib.Seq.{drop-cons, get_or-drop}
use borrow.Author.Tests.{eq-eqb}
use Rattle.journeys.proofs.Tests.{split, never, and_right, cond-false}
use Rattle.feed.specs.Fields.{same}
use Rattle.lines.specs.declared.Span.{Span}
use Rattle.lines.specs.Passing.{quote, opens_at, plain_stop}
use Rattle.lines.specs.Spans.{span_at, bytes_in}
use Rattle.naming.specs.Named.{stop_at, line_at, first_bytes, leads}
use Rattle.naming.proofs.Places.{same-is}

-- ---- one byte after the other
pub leads-short : (y t : List ℕ) → length t < length y → leads y t ≡ false
unfolding leads
leads-short [] t h = absurd (omega arith)
leads-short (a ∷ y) [] h = refl
leads-short (a ∷ y) (b ∷ t) h = and_right (eqb a b) (leads-short y t (omega arith))

and-all : (a b c : Bool) → (a && (b && c)) ≡ ((a && b) && c)
and-all true b c = refl
and-all false b c = refl

and_one : (a : Bool) → (a && true) ≡ a
and_one true = refl
and_one false = refl

pub and-here : {a b : Bool} → b ≡ true → (a && b) ≡ a
and-here {a} e = ap (λ (z : Bool). a && z) e ∙ and_one a

-- the last of some bytes
leads-last : (y t : List ℕ) (k : ℕ) → k < length y → length y ≤ length t → leads (take (suc k) y) t ≡ (leads (take k y) t && eqb (get_or y k 0) (get_or t k 0))
unfolding leads
leads-last [] t k h l = absurd (omega (arith, h))
leads-last (a ∷ y) [] k h l = absurd (omega (arith, l))
leads-last (a ∷ y) (b ∷ t) zero h l = and_one (eqb a b)
leads-last (a ∷ y) (b ∷ t) (suc k) h l = ap (λ (z : Bool). eqb a b && z) (leads-last y t k (omega (arith, h)) (omega (arith, l))) ∙ and-all (eqb a b) _ _

pub leads-back : (y text : List ℕ) (at k i : ℕ) → i ≡ suc k → i ≤ length y → length y ≤ length text - at → at ≤ length text → leads (take i y) (drop at text) ≡ (leads (take k y) (drop at text) && eqb (get_or y k 0) (get_or text (at + k) 0))
leads-back y text at k i e h l s =
    ap (λ (z : ℕ). leads (take z y) (drop at text)) e ∙ leads-last y (drop at text) k (omega (arith, e, h)) (omega (arith, l, length-drop at text))
    ∙ ap (λ (z : ℕ). leads (take k y) (drop at text) && eqb (get_or y k 0) z) (get_or-drop at text k 0)

pub leads-none : (y t : List ℕ) (i : ℕ) → i ≡ 0 → leads (take i y) t ≡ true
unfolding leads
leads-none y t i e = rw e refl

-- ---- a part of the first bytes leads
leads-part : (n w : ℕ) (t : List ℕ) → leads (take n (take w t)) t ≡ true
unfolding leads
leads-part zero w t = refl
leads-part (suc n) zero t = refl
leads-part (suc n) (suc w) [] = refl
leads-part (suc n) (suc w) (b ∷ t) = rw (eq-eqb b b refl, leads-part n w t) refl

plain-part : (w : ℕ) (t : List ℕ) → quote t ≡ false → quote (take w t) ≡ false
unfolding quote
plain-part zero t e = refl
plain-part (suc w) [] e = refl
plain-part (suc w) (b ∷ t) e = e

plain_at : (text : List ℕ) (at : ℕ) → at < length text → eqb (get_or text at 0) 34 ≡ false → quote (drop at text) ≡ false
unfolding quote
plain_at text at h e = rw (drop-cons text at 0 h) e

plain-first : (l : List ℕ) → quote l ≡ false → first_bytes l ≡ take (plain_stop l 0 - 0) l
unfolding first_bytes span_at opens_at bytes_in
plain-first l e = ap (λ (p : Span). bytes_in l p) (cond-false _ _ e)

pub other-id : (text y : List ℕ) (at : ℕ) → at < length text → eqb (get_or text at 0) 34 ≡ false → leads y (drop at text) ≡ false → same y (first_bytes (line_at text at)) ≡ false
unfolding line_at
other-id text y at h e n =
    ⊎_elim
    (λ (t : same y (first_bytes (line_at text at)) ≡ true).
    let w = stop_at text at - at in
    let q : y ≡ take (plain_stop (take w (drop at text)) 0 - 0) (take w (drop at text)) = same-is y _ t ∙ plain-first (take w (drop at text)) (plain-part w (drop at text) (plain_at text at h e)) in
    never (ap (λ (z : List ℕ). leads z (drop at text)) q ∙ leads-part (plain_stop (take w (drop at text)) 0 - 0) w (drop at text)) n)
    (λ (t : same y (first_bytes (line_at text at)) ≡ false). t)
    (split (same y (first_bytes (line_at text at))))
