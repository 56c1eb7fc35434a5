-- One byte of a text or of a line further: what the definitions say of it at a place. Assumes nothing.
use Prim.Native.Nat.{ℕ, suc, ◌+◌, ◌≤◌, ◌<◌}
use native.Mathlib.Omega.{arith}
use native.Mathlib.Numerals.{add-one}
use native.Mathlib.Nat.{add-zero}
use mathlib.Core.Path.{◌≡◌, refl, ap, ◌∙◌}
use mathlib.Core.Logic.{⊎_elim}
use mathlib.Core.Bool.{Bool, true, false, cond, ◌||◌}
use mathlib.Core.List.{List, [], ◌∷◌}
use lib.Dec.{eqb}
use lib.ListN.{length, get_or, drop, length-drop, drop_of_length-le}
use lib.Seq.{drop-cons, drop-drop}
use borrow.Author.Tests.{eq-eqb, ne_eqb}
use Rattle.journeys.proofs.Tests.{split, and_right, never, le-or-lt}
use Rattle.feed.specs.Lines.{ends_now}
use Rattle.lines.specs.Ends.{ends, width, end_width}
use Rattle.lines.specs.Passing.{quote, plain_width, quoted_width, opens_at, plain_stop, quoted_stop}

-- behind a quote: no other follows, or another does
closes : (r : List ℕ) → quote r ≡ false → quoted_width true r ≡ 0
unfolding quote quoted_width
closes [] e = refl
closes (b ∷ r) e = rw e

doubles : (r : List ℕ) → quote r ≡ true → quoted_width true r ≡ 2 + quoted_width false (drop 1 r)
unfolding quote quoted_width
doubles [] e = never e refl
doubles (b ∷ r) e = rw e (omega arith)

module _ (s : List ℕ) (at : ℕ) where
  -- ---- at the end of it
  module _ (h : length s ≤ at) where
    pub width-over : width (drop at s) ≡ 0
    unfolding width
    width-over = rw (drop_of_length-le s h)

    pub end-over : end_width (drop at s) ≡ 0
    unfolding end_width
    end-over = rw (drop_of_length-le s h)

    pub none-opens : opens_at s at ≡ false
    unfolding opens_at quote
    none-opens = rw (drop_of_length-le s h)

    pub plain_over : plain_stop s at ≡ at
    unfolding plain_stop plain_width
    plain_over = rw (drop_of_length-le s h, add-zero)

    pub quoted-over : quoted_stop s at ≡ at
    unfolding quoted_stop quoted_width
    quoted-over = rw (drop_of_length-le s h, add-zero)

  -- ---- before it
  module _ (h : at < length s) where
    pub here : drop at s ≡ get_or s at 0 ∷ drop (at + 1) s
    here = rw (add-one, drop-cons s at 0)

    pub ends-lf : get_or s at 0 ≡ 10 → ends (drop at s) ≡ true
    unfolding ends
    ends-lf e = rw (here, e)

    pub ends-not : (get_or s at 0 ≡ 10 → ⊥) → (get_or s at 0 ≡ 13 → ⊥) → ends (drop at s) ≡ false
    unfolding ends
    ends-not p q = rw (here, ne_eqb _ _ p, ne_eqb _ _ q)

    pub ends_last : (get_or s at 0 ≡ 10 → ⊥) → at + 1 ≡ length s → ends (drop at s) ≡ false
    unfolding ends ends_now
    ends_last p q = let over : length s ≤ at + 1 = omega arith in rw (here, ne_eqb _ _ p, drop_of_length-le s over) (and_right (eqb (get_or s at 0) 13) refl)

    pub ends-crlf : (get_or s at 0 ≡ 10 → ⊥) → get_or s at 0 ≡ 13 → at + 1 < length s → ends (drop at s) ≡ eqb (get_or s (at + 1) 0) 10
    unfolding ends ends_now
    ends-crlf p q k = rw (here, ne_eqb _ _ p, eq-eqb _ _ q, drop-cons s (at + 1) 0)

    pub width-ends : ends (drop at s) ≡ true → width (drop at s) ≡ 0
    unfolding width
    width-ends e = rw here (rw (rw here at e))

    pub width-on : ends (drop at s) ≡ false → width (drop at s) ≡ suc (width (drop (at + 1) s))
    unfolding width
    width-on e = rw here (rw (rw here at e))

    pub end-not : ends (drop at s) ≡ false → end_width (drop at s) ≡ 0
    unfolding end_width
    end-not e = rw here (rw (rw here at e))

    pub end-lf : ends (drop at s) ≡ true → get_or s at 0 ≡ 10 → end_width (drop at s) ≡ 1
    unfolding end_width
    end-lf e q = rw here (rw (rw here at e, q))

    pub end-crlf : ends (drop at s) ≡ true → (get_or s at 0 ≡ 10 → ⊥) → end_width (drop at s) ≡ 2
    unfolding end_width
    end-crlf e q = rw here (rw (rw here at e, ne_eqb _ _ q))

    pub opens-here : opens_at s at ≡ eqb (get_or s at 0) 34
    unfolding opens_at quote
    opens-here = rw here

    pub plain_here : (eqb (get_or s at 0) 44 || eqb (get_or s at 0) 34) ≡ true → plain_stop s at ≡ at
    unfolding plain_stop plain_width
    plain_here e = rw here (rw e (add-zero _))

    pub plain-on : (eqb (get_or s at 0) 44 || eqb (get_or s at 0) 34) ≡ false → plain_stop s at ≡ plain_stop s (at + 1)
    unfolding plain_stop plain_width
    plain-on e = rw here (rw e (omega arith))

    pub quoted-on : (get_or s at 0 ≡ 34 → ⊥) → quoted_stop s at ≡ quoted_stop s (at + 1)
    unfolding quoted_stop quoted_width
    quoted-on p = rw here (rw (ne_eqb _ _ p) (omega arith))

    pub quoted-closes : get_or s at 0 ≡ 34 → opens_at s (at + 1) ≡ false → quoted_stop s at ≡ at
    unfolding quoted_stop opens_at quoted_width
    quoted-closes p e = rw here (rw (p, closes (drop (at + 1) s) e) (add-zero _))

    pub quoted-doubled : get_or s at 0 ≡ 34 → opens_at s (at + 1) ≡ true → quoted_stop s at ≡ quoted_stop s (at + 2)
    unfolding quoted_stop opens_at quoted_width
    quoted-doubled p e =
        let two : at + 1 + 1 ≡ at + 2 = omega arith in
        let further : drop 1 (drop (at + 1) s) ≡ drop (at + 2) s = drop-drop 1 (at + 1) s ∙ ap (λ n. drop n s) two in
        rw here (rw (p, doubles (drop (at + 1) s) e, further) (omega arith))

pub opens-within : (s : List ℕ) (at : ℕ) → opens_at s at ≡ true → at < length s
opens-within s at e = ⊎_elim (λ (h : length s ≤ at). never e (none-opens s at h)) (λ (h : at < length s). h) (le-or-lt (length s) at)

-- ---- where a field stops, inside the line
plain_fits : (t : List ℕ) → plain_width t ≤ length t
unfolding plain_width
plain_fits [] = omega arith
plain_fits (b ∷ r) =
    ⊎_elim (λ (e : (eqb b 44 || eqb b 34) ≡ true). rw e (omega arith))
    (λ (e : (eqb b 44 || eqb b 34) ≡ false). rw e (omega (arith, plain_fits r)))
    (split (eqb b 44 || eqb b 34))

-- behind a quote, that quote counts too
quoted-fits : (t : List ℕ) (q : Bool) → quoted_width q t ≤ cond q 1 0 + length t
unfolding quoted_width
quoted-fits [] false = omega arith
quoted-fits [] true = omega arith
quoted-fits (b ∷ r) false =
    ⊎_elim (λ (e : eqb b 34 ≡ true). rw e (omega (arith, quoted-fits r true)))
    (λ (e : eqb b 34 ≡ false). rw e (omega (arith, quoted-fits r false)))
    (split (eqb b 34))
quoted-fits (b ∷ r) true =
    ⊎_elim (λ (e : eqb b 34 ≡ true). rw e (omega (arith, quoted-fits r false)))
    (λ (e : eqb b 34 ≡ false). rw e (omega arith))
    (split (eqb b 34))

pub plain-within : (s : List ℕ) (at : ℕ) → at ≤ length s → (at ≤ plain_stop s at) × (plain_stop s at ≤ length s)
unfolding plain_stop
plain-within s at h = omega (arith, plain_fits (drop at s), length-drop at s)

pub quoted-within : (s : List ℕ) (at : ℕ) → at ≤ length s → (at ≤ quoted_stop s at) × (quoted_stop s at ≤ length s)
unfolding quoted_stop
quoted-within s at h = omega (arith, quoted-fits (drop at s) false, length-drop at s)
