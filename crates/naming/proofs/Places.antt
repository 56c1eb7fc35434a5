-- The lines of a list by their places. Assumes nothing.
use Prim.Native.Nat.{ℕ, zero, suc, ◌+◌, ◌-◌, ◌≤◌, ◌<◌}
use native.Mathlib.Omega.{arith}
use mathlib.Core.Path.{◌≡◌, refl, sym, ap, ◌∙◌}
use mathlib.Core.Logic.{⊎_elim}
use mathlib.Core.Bool.{Bool, true, false, cond, ◌&&◌}
use mathlib.Core.List.{List, [], ◌∷◌}
use lib.Dec.{eqb, ltb}
use lib.ListN.{length, take, drop}
use borrow.Author.Tests.{lt-ltb, le-ltb, eqb-true, eq-eqb, ne_eqb}
use Rattle.journeys.proofs.Tests.{never, and_both, cond-true, cond-false, le-or-lt}
use Rattle.feed.specs.Lines.{empty}
use Rattle.rows.proofs.Quoteless.{empty-part}
use Rattle.lines.proofs.Passes.{stop-within, next-within, next-later}
use Rattle.feed.specs.Fields.{same}
use Rattle.lines.specs.declared.Span.{Span}
use Rattle.lines.specs.Ends.{width, end_width}
use Rattle.lines.specs.Spans.{span_at, bytes_in}
use Rattle.naming.specs.Named.{stop_at, line_at, next_at, first_bytes, names_at, first_at, found_from}

pub first-bytes : (y l : List ℕ) (p : Span) → p ≡ span_at l 0 → same y (take (p.stop - p.start) (drop p.start l)) ≡ same y (first_bytes l)
unfolding first_bytes bytes_in
first-bytes y l p e = ap (λ (q : Span). same y (bytes_in l q)) e

pub bytes-are : (l : List ℕ) (p : Span) → p ≡ span_at l 0 → take (p.stop - p.start) (drop p.start l) ≡ first_bytes l
unfolding first_bytes bytes_in
bytes-are l p e = ap (λ (q : Span). bytes_in l q) e

pub line_as : (text : List ℕ) (at stop : ℕ) → stop ≡ stop_at text at → take (stop - at) (drop at text) ≡ line_at text at
unfolding line_at
line_as text at stop e = ap (λ (s : ℕ). take (s - at) (drop at text)) e

pub line-is : (text : List ℕ) (at stop : ℕ) → stop ≡ at + width (drop at text) → take (stop - at) (drop at text) ≡ line_at text at
unfolding line_at stop_at
line-is text at stop e = ap (λ (s : ℕ). take (s - at) (drop at text)) e

pub line-named : (y text : List ℕ) (at stop : ℕ) → stop ≡ at + width (drop at text) → same y (first_bytes (take (stop - at) (drop at text))) ≡ same y (first_bytes (line_at text at))
line-named y text at stop e = ap (λ (l : List ℕ). same y (first_bytes l)) (line-is text at stop e)

pub same-is : (f g : List ℕ) → same f g ≡ true → f ≡ g
unfolding same
same-is [] [] e = refl
same-is [] (b ∷ g) e = never e refl
same-is (a ∷ f) [] e = never e refl
same-is (a ∷ f) (b ∷ g) e =
    let both = and_both (eqb a b) (same f g) e in
    rw (eqb-true a b both.0, same-is f g both.1) refl

module _ (text : List ℕ) where
  -- where the next line begins
  pub next-is : (at : ℕ) → at < length text → (at < next_at text at) × (next_at text at ≤ length text)
  unfolding next_at stop_at
  next-is at h =
      let stop = at + width (drop at text) in
      (next-later text at stop (next_at text at) (omega arith) refl h refl, (next-within text at stop (next_at text at) (omega arith) refl refl).1)

  -- ---- one turn of the reading, whatever bounds it
  first-over : (f at : ℕ) (y : List ℕ) → length text ≤ at → first_at f text at y ≡ 0
  unfolding first_at
  first-over zero at y h = refl
  first-over (suc f) at y h = cond-false _ _ (le-ltb at (length text) h)

  first_step : (f at : ℕ) (y : List ℕ) → at < length text → first_at (suc f) text at y ≡ cond (names_at text at y) (suc at) (first_at f text (next_at text at) y)
  unfolding first_at
  first_step f at y h = cond-true _ _ (lt-ltb at (length text) h)

  enough : (f g at : ℕ) (y : List ℕ) → length text - at ≤ f → length text - at ≤ g → first_at f text at y ≡ first_at g text at y
  enough zero g at y a b = first-over zero at y (omega arith) ∙ sym (first-over g at y (omega arith))
  enough (suc f) zero at y a b = first-over (suc f) at y (omega arith) ∙ sym (first-over zero at y (omega arith))
  enough (suc f) (suc g) at y a b =
      ⊎_elim (λ (h : length text ≤ at). first-over (suc f) at y h ∙ sym (first-over (suc g) at y h))
      (λ (h : at < length text).
      let n = next-is at h in
      first_step f at y h
      ∙ ap (λ (r : ℕ). cond (names_at text at y) (suc at) r) (enough f g (next_at text at) y (omega (arith, n)) (omega (arith, n)))
      ∙ sym (first_step g at y h))
      (le-or-lt (length text) at)

  -- ---- the first line from a place on that has an id
  module _ (at : ℕ) (y : List ℕ) where
    pub found-over : length text ≤ at → found_from text at y ≡ 0
    unfolding found_from
    found-over h = first-over (length text - at) at y h

    pub found-step : at < length text → found_from text at y ≡ cond (names_at text at y) (suc at) (found_from text (next_at text at) y)
    unfolding found_from
    found-step h =
        let n = next-is at h in
        enough (length text - at) (suc (length text - at)) at y (omega arith) (omega arith)
        ∙ first_step (length text - at) at y h
        ∙ ap (λ (r : ℕ). cond (names_at text at y) (suc at) r) (enough (length text - at) (length text - next_at text at) (next_at text at) y (omega (arith, n)) (omega arith))

    -- where the line is not empty, its id alone decides
    pub names-is : empty (line_at text at) ≡ false → names_at text at y ≡ same y (first_bytes (line_at text at))
    unfolding names_at
    names-is e = rw e refl

    pub names-none : empty (line_at text at) ≡ true → names_at text at y ≡ false
    unfolding names_at
    names-none e = rw e refl

-- ---- a line by the places that are read of it
module _ (text : List ℕ) (at stop next : ℕ) (h : at ≤ length text) (s : stop ≡ at + width (drop at text)) where
  pub stop_is_lem : stop ≡ stop_at text at
  unfolding stop_at
  stop_is_lem = s

  pub next-as : next ≡ stop + end_width (drop stop text) → next ≡ next_at text at
  unfolding next_at stop_at
  next-as e = e ∙ ap (λ (p : ℕ). p + end_width (drop p text)) s

  empty-line : empty (line_at text at) ≡ eqb at stop
  empty-line = sym (ap empty (line-is text at stop s)) ∙ empty-part text at stop (stop-within text at stop 0 h s).0 (stop-within text at stop 0 h s).1

  pub some-line : at < stop → empty (line_at text at) ≡ false
  some-line l = empty-line ∙ ne_eqb at stop (λ e. absurd (omega (arith, e)))

  pub no_line : stop ≤ at → empty (line_at text at) ≡ true
  no_line l = empty-line ∙ eq-eqb at stop (omega (arith, stop-within text at stop 0 h s))

  pub names-read : (y : List ℕ) {t : Bool} → t ≡ same y (first_bytes (take (stop - at) (drop at text))) → ltb at stop && t ≡ names_at text at y
  names-read y {t} e =
      ⊎_elim
      (λ (l : stop ≤ at). rw (le-ltb at stop l) (sym (names-none text at y (no_line l))))
      (λ (l : at < stop). rw (lt-ltb at stop l) (e ∙ line-named y text at stop s ∙ sym (names-is text at y (some-line l))))
      (le-or-lt stop at)

pub some-line-as : (text : List ℕ) (at stop : ℕ) → at ≤ length text → stop ≡ stop_at text at → at < stop → empty (line_at text at) ≡ false
unfolding stop_at
some-line-as text at stop h e l = some-line text at stop 0 h e l
