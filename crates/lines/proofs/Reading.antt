-- Where the reading of a line stands after some fields, and what the definition says of the line. Assumes nothing.
use Prim.Native.Nat.{ℕ, zero, suc, ◌+◌, ◌≤◌, ◌<◌}
use native.Mathlib.Omega.{arith}
use native.Mathlib.Numerals.{add-one}
use mathlib.Core.Path.{◌≡◌, refl, sym, ap, subst, ◌∙◌}
use mathlib.Core.Logic.{⊎_elim}
use mathlib.Core.Bool.{true, false, ◌||◌}
use mathlib.Core.List.{List, [], ◌∷◌}
use lib.Dec.{eqb}
use lib.ListN.{length, get_or, take, drop, length-drop, drop_of_length-le}
use lib.Seq.{drop-cons, drop-drop, get_or-drop}
use borrow.Author.Tests.{eqb-true, eqb-false, ne_eqb}
use Rattle.journeys.proofs.Tests.{split, never, or_cases}
use Rattle.feed.specs.Fields.{Row, begins, plain, quoted, broken, row}
use Rattle.lines.specs.declared.Stand.{Stand}
use Rattle.lines.specs.declared.Stand.TheVariants.{Begins, Ended, Broken}
use Rattle.lines.specs.Passing.{quote, plain_width, quoted_width, opens_at, plain_stop, quoted_stop, stand}
use Rattle.lines.specs.Rows.{row_at, Stood, undoubled}
use Rattle.lines.proofs.Steps.{opens-within, plain-within, quoted-within}
use Rattle.lines.proofs.Rows.{PlainRow, QuotedRow, closing, closing_quote, plain_row, quoted-row}

begins-plain : (t : List ℕ) → quote t ≡ false → row begins t ≡ row plain t
unfolding row quote
begins-plain [] q = refl
begins-plain (b ∷ r) q = rw q refl

begins-quoted : (t : List ℕ) → quote t ≡ true → row begins t ≡ row quoted (drop 1 t)
unfolding row quote
begins-quoted [] q = never q refl
begins-quoted (b ∷ r) q = rw q refl

module _ (s : List ℕ) (at : ℕ) where
  -- the bytes of the field that begins here
  abbrev pub plain_bytes : List ℕ
  plain_bytes = take (plain_width (drop at s)) (drop at s)

  abbrev pub quoted_bytes : List ℕ
  quoted_bytes = take (quoted_width false (drop (at + 1) s)) (drop (at + 1) s)

  pub row_plain : opens_at s at ≡ false → row_at s at ≡ closing plain_bytes (drop (plain_stop s at) s)
  unfolding row_at opens_at plain_stop PlainRow
  row_plain q = begins-plain (drop at s) q ∙ plain_row (drop at s) ∙ ap (closing plain_bytes) (drop-drop (plain_width (drop at s)) at s)

  pub row-quoted : opens_at s at ≡ true → row_at s at ≡ closing_quote (undoubled quoted_bytes) (drop (quoted_stop s (at + 1)) s)
  unfolding row_at opens_at quoted_stop QuotedRow
  row-quoted q =
      begins-quoted (drop at s) q
      ∙ ap (row quoted) (drop-drop 1 at s)
      ∙ quoted-row (drop (at + 1) s)
      ∙ ap (closing_quote (undoubled quoted_bytes)) (drop-drop (quoted_width false (drop (at + 1) s)) (at + 1) s)

-- a plain field ends at a comma or at a quote
stops_at_lem : (t : List ℕ) → plain_width t < length t → (eqb (get_or t (plain_width t) 0) 44 || eqb (get_or t (plain_width t) 0) 34) ≡ true
unfolding plain_width
stops_at_lem [] h = absurd (omega arith)
stops_at_lem (b ∷ r) h =
    ⊎_elim (λ (e : (eqb b 44 || eqb b 34) ≡ true). rw e e)
    (λ (e : (eqb b 44 || eqb b 34) ≡ false). let k = rw e at h in rw e (stops_at_lem r (omega arith)))
    (split (eqb b 44 || eqb b 34))

stop-byte : (s : List ℕ) (at : ℕ) → plain_stop s at < length s → (eqb (get_or s (plain_stop s at) 0) 44 || eqb (get_or s (plain_stop s at) 0) 34) ≡ true
unfolding plain_stop
stop-byte s at inside = rw (sym (get_or-drop at s (plain_width (drop at s)) 0)) (stops_at_lem (drop at s) (omega (arith, length-drop at s)))

-- ---- one field more
leaf-ended : (k : ℕ) (t : Row) (f : List ℕ) → t ≡ closing f [] → (k + length t.fields ≡ suc k) × (t.sound ≡ true)
unfolding closing
leaf-ended k t f e = rw e (omega arith, refl)

leaf-broken : (k : ℕ) (t : Row) → t ≡ broken → (k + length t.fields ≡ k) × (t.sound ≡ false)
leaf-broken k t e = rw e (omega arith, refl)

after : List ℕ → Row → Row
after f u = record { fields = f ∷ u.fields; sound = u.sound }

leaf-onward : (s : List ℕ) (k : ℕ) (f : List ℕ) (u : Row) (r : Stand) → Stood s u k r → Stood s (after f u) (suc k) r
unfolding after
leaf-onward s k f u (Begins p) h = (omega (arith, h.0), h.1, h.2)
leaf-onward s k f u (Ended over) h = (omega (arith, h.0), h.1)
leaf-onward s k f u (Broken over) h = (omega (arith, h.0), h.1)

behind-quote : (f s : List ℕ) (close : ℕ) → close < length s → closing_quote f (drop close s) ≡ closing f (drop (close + 1) s)
unfolding closing_quote
behind-quote f s close h = rw (add-one, drop-cons s close 0) refl

never-closed : (f s : List ℕ) (close : ℕ) → length s ≤ close → closing_quote f (drop close s) ≡ broken
unfolding closing_quote
never-closed f s close h = rw (drop_of_length-le s h)

quote-no-comma : {b : ℕ} → b ≡ 34 → b ≡ 44 → ⊥
quote-no-comma p q = omega arith

module _ (s : List ℕ) (k at : ℕ) where
  -- behind a comma the next field begins
  abbrev Further : Type 0
  Further = (p : ℕ) → p ≤ length s → Stood s (row_at s p) k (stand s k p)

  comma-goes : (f : List ℕ) (stop : ℕ) → row_at s at ≡ closing f (drop stop s) → stop < length s → get_or s stop 0 ≡ 44 → Further → Stood s (row_at s at) (suc k) (stand s k (stop + 1))
  unfolding closing row_at after
  comma-goes f stop e h c ih =
      let cut : drop stop s ≡ get_or s stop 0 ∷ drop (stop + 1) s = rw (add-one, drop-cons s stop 0) in
      let whole : row begins (drop at s) ≡ after f (row begins (drop (stop + 1) s)) = e ∙ rw (cut, c) refl in
      subst (λ t. Stood s t (suc k) (stand s k (stop + 1))) (sym whole) (leaf-onward s k f (row_at s (stop + 1)) (stand s k (stop + 1)) (ih (stop + 1) (omega arith)))

  other-breaks : (f : List ℕ) (stop : ℕ) → row_at s at ≡ closing f (drop stop s) → stop < length s → (get_or s stop 0 ≡ 44 → ⊥) → row_at s at ≡ broken
  unfolding closing
  other-breaks f stop e h c = e ∙ rw (drop-cons s stop 0, ne_eqb _ _ c) refl

  plain-stands : opens_at s at ≡ false → at ≤ length s → Further → Stood s (row_at s at) (suc k) (stand s (suc k) at)
  unfolding stand
  plain-stands q h ih =
      rw q
      (⊎_elim (λ (e : eqb (plain_stop s at) (length s) ≡ true). rw e (leaf-ended k (row_at s at) (plain_bytes s at) (over (eqb-true _ _ e))))
      (λ (e : eqb (plain_stop s at) (length s) ≡ false).
      let inside : plain_stop s at < length s = omega (arith, plain-within s at h, eqb-false (plain_stop s at) (length s) e) in
      rw e
      (⊎_elim
      (λ (d : eqb (get_or s (plain_stop s at) 0) 34 ≡ true).
      rw d (leaf-broken (suc k) (row_at s at) (other-breaks (plain_bytes s at) (plain_stop s at) fields inside (quote-no-comma (eqb-true _ _ d)))))
      (λ (d : eqb (get_or s (plain_stop s at) 0) 34 ≡ false). rw d (comma-goes (plain_bytes s at) (plain_stop s at) fields inside (comma inside d) ih))
      (split (eqb (get_or s (plain_stop s at) 0) 34))))
      (split (eqb (plain_stop s at) (length s)))) where
        fields : row_at s at ≡ closing (plain_bytes s at) (drop (plain_stop s at) s)
        fields = row_plain s at q

        over : plain_stop s at ≡ length s → row_at s at ≡ closing (plain_bytes s at) []
        over e = let past : length s ≤ plain_stop s at = omega arith in fields ∙ ap (closing (plain_bytes s at)) (drop_of_length-le s past)

        comma : plain_stop s at < length s → eqb (get_or s (plain_stop s at) 0) 34 ≡ false → get_or s (plain_stop s at) 0 ≡ 44
        comma inside d = ⊎_elim (λ p. eqb-true _ _ p) (λ p. never p d) (or_cases _ _ (stop-byte s at inside))

  quoted-stands : opens_at s at ≡ true → at ≤ length s → Further → Stood s (row_at s at) (suc k) (stand s (suc k) at)
  unfolding stand
  quoted-stands q h ih =
      rw q
      (⊎_elim (λ (e : eqb close (length s) ≡ true). rw e (leaf-broken (suc k) (row_at s at) (unclosed (eqb-true _ _ e))))
      (λ (e : eqb close (length s) ≡ false).
      let inside : close < length s = omega (arith, quoted-within s (at + 1) (omega (arith, opens-within s at q)), eqb-false close (length s) e) in
      rw e
      (⊎_elim (λ (d : eqb (close + 1) (length s) ≡ true). rw d (leaf-ended k (row_at s at) bytes (over inside (eqb-true _ _ d))))
      (λ (d : eqb (close + 1) (length s) ≡ false).
      let further : close + 1 < length s = omega (arith, eqb-false (close + 1) (length s) d) in
      rw d
      (⊎_elim
      (λ (c : eqb (get_or s (close + 1) 0) 44 ≡ true). rw c (comma-goes bytes (close + 1) (fields inside) further (eqb-true _ _ c) ih))
      (λ (c : eqb (get_or s (close + 1) 0) 44 ≡ false).
      rw c (leaf-broken (suc k) (row_at s at) (other-breaks bytes (close + 1) (fields inside) further (eqb-false _ _ c))))
      (split (eqb (get_or s (close + 1) 0) 44))))
      (split (eqb (close + 1) (length s)))))
      (split (eqb close (length s)))) where
        close : ℕ
        close = quoted_stop s (at + 1)

        bytes : List ℕ
        bytes = undoubled (quoted_bytes s at)

        fields : close < length s → row_at s at ≡ closing bytes (drop (close + 1) s)
        fields inside = row-quoted s at q ∙ behind-quote bytes s close inside

        unclosed : close ≡ length s → row_at s at ≡ broken
        unclosed e = row-quoted s at q ∙ never-closed bytes s close (omega arith)

        over : close < length s → close + 1 ≡ length s → row_at s at ≡ closing bytes []
        over inside e = let past : length s ≤ close + 1 = omega arith in fields inside ∙ ap (closing bytes) (drop_of_length-le s past)

-- What the answer of so many fields tells of the line that is left.
pub stand-row : (s : List ℕ) (n at : ℕ) → at ≤ length s → Stood s (row_at s at) n (stand s n at)
unfolding stand
stand-row s zero at h = (omega arith, h, refl)
stand-row s (suc k) at h =
    ⊎_elim (λ q. quoted-stands s k at q h (λ p. stand-row s k p)) (λ q. plain-stands s k at q h (λ p. stand-row s k p)) (split (opens_at s at))
