-- The fields of a line by their places are the fields of its definition. Assumes nothing.
use Prim.Native.Nat.{ℕ}
use mathlib.Core.Path.{◌≡◌, refl, sym, ap, ◌∙◌}
use mathlib.Core.Logic.{⊎_elim}
use mathlib.Core.Bool.{true, false, cond}
use mathlib.Core.List.{List, [], ◌∷◌}
use lib.Dec.{eqb}
use lib.ListN.{take, drop}
use borrow.Author.Tests.{eqb-true}
use Rattle.journeys.proofs.Tests.{split}
use Rattle.feed.specs.Fields.{Row, begins, plain, quoted, broken, onto_first, onto, row}
use Rattle.lines.specs.Passing.{plain_width, quoted_width}
use Rattle.lines.specs.Rows.{undoubled}

-- a field f, and what follows it: nothing, or a comma and more; at anything else the line is broken
unfoldable pub closing : List ℕ → List ℕ → Row
closing f [] = record { fields = f ∷ []; sound = true }
closing f (b ∷ r) = cond (eqb b 44) (record { fields = f ∷ (row begins r).fields; sound = (row begins r).sound }) broken

-- the same behind the bytes of a quoted field: its quote, or nothing where it was never closed
unfoldable pub closing_quote : List ℕ → List ℕ → Row
closing_quote f [] = broken
closing_quote f (q ∷ u) = closing f u

onto-closing : (b : ℕ) (f u : List ℕ) → onto b (closing f u) ≡ closing (b ∷ f) u
unfolding onto_first closing
onto-closing b f [] = refl
onto-closing b f (c ∷ r) = ⊎_elim (λ (e : eqb c 44 ≡ true). rw e) (λ (e : eqb c 44 ≡ false). rw e) (split (eqb c 44))

onto-quote : (b : ℕ) (f u : List ℕ) → onto b (closing_quote f u) ≡ closing_quote (b ∷ f) u
unfolding onto_first closing_quote
onto-quote b f [] = refl
onto-quote b f (q ∷ u) = onto-closing b f u

-- a plain field
unfoldable pub PlainRow : List ℕ → Type 0
PlainRow t = row plain t ≡ closing (take (plain_width t) t) (drop (plain_width t) t)

plain-next : (b : ℕ) (r : List ℕ) → PlainRow r → PlainRow (b ∷ r)
unfolding PlainRow row plain_width closing
plain-next b r ih =
    ⊎_elim (λ (e : eqb b 44 ≡ true). rw e (rw e refl))
    (λ (e : eqb b 44 ≡ false).
    ⊎_elim (λ (q : eqb b 34 ≡ true). rw (e, q) (rw e refl))
    (λ (q : eqb b 34 ≡ false). rw (e, q) (ap (onto b) ih ∙ onto-closing b (take (plain_width r) r) (drop (plain_width r) r)))
    (split (eqb b 34)))
    (split (eqb b 44))

pub plain_row : (t : List ℕ) → PlainRow t
unfolding PlainRow row plain_width closing
plain_row [] = refl
plain_row (b ∷ r) = plain-next b r (plain_row r)

-- a quoted one, behind its first quote
byte-first : (b : ℕ) (r : List ℕ) → eqb b 34 ≡ false → undoubled (b ∷ r) ≡ b ∷ undoubled r
unfolding undoubled
byte-first b [] e = refl
byte-first b (c ∷ r) e = rw e

unfoldable pub QuotedRow : List ℕ → Type 0
QuotedRow t = row quoted t ≡ closing_quote (undoubled (take (quoted_width false t) t)) (drop (quoted_width false t) t)

quoted-byte : (b : ℕ) (r : List ℕ) → eqb b 34 ≡ false → QuotedRow r → QuotedRow (b ∷ r)
unfolding QuotedRow row quoted_width
quoted-byte b r e ih =
    let w = quoted_width false r in
    rw e (ap (onto b) ih ∙ onto-quote b (undoubled (take w r)) (drop w r) ∙ ap (λ f. closing_quote f (drop w r)) (sym (byte-first b (take w r) e)))

quoted-twice : (b c : ℕ) (r : List ℕ) → eqb b 34 ≡ true → eqb c 34 ≡ true → QuotedRow r → QuotedRow (b ∷ c ∷ r)
unfolding QuotedRow row quoted_width undoubled
quoted-twice b c r e q ih =
    let w = quoted_width false r in
    rw (eqb-true b 34 e, eqb-true c 34 q) (ap (onto 34) ih ∙ onto-quote 34 (undoubled (take w r)) (drop w r))

quoted-over : (b c : ℕ) (r : List ℕ) → eqb b 34 ≡ true → eqb c 34 ≡ false → QuotedRow (b ∷ c ∷ r)
unfolding QuotedRow row quoted_width undoubled closing_quote closing
quoted-over b c r e q = rw (e, q) refl

pub quoted-row : (t : List ℕ) → QuotedRow t
unfolding QuotedRow row quoted_width undoubled closing_quote closing onto_first
quoted-row [] = refl
quoted-row (b ∷ []) = ⊎_elim (λ (e : eqb b 34 ≡ true). rw e) (λ (e : eqb b 34 ≡ false). rw e) (split (eqb b 34))
quoted-row (b ∷ c ∷ r) =
    ⊎_elim (λ e. ⊎_elim (λ q. quoted-twice b c r e q (quoted-row r)) (λ q. quoted-over b c r e q) (split (eqb c 34)))
    (λ e. quoted-byte b (c ∷ r) e (quoted-row (c ∷ r)))
    (split (eqb b 34))
