-- The bytes of a field between its ends are its value, but for doubled quotes; and nothing that is asked of a value asks for these. Assumes nothing.
use Prim.Native.Nat.{ℕ, ◌+◌, ◌-◌, ◌≤◌, ◌<◌}
use native.Mathlib.Omega.{arith}
use native.Mathlib.Nat.{add-zero}
use mathlib.Core.Path.{◌≡◌, refl, sym, ap, subst, ◌∙◌}
use mathlib.Core.Logic.{⊎_elim}
use mathlib.Core.Bool.{Bool, true, false, ◌||◌}
use mathlib.Core.List.{List, [], ◌∷◌}
use lib.Dec.{eqb}
use lib.ListN.{length, get_or, take, drop, length-drop}
use lib.Seq.{get_or-drop}
use borrow.Author.Tests.{eqb-true, eqb-false, ne_eqb}
use Rattle.journeys.proofs.Tests.{split, never, or-none, and_both}
use Rattle.feed.specs.Fields.{row_of, field, same}
use Rattle.lines.specs.declared.Span.{Span}
use Rattle.lines.specs.declared.Stand.TheVariants.{Begins}
use Rattle.lines.specs.Passing.{plain_width, quoted_width, opens_at, plain_stop, quoted_stop, stand}
use Rattle.lines.specs.Rows.{row_at, behind, Stood, undoubled}
use Rattle.lines.specs.Spans.{span_at, bytes_in, quotes, paired}
use Rattle.lines.proofs.Steps.{opens-within, plain-within, quoted-within}
use Rattle.lines.proofs.Rows.{closing, closing_quote}
use Rattle.lines.proofs.Reading.{plain_bytes, quoted_bytes, row_plain, row-quoted, stand-row}

-- ---- without quotes
pub quoteless : (f : List ℕ) → quotes f ≡ false → undoubled f ≡ f
unfolding quotes undoubled
quoteless [] e = refl
quoteless (b ∷ []) e = refl
quoteless (b ∷ c ∷ r) e = rw (or-none (eqb b 34) _ e).0 (ap (λ l. b ∷ l) (quoteless (c ∷ r) (or-none (eqb b 34) _ e).1))

pub quoteless-paired : (f : List ℕ) → quotes f ≡ false → paired f ≡ true
unfolding quotes paired
quoteless-paired [] e = refl
quoteless-paired (b ∷ []) e = rw (or-none (eqb b 34) _ e).0 refl
quoteless-paired (b ∷ c ∷ r) e = rw (or-none (eqb b 34) _ e).0 (quoteless-paired (c ∷ r) (or-none (eqb b 34) _ e).1)

plain-quoteless : (t : List ℕ) → quotes (take (plain_width t) t) ≡ false
unfolding quotes plain_width
plain-quoteless [] = refl
plain-quoteless (b ∷ r) =
    ⊎_elim (λ (e : (eqb b 44 || eqb b 34) ≡ true). rw e refl)
    (λ (e : (eqb b 44 || eqb b 34) ≡ false). rw e (rw (or-none (eqb b 44) _ e).1 (plain-quoteless r)))
    (split (eqb b 44 || eqb b 34))

-- ---- with quotes in pairs
data Pairs : List ℕ → Type 0 where
  nothing : Pairs []
  byte : {b : ℕ} {r : List ℕ} → eqb b 34 ≡ false → Pairs r → Pairs (b ∷ r)
  pair : {r : List ℕ} → Pairs r → Pairs (34 ∷ 34 ∷ r)

pairs : (f : List ℕ) → paired f ≡ true → Pairs f
unfolding paired
pairs [] e = nothing
pairs (b ∷ []) e = ⊎_elim (λ (q : eqb b 34 ≡ true). never e (rw q refl)) (λ (q : eqb b 34 ≡ false). byte q nothing) (split (eqb b 34))
pairs (b ∷ c ∷ r) e =
    ⊎_elim
    (λ (q : eqb b 34 ≡ true).
    let two = and_both (eqb c 34) (paired r) (rw q at e) in
    rw (eqb-true b 34 q, eqb-true c 34 two.0) (pair (pairs r two.1)))
    (λ (q : eqb b 34 ≡ false). byte q (pairs (c ∷ r) (rw q at e)))
    (split (eqb b 34))

paired-byte : (b : ℕ) (r : List ℕ) → eqb b 34 ≡ false → paired (b ∷ r) ≡ paired r
unfolding paired
paired-byte b [] e = rw e refl
paired-byte b (c ∷ r) e = rw e refl

byte-paired : (b : ℕ) (r : List ℕ) → eqb b 34 ≡ false → paired (take (quoted_width false r) r) ≡ true → paired (take (quoted_width false (b ∷ r)) (b ∷ r)) ≡ true
unfolding quoted_width
byte-paired b r e h = rw e (paired-byte b (take (quoted_width false r) r) e ∙ h)

quoted-paired : (t : List ℕ) → paired (take (quoted_width false t) t) ≡ true
unfolding paired quoted_width
quoted-paired [] = refl
quoted-paired (b ∷ []) = ⊎_elim (λ (e : eqb b 34 ≡ true). rw e refl) (λ (e : eqb b 34 ≡ false). rw e (rw e refl)) (split (eqb b 34))
quoted-paired (b ∷ c ∷ r) =
    ⊎_elim
    (λ (e : eqb b 34 ≡ true).
    ⊎_elim (λ (q : eqb c 34 ≡ true). rw (eqb-true b 34 e, eqb-true c 34 q) (quoted-paired r)) (λ (q : eqb c 34 ≡ false). rw (e, q) refl) (split (eqb c 34)))
    (λ (e : eqb b 34 ≡ false). byte-paired b (c ∷ r) e (quoted-paired (c ∷ r)))
    (split (eqb b 34))

undoubled-none : undoubled [] ≡ []
unfolding undoubled
undoubled-none = refl

undoubled-byte : (b : ℕ) (r : List ℕ) → eqb b 34 ≡ false → undoubled (b ∷ r) ≡ b ∷ undoubled r
unfolding undoubled
undoubled-byte b [] e = refl
undoubled-byte b (c ∷ r) e = rw e refl

undoubled-pair : (r : List ℕ) → undoubled (34 ∷ 34 ∷ r) ≡ 34 ∷ undoubled r
unfolding undoubled
undoubled-pair r = refl

eqb-other : (b : ℕ) → eqb b 34 ≡ false → eqb 34 b ≡ false
eqb-other b e = ne_eqb 34 b (λ p. eqb-false b 34 e (sym p))

same-pairs : {f g : List ℕ} → Pairs f → Pairs g → same (undoubled f) (undoubled g) ≡ same f g
unfolding same
same-pairs nothing nothing = rw undoubled-none refl
same-pairs nothing (byte {b} {r} q h) = rw (undoubled-none, undoubled-byte b r q) refl
same-pairs nothing (pair {r} h) = rw (undoubled-none, undoubled-pair r) refl
same-pairs (byte {b} {r} q h) nothing = rw (undoubled-none, undoubled-byte b r q) refl
same-pairs (byte {b} {r} q h) (byte {b = c} {r = u} p k) = rw (undoubled-byte b r q, undoubled-byte c u p, same-pairs h k) refl
same-pairs (byte {b} {r} q h) (pair {r = u} k) = rw (undoubled-byte b r q, undoubled-pair u, q) refl
same-pairs (pair {r} h) nothing = rw (undoubled-none, undoubled-pair r) refl
same-pairs (pair {r} h) (byte {b = c} {r = u} p k) = rw (undoubled-pair r, undoubled-byte c u p, eqb-other c p) refl
same-pairs (pair {r} h) (pair {r = u} k) = rw (undoubled-pair r, undoubled-pair u, same-pairs h k) refl

-- Fields are the same exactly if their bytes are.
pub same_bytes : (f g : List ℕ) → paired f ≡ true → paired g ≡ true → same (undoubled f) (undoubled g) ≡ same f g
same_bytes f g p q = same-pairs (pairs f p) (pairs g q)

-- a test that no field with a quote passes
quotes-pairs : {f : List ℕ} → Pairs f → quotes (undoubled f) ≡ quotes f
unfolding quotes
quotes-pairs nothing = rw undoubled-none refl
quotes-pairs (byte {b} {r} q h) = rw (undoubled-byte b r q, quotes-pairs h) refl
quotes-pairs (pair {r} h) = rw (undoubled-pair r) refl

-- What no field with a quote has, a value has exactly if its bytes have it.
pub plain-test : (test : List ℕ → Bool) → ((f : List ℕ) → quotes f ≡ true → test f ≡ false) → (f : List ℕ) → paired f ≡ true → test (undoubled f) ≡ test f
plain-test test fails f p =
    ⊎_elim (λ (q : quotes f ≡ true). fails (undoubled f) (quotes-pairs (pairs f p) ∙ q) ∙ sym (fails f q))
    (λ (q : quotes f ≡ false). ap test (quoteless f q))
    (split (quotes f))

-- ---- the field that begins at a place
closing-first : (f u : List ℕ) → 0 < length (closing f u).fields → get_or (closing f u).fields 0 [] ≡ f
unfolding closing
closing-first f [] h = refl
closing-first f (b ∷ r) h =
    ⊎_elim (λ (e : eqb b 44 ≡ true). rw e refl) (λ (e : eqb b 44 ≡ false). absurd (let z = rw e at h in omega arith)) (split (eqb b 44))

quoted-first : (f u : List ℕ) → 0 < length (closing_quote f u).fields → get_or (closing_quote f u).fields 0 [] ≡ f
unfolding closing_quote
quoted-first f [] h = absurd (omega arith)
quoted-first f (q ∷ u) h = closing-first f u h

module _ (s : List ℕ) (at : ℕ) where
  bytes-plain : opens_at s at ≡ false → bytes_in s (span_at s at) ≡ plain_bytes s at
  unfolding bytes_in span_at plain_stop
  bytes-plain q = rw q (let e : at + plain_width (drop at s) - at ≡ plain_width (drop at s) = omega arith in rw e refl)

  bytes-quoted : opens_at s at ≡ true → bytes_in s (span_at s at) ≡ quoted_bytes s at
  unfolding bytes_in span_at quoted_stop
  bytes-quoted q =
      rw q (let e : at + 1 + quoted_width false (drop (at + 1) s) - (at + 1) ≡ quoted_width false (drop (at + 1) s) = omega arith in rw e refl)

  pub span-paired : paired (bytes_in s (span_at s at)) ≡ true
  span-paired =
      ⊎_elim (λ q. ap paired (bytes-quoted q) ∙ quoted-paired (drop (at + 1) s))
      (λ q. ap paired (bytes-plain q) ∙ quoteless-paired (plain_bytes s at) (plain-quoteless (drop at s)))
      (split (opens_at s at))

  pub span_value : 0 < length (row_at s at).fields → field (row_at s at) 0 ≡ undoubled (bytes_in s (span_at s at))
  span_value h = ⊎_elim of-quoted of_plain (split (opens_at s at)) where
    of_plain : opens_at s at ≡ false → field (row_at s at) 0 ≡ undoubled (bytes_in s (span_at s at))
    of_plain q =
        let e = row_plain s at q in
        ap (λ t. field t 0) e
        ∙ closing-first (plain_bytes s at) (drop (plain_stop s at) s) (rw e at h)
        ∙ sym (quoteless (plain_bytes s at) (plain-quoteless (drop at s)))
        ∙ ap undoubled (sym (bytes-plain q))

    of-quoted : opens_at s at ≡ true → field (row_at s at) 0 ≡ undoubled (bytes_in s (span_at s at))
    of-quoted q =
        let e = row-quoted s at q in
        ap (λ t. field t 0) e
        ∙ quoted-first (undoubled (quoted_bytes s at)) (drop (quoted_stop s (at + 1)) s) (rw e at h)
        ∙ ap undoubled (sym (bytes-quoted q))

pub whole : (s : List ℕ) → row_at s 0 ≡ row_of s
unfolding row_at row_of
whole s = refl

at_first : (s : List ℕ) (n : ℕ) → field (row_of s) n ≡ field (behind n (row_at s 0)) 0
at_first s n = rw (whole s, get_or-drop n (row_of s).fields 0 [], add-zero) refl

-- Field n of a line that has it, by its place.
pub field-value : (s : List ℕ) (n p : ℕ) → stand s n 0 ≡ Begins p → n < length (row_of s).fields → field (row_of s) n ≡ undoubled (bytes_in s (span_at s p))
field-value s n p e h =
    let told : Stood s (row_at s 0) n (Begins p) = subst (λ r. Stood s (row_at s 0) n r) e (stand-row s n 0 (omega arith)) in
    let first : field (row_of s) n ≡ field (row_at s p) 0 = at_first s n ∙ ap (λ t. field t 0) (sym told.2) in
    let some : 0 < length (row_at s p).fields = rw told.2 (omega (arith, length-drop n (row_at s 0).fields, ap (λ t. length t.fields) (whole s))) in
    first ∙ span_value s p some

pub span-within : (s : List ℕ) (at : ℕ) (p : Span) → at ≤ length s → p ≡ span_at s at → (p.start ≤ p.stop) × (p.stop ≤ length s)
unfolding span_at
span-within s at p h e =
    ⊎_elim (λ (q : opens_at s at ≡ true). rw (e, q) (quoted-within s (at + 1) (omega (arith, opens-within s at q))))
    (λ (q : opens_at s at ≡ false). rw (e, q) (plain-within s at h))
    (split (opens_at s at))
