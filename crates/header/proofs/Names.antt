-- Names compared byte by byte, and a line read field by field. Assumes nothing.
use Prim.Native.Nat.{ℕ, suc, ◌+◌, ◌-◌, ◌≤◌, ◌<◌}
use native.Mathlib.Omega.{arith}
use native.Mathlib.Numerals.{add-one}
use mathlib.Core.Path.{◌≡◌, refl, sym, ap, subst, ◌∙◌}
use mathlib.Core.Logic.{⊎_elim}
use mathlib.Core.Bool.{Bool, true, false, cond, ◌&&◌}
use mathlib.Core.List.{List, [], ◌∷◌}
use lib.Dec.{eqb, ltb}
use lib.ListN.{length, get_or, take, drop, drop_of_length-le}
use lib.Pointwise.{pointwise}
use lib.Seq.{drop-cons}
use borrow.Author.Tests.{eqb-true, eq-eqb, ne_eqb, ltb-true, lt-ltb}
use Rattle.journeys.proofs.Tests.{split, and_right}
use Rattle.feed.specs.Fields.{row_of, field, same}
use Rattle.feed.specs.Stops.{times, column_from, column}
use Rattle.lines.specs.declared.Stand.{Stand}
use Rattle.lines.specs.declared.Stand.TheVariants.{Begins, Ended, Broken}
use Rattle.lines.specs.declared.Span.{Span}
use Rattle.lines.specs.Passing.{plain_width, quoted_width, plain_stop, quoted_stop, stand}
use Rattle.lines.specs.Rows.{row_at, Stood, undoubled}
use Rattle.lines.specs.Spans.{span_at, bytes_in, quotes}
use Rattle.lines.proofs.Reading.{stand-row}
use Rattle.lines.proofs.Spans.{whole, quoteless, quoteless-paired, same_bytes, span_value, span-paired}

-- ---- byte by byte, as the library compares slices
pub same-bytes : (f g : List ℕ) → pointwise eqb f g ≡ same f g
unfolding same
same-bytes [] [] = refl
same-bytes [] (b ∷ g) = refl
same-bytes (a ∷ f) [] = refl
same-bytes (a ∷ f) (b ∷ g) = ap (λ t. eqb a b && t) (same-bytes f g)

pub same-long : (f g : List ℕ) → (length f ≡ length g → ⊥) → same f g ≡ false
unfolding same
same-long [] [] n = absurd (n refl)
same-long [] (b ∷ g) n = refl
same-long (a ∷ f) [] n = refl
same-long (a ∷ f) (b ∷ g) n = and_right (eqb a b) (same-long f g (λ e. n (ap suc e)))

module _ (f g : List ℕ) (i : ℕ) (e : length f ≡ length g) where
  pub same_over : length f ≤ i → same (drop i f) (drop i g) ≡ true
  unfolding same
  same_over h = let k : length g ≤ i = omega arith in rw (drop_of_length-le f h, drop_of_length-le g k) refl

  module _ (h : i < length f) where
    cut : same (drop i f) (drop i g) ≡ (eqb (get_or f i 0) (get_or g i 0) && same (drop (i + 1) f) (drop (i + 1) g))
    unfolding same
    cut = let k : i < length g = omega arith in rw (drop-cons f i 0 h, drop-cons g i 0 k, add-one) refl

    pub same-on : get_or f i 0 ≡ get_or g i 0 → same (drop i f) (drop i g) ≡ same (drop (i + 1) f) (drop (i + 1) g)
    same-on p = cut ∙ rw (eq-eqb _ _ p) refl

    pub same_differs : (get_or f i 0 ≡ get_or g i 0 → ⊥) → same (drop i f) (drop i g) ≡ false
    same_differs p = cut ∙ rw (ne_eqb _ _ p) refl

-- ---- a field and a name
pub name-is : (s : List ℕ) (at : ℕ) (name : List ℕ) (p : Span) → 0 < length (row_at s at).fields → quotes name ≡ false → p ≡ span_at s at
    → same name (take (p.stop - p.start) (drop p.start s)) ≡ same name (field (row_at s at) 0)
unfolding bytes_in
name-is s at name p h q e =
    rw e
    (sym
    (ap (same name) (span_value s at h)
    ∙ ap (λ n. same n (undoubled (bytes_in s (span_at s at)))) (sym (quoteless name q))
    ∙ same_bytes name (bytes_in s (span_at s at)) (quoteless-paired name q) (span-paired s at)))

-- ---- field by field
pushed : {A : Type 0} (f : Stand → A) (b : Bool) (x y : Stand) → f (cond b x y) ≡ cond b (f x) (f y)
pushed f true x y = refl
pushed f false x y = refl

cond_same : {A : Type 0} (b : Bool) (x : A) → cond b x x ≡ x
cond_same true x = refl
cond_same false x = refl

-- of one field that was to be passed, none is over where the line ended, one where it is broken
spare : Stand → Bool
spare (Begins at) = true
spare (Ended over) = eqb over 0
spare (Broken over) = eqb over 1

one-spare : (s : List ℕ) (at : ℕ) → spare (stand s 1 at) ≡ true
unfolding stand spare
one-spare s at = simp (pushed spare, cond_same)

-- the next field begins further on
later : ℕ → Stand → Bool
later at (Begins next) = ltb at next
later at (Ended over) = true
later at (Broken over) = true

one_later : (s : List ℕ) (at : ℕ) → later at (stand s 1 at) ≡ true
unfolding stand later plain_stop quoted_stop
one_later s at =
    let p : at < at + plain_width (drop at s) + 1 = omega arith in
    let q : at < at + 1 + quoted_width false (drop (at + 1) s) + 1 + 1 = omega arith in
    let a = lt-ltb at (at + plain_width (drop at s) + 1) p in
    let b = lt-ltb at (at + 1 + quoted_width false (drop (at + 1) s) + 1 + 1) q in
    simp (pushed (later at), a, b, cond_same)

head_tail : (l : List (List ℕ)) → 1 ≤ length l → l ≡ get_or l 0 [] ∷ drop 1 l
head_tail [] h = absurd (omega arith)
head_tail (f ∷ fs) h = refl

one_field : (l : List (List ℕ)) → length l ≡ 1 → l ≡ get_or l 0 [] ∷ []
one_field [] h = absurd (omega arith)
one_field (f ∷ []) h = refl
one_field (f ∷ g ∷ l) h = absurd (omega arith)

no_field : (l : List (List ℕ)) → length l ≡ 0 → l ≡ []
no_field [] h = refl
no_field (f ∷ l) h = absurd (omega arith)

module _ (s : List ℕ) (at : ℕ) (h : at ≤ length s) where
  told : {r : Stand} → stand s 1 at ≡ r → Stood s (row_at s at) 1 r
  told e = subst (λ r. Stood s (row_at s at) 1 r) e (stand-row s 1 at h)

  pub goes-field : (next : ℕ) → stand s 1 at ≡ Begins next
      → (next ≤ length s) × ((row_at s at).fields ≡ field (row_at s at) 0 ∷ (row_at s next).fields) × (0 < length (row_at s at).fields) × (at < next)
  unfolding later
  goes-field next e =
      let t = told e in
      (t.1, head_tail (row_at s at).fields t.0 ∙ ap (λ u. field (row_at s at) 0 ∷ u.fields) (sym t.2), t.0, ltb-true at next (subst (λ r. later at r ≡ true) e (one_later s at)))

  pub last-field : (over : ℕ) → stand s 1 at ≡ Ended over → ((row_at s at).fields ≡ field (row_at s at) 0 ∷ []) × (0 < length (row_at s at).fields)
  unfolding spare
  last-field over e =
      let none = eqb-true over 0 (subst (λ r. spare r ≡ true) e (one-spare s at)) in
      let one : length (row_at s at).fields ≡ 1 = let t : over + length (row_at s at).fields ≡ 1 = (told e).0 in omega arith in
      (one_field (row_at s at).fields one, omega arith)

  pub broken-field : (over : ℕ) → stand s 1 at ≡ Broken over → (row_at s at).fields ≡ []
  unfolding spare
  broken-field over e =
      let all = eqb-true over 1 (subst (λ r. spare r ≡ true) e (one-spare s at)) in
      let zeroth : length (row_at s at).fields ≡ 0 = let t : over + length (row_at s at).fields ≡ 1 = (told e).0 in omega arith in
      no_field (row_at s at).fields zeroth

-- ---- how often a name stands in a row of fields
module _ (name f : List ℕ) (fields fs : List (List ℕ)) (e : fields ≡ f ∷ fs) where
  pub times-one : same name f ≡ true → times name fields ≡ 1 + times name fs
  unfolding times
  times-one q = rw (e, q) refl

  pub times-other : same name f ≡ false → times name fields ≡ times name fs
  unfolding times
  times-other q = rw (e, q) (omega arith)

pub times_none : (name : List ℕ) (fields : List (List ℕ)) → fields ≡ [] → times name fields ≡ 0
unfolding times
times_none name fields e = rw e refl

pub times-whole : (name s : List ℕ) → 0 + times name (row_at s 0).fields ≡ times name (row_of s).fields
times-whole name s = rw (whole s) (omega arith)

-- ---- at which field it stands first
module _ (name f : List ℕ) (k : ℕ) (fields fs : List (List ℕ)) (e : fields ≡ f ∷ fs) where
  pub column-here : same name f ≡ true → column_from name k fields ≡ k
  unfolding column_from
  column-here q = rw (e, q) refl

  pub column-on : same name f ≡ false → column_from name k fields ≡ column_from name (k + 1) fs
  unfolding column_from
  column-on q = rw (e, q) refl

pub column-none : (name : List ℕ) (k : ℕ) (fields : List (List ℕ)) → fields ≡ [] → column_from name k fields ≡ k
unfolding column_from
column-none name k fields e = rw e refl

pub column-whole : (name s : List ℕ) → column_from name 0 (row_at s 0).fields ≡ column name (row_of s)
unfolding column
column-whole name s = rw (whole s) refl

pub all-five : {a a' b b' c c' d d' e e' : Bool} → a ≡ a' → b ≡ b' → c ≡ c' → d ≡ d' → e ≡ e' → (a && b && c && d && e) ≡ (a' && b' && c' && d' && e')
all-five p q r s t = cc

-- ---- how many there are, and whether the quotes are in order
module _ (s : List ℕ) (at : ℕ) (h : at ≤ length s) where
  pub count-goes : (next : ℕ) → stand s 1 at ≡ Begins next → (length (row_at s at).fields ≡ 1 + length (row_at s next).fields) × ((row_at s next).sound ≡ (row_at s at).sound)
  count-goes next e = (omega (arith, ap length (goes-field s at h next e).1), ap (λ u. u.sound) (told s at h e).2)

  pub count-ends : (over : ℕ) → stand s 1 at ≡ Ended over → (length (row_at s at).fields ≡ 1) × ((row_at s at).sound ≡ true)
  count-ends over e = (ap length (last-field s at h over e).0, (told s at h e).1)

  pub count-breaks : (over : ℕ) → stand s 1 at ≡ Broken over → (length (row_at s at).fields ≡ 0) × ((row_at s at).sound ≡ false)
  count-breaks over e = (ap length (broken-field s at h over e), (told s at h e).1)

pub count-whole : (s : List ℕ) → (0 + length (row_at s 0).fields ≡ length (row_of s).fields) × ((row_at s 0).sound ≡ (row_of s).sound)
count-whole s = rw (whole s) (omega arith, refl)

-- a name that stands there once stands at one of the fields
pub column-inside : (name : List ℕ) (k : ℕ) (fields : List (List ℕ)) → times name fields ≡ 1 → column_from name k fields < k + length fields
unfolding times column_from
column-inside name k [] e = absurd (omega arith)
column-inside name k (f ∷ fs) e =
    ⊎_elim (λ (q : same name f ≡ true). rw q (omega arith))
    (λ (q : same name f ≡ false). let z : times name fs ≡ 1 = let y = rw q at e in omega arith in rw q (omega (arith, column-inside name (k + 1) fs z)))
    (split (same name f))
