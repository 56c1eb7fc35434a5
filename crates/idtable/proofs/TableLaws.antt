-- The table holds the lines of a list that were read. Assumes nothing.
use Prim.Native.Nat.{ℕ, zero, suc, ◌+◌, ◌-◌, ◌≤◌, ◌<◌}
use native.Mathlib.Omega.{arith}
use native.Mathlib.Numerals.{add-one}
use native.Mathlib.Decide.{ℕ_discrete}
use mathlib.Core.Path.{◌≡◌, refl, sym, ap, subst, ◌∙◌}
use mathlib.Core.Logic.{⊎_elim}
use mathlib.Core.Bool.{Bool, true, false, cond}
use mathlib.Core.List.{List, [], ◌∷◌}
use lib.Dec.{eqb}
use lib.ListN.{length, set, replicate, get_or-replicate}
use lib.Seq.{get_or-set_same, get_or-set_other}
use borrow.Author.Tests.{eq-eqb, ne_eqb}
use Rattle.journeys.proofs.Tests.{split, never, cond-true, cond-false}
use Rattle.feed.specs.Lines.{empty}
use Rattle.feed.specs.Fields.{same}
use Rattle.naming.specs.Named.{line_at, next_at, first_bytes, names_at, found_from}
use Rattle.naming.proofs.Places.{same-is, found-step, names-is, names-none}
use Rattle.idtable.specs.Table.{at, start_of, next_of, Cleared, Lying, has_id, look, in_table, Way, start, on, Vacant, Ended, Holds}
use Rattle.idtable.specs.declared.End.{End}
use Rattle.idtable.specs.declared.End.TheVariants.{Found, Free, Full}
use Rattle.idtable.proofs.Mixing.{start-within}

same_refl : (f : List ℕ) → same f f ≡ true
unfolding same
same_refl [] = refl
same_refl (a ∷ f) = rw (eq-eqb a a refl, same_refl f) refl

pub next_last : (n k : ℕ) → k + 1 ≡ n → 0 ≡ next_of n k
unfolding next_of
next_last n k e = sym (cond-true _ _ (eq-eqb (k + 1) n e))

pub next-on : (n k : ℕ) → (k + 1 ≡ n → ⊥) → k + 1 ≡ next_of n k
unfolding next_of
next-on n k e = sym (cond-false _ _ (ne_eqb (k + 1) n e))

next-within : (n k : ℕ) → k < n → next_of n k < n
next-within n k h = go (ℕ_discrete (k + 1) n)
  where
    go : Dec (k + 1 ≡ n) → next_of n k < n
    go (yes e) = omega (arith, next_last n k e)
    go (no e) = omega (arith, next-on n k e)

-- ---- one slot more is looked at
module _ (text : List ℕ) (n : ℕ) (l y : List ℕ) where
  look-free : (f k : ℕ) → at l k ≡ 0 → look text n l y (suc f) k ≡ 0
  unfolding look
  look-free f k e = cond-true _ _ (eq-eqb (at l k) 0 e)

  look-has : (f k : ℕ) → (at l k ≡ 0 → ⊥) → has_id text n l y (at l k) ≡ true → look text n l y (suc f) k ≡ at l k
  unfolding look
  look-has f k e h = cond-false _ _ (ne_eqb (at l k) 0 e) ∙ cond-true _ _ h

  look-on : (f k : ℕ) → (at l k ≡ 0 → ⊥) → has_id text n l y (at l k) ≡ false → look text n l y (suc f) k ≡ look text n l y f (next_of n k)
  unfolding look
  look-on f k e h = cond-false _ _ (ne_eqb (at l k) 0 e) ∙ cond-false _ _ h

  look-over : (k : ℕ) → look text n l y 0 k ≡ 0
  unfolding look
  look-over k = refl

  -- where no slot has the id, nothing is found
  none_has : (f k : ℕ) → k < n → ((j : ℕ) → j < n → (at l j ≡ 0 → ⊥) → has_id text n l y (at l j) ≡ true → ⊥) → look text n l y f k ≡ 0
  none_has zero k h e = look-over k
  none_has (suc f) k h e = go (none_has f (next_of n k) (next-within n k h) e) (ℕ_discrete (at l k) 0)
    where
      go : look text n l y f (next_of n k) ≡ 0 → Dec (at l k ≡ 0) → look text n l y (suc f) k ≡ 0
      go r (yes z) = look-free f k z
      go r (no z) =
          ⊎_elim
          (λ (q : has_id text n l y (at l k) ≡ true). absurd (e k h z q))
          (λ (q : has_id text n l y (at l k) ≡ false). look-on f k z q ∙ r)
          (split (has_id text n l y (at l k)))

-- ---- the way of a search
module _ {text : List ℕ} {n : ℕ} {l y : List ℕ} where
  pub way-look : {f k : ℕ} → Way text n l y f k → in_table text n l y ≡ look text n l y f k
  unfolding in_table
  way-look start = refl
  way-look (on {f} {k} w z h) = way-look w ∙ look-on text n l y f k z h

  -- a search that has come to a slot, of which the code has read what it holds
  module _ {left k : ℕ} (w : Way text n l y left k) where
    some_left : 0 < left → Way text n l y (suc (left - 1)) k
    some_left h = subst (λ f. Way text n l y f k) (omega arith) w

    pub ended-over : left ≤ 0 → Ended text n l y Full
    ended-over h = way-look (subst (λ f. Way text n l y f k) (omega arith) w) ∙ look-over text n l y k

    module _ (h : 0 < left) {r : ℕ} (e : r ≡ at l k) where
      pub ended-free : k < n → r ≡ 0 → Ended text n l y (Free k)
      ended-free i z = record { none = way-look (some_left h) ∙ look-free text n l y (left - 1) k (sym e ∙ z); within = i; vacant = sym e ∙ z; left = left - 1; way = some_left h }

      module _ (z : r ≡ 0 → ⊥) {t : Bool} (s : t ≡ same y (first_bytes (line_at text (r - 1)))) where
        has-is : has_id text n l y (at l k) ≡ t
        unfolding has_id
        has-is = ap (λ (q : ℕ). same y (first_bytes (line_at text (q - 1)))) (sym e) ∙ sym s

        pub ended-has : t ≡ true → Ended text n l y (Found r)
        ended-has q = (way-look (some_left h) ∙ look-has text n l y (left - 1) k (λ v. z (e ∙ v)) (has-is ∙ q) ∙ sym e, z)

        pub further : {next : ℕ} → t ≡ false → next ≡ next_of n k → Way text n l y (left - 1) next
        further q v = subst (λ j. Way text n l y (left - 1) j) (sym v) (on (some_left h) (λ u. z (e ∙ u)) (has-is ∙ q))

pub ended-as : (text : List ℕ) (n : ℕ) (l : List ℕ) {y x : List ℕ} (end : End) → Ended text n l y end → y ≡ x → Ended text n l x end
ended-as text n l {y} {x} end e q = subst (λ w. Ended text n l w end) q e

pub holds_as : {text l : List ℕ} {p q n : ℕ} → Holds text p n l → p ≡ q → Holds text q n l
holds_as {text} {l} {p} {q} {n} o e = subst (λ r. Holds text r n l) e o

pub holds_long : {text : List ℕ} {p n m : ℕ} (l : List ℕ) → m ≡ n → Holds text p n l → Holds text p m l
holds_long {text} {p} {n} {m} l e o = subst (λ r. Holds text p r l) (sym e) o

pub way-as : {text l y : List ℕ} {n f k : ℕ} (g : ℕ) → f ≡ g → Way text n l y f k → Way text n l y g k
way-as {text} {l} {y} {n} {f} {k} g e w = subst (λ h. Way text n l y h k) e w

pub way-from : {text l y : List ℕ} {n k : ℕ} → k ≡ start_of n y → Way text n l y n k
way-from {text} {l} {y} {n} e = subst (λ j. Way text n l y n j) (sym e) start

-- one slot written: it holds what was written, and every other slot what it held
pub slot-set : (l : List ℕ) {l' : List ℕ} (k x : ℕ) → k < length l → l' ≡ set l k x → (at l' k ≡ x) × ((j : ℕ) → (j ≡ k → ⊥) → at l' j ≡ at l j)
slot-set l k x h u = (rw u (get_or-set_same l k x 0 h), (λ j ne. rw u (get_or-set_other l k j x 0 ne)))

pub cleared_more : (l : List ℕ) {l' : List ℕ} {i n : ℕ} → length l ≡ n → i < n → ((k : ℕ) → k < i → at l k ≡ 0) → l' ≡ set l i 0 → (k : ℕ) → k < i + 1 → at l' k ≡ 0
cleared_more l {l'} {i} len h z u k j = go (ℕ_discrete k i)
  where
    written : (at l' i ≡ 0) × ((j : ℕ) → (j ≡ i → ⊥) → at l' j ≡ at l j)
    written = slot-set l i 0 (omega (arith, len)) u

    go : Dec (k ≡ i) → at l' k ≡ 0
    go (yes q) = rw q (written.0)
    go (no q) = written.1 k q ∙ z k (omega (arith, q))

pub cleared : (n : ℕ) (l : List ℕ) → l ≡ replicate n 0 → Cleared n l
cleared n l e k h = rw e (get_or-replicate n k 0 0 h)

-- ---- what the table holds
none_in : (text l : List ℕ) (n : ℕ) (y : List ℕ) → 0 < n → ((j : ℕ) → j < n → (at l j ≡ 0 → ⊥) → has_id text n l y (at l j) ≡ true → ⊥) → in_table text n l y ≡ 0
unfolding in_table
none_in text l n y p e = none_has text n l y n (start_of n y) (start-within n y p) e

pub holds-none : {text l : List ℕ} {n : ℕ} → 0 < n → Cleared n l → Holds text 0 n l
holds-none {text} {l} {n} p z = record { lies = λ k h. omega (arith, z k h); owns = λ y k h e. absurd (e (z k h)); found = found }
  where
    none : (y : List ℕ) → in_table text n l y ≡ 0
    none y = none_in text l n y p (λ j h e q. e (z j h))

    found : (y : List ℕ) → found_from text 0 y ≡ cond (eqb (in_table text n l y) 0) (found_from text 0 y) (in_table text n l y)
    found y = sym (cond-true _ _ (eq-eqb (in_table text n l y) 0 (none y)))

module _ (text : List ℕ) (place : ℕ) where
  abbrev x : List ℕ
  x = first_bytes (line_at text place)

  -- of a line that is passed over for an id, those behind it decide
  past : (y : List ℕ) → place < length text → names_at text place y ≡ false → found_from text place y ≡ found_from text (next_at text place) y
  past y h e = found-step text place y h ∙ cond-false _ _ e

  other : (y : List ℕ) → place < length text → empty (line_at text place) ≡ false → same y x ≡ false → found_from text place y ≡ found_from text (next_at text place) y
  other y h n e = past y h (names-is text place y n ∙ e)

  own : (y : List ℕ) → place < length text → empty (line_at text place) ≡ false → same y x ≡ true → found_from text place y ≡ suc place
  own y h n e = found-step text place y h ∙ cond-true _ _ (names-is text place y n ∙ e)

  module _ {n : ℕ} {l : List ℕ} (o : Holds text place n l) (h : place < length text) where
    -- what comes behind the line decides too where the line does not
    behind : (y : List ℕ) → found_from text place y ≡ found_from text (next_at text place) y → found_from text 0 y ≡ cond (eqb (in_table text n l y) 0) (found_from text (next_at text place) y) (in_table text n l y)
    behind y e = o.found y ∙ ap (λ (r : ℕ). cond (eqb (in_table text n l y) 0) r (in_table text n l y)) e

    -- an empty line is passed over
    pub holds-past : empty (line_at text place) ≡ true → Holds text (next_at text place) n l
    holds-past e = record { lies = o.lies; owns = o.owns; found = λ y. behind y (past y h (names-none text place y e)) }

    module _ (b : empty (line_at text place) ≡ false) where
      -- an id that is there already
      pub holds-again : (in_table text n l x ≡ 0 → ⊥) → Holds text (next_at text place) n l
      holds-again z = record { lies = o.lies; owns = o.owns; found = found }
        where
          found : (y : List ℕ) → found_from text 0 y ≡ cond (eqb (in_table text n l y) 0) (found_from text (next_at text place) y) (in_table text n l y)
          found y =
              ⊎_elim
              (λ (q : same y x ≡ true). let t : eqb (in_table text n l y) 0 ≡ false = rw (same-is y x q) (ne_eqb (in_table text n l x) 0 z) in o.found y ∙ cond-false _ _ t ∙ sym (cond-false _ _ t))
              (λ (q : same y x ≡ false). behind y (other y h b q))
              (split (same y x))

      -- an id more, in a slot that is free
      module _ {l' : List ℕ} {e f : ℕ} (p : 0 < n) (len : length l ≡ n) (i : e < n) (z : at l e ≡ 0) (w : Way text n l x (suc f) e) (u : l' ≡ set l e (place + 1)) where
        new : at l' e ≡ place + 1
        new = (slot-set l e (place + 1) (omega (arith, len)) u).0

        kept : (k : ℕ) → (k ≡ e → ⊥) → at l' k ≡ at l k
        kept = (slot-set l e (place + 1) (omega (arith, len)) u).1

        taken : (k : ℕ) → (at l k ≡ 0 → ⊥) → at l' k ≡ at l k
        taken k ne = kept k (λ q. ne (ap (at l) q ∙ z))

        has_new : (y : List ℕ) → has_id text n l' y (at l' e) ≡ same y x
        unfolding has_id
        has_new y = let q : at l' e - 1 ≡ place = omega (arith, new) in ap (λ (r : ℕ). same y (first_bytes (line_at text r))) q

        has_kept : (y : List ℕ) (r : ℕ) → has_id text n l' y r ≡ has_id text n l y r
        unfolding has_id
        has_kept y r = refl

        -- another id that is there is found as before
        look-kept : (y : List ℕ) (g k : ℕ) → (look text n l y g k ≡ 0 → ⊥) → look text n l' y g k ≡ look text n l y g k
        look-kept y zero k ne = absurd (ne (look-over text n l y k))
        look-kept y (suc g) k ne =
            ⊎_elim
            (λ (q : has_id text n l y (at l k) ≡ true). look-has text n l' y g k some' (rw (taken k some) (has_kept y (at l k) ∙ q)) ∙ taken k some ∙ sym (look-has text n l y g k some q))
            (λ (q : has_id text n l y (at l k) ≡ false).
            let step = look-on text n l y g k some q in
            look-on text n l' y g k some' (rw (taken k some) (has_kept y (at l k) ∙ q)) ∙ look-kept y g (next_of n k) (λ r. ne (step ∙ r)) ∙ sym step)
            (split (has_id text n l y (at l k)))
          where
            some : at l k ≡ 0 → ⊥
            some q = ne (look-free text n l y g k q)

            some' : at l' k ≡ 0 → ⊥
            some' q = some (sym (taken k some) ∙ q)

        in_kept : (y : List ℕ) → (in_table text n l y ≡ 0 → ⊥) → in_table text n l' y ≡ in_table text n l y
        unfolding in_table
        in_kept y ne = look-kept y n (start_of n y) ne

        -- one that is not there is not found there
        in-none : (y : List ℕ) → same y x ≡ false → in_table text n l y ≡ 0 → in_table text n l' y ≡ 0
        in-none y q r = none_in text l' n y p (λ j h' ne t. go j h' ne t (ℕ_discrete j e))
          where
            go : (j : ℕ) → j < n → (at l' j ≡ 0 → ⊥) → has_id text n l' y (at l' j) ≡ true → Dec (j ≡ e) → ⊥
            go j h' ne t (yes d) = never (ap (λ (k : ℕ). has_id text n l' y (at l' k)) (sym d) ∙ t) (has_new y ∙ q)
            go j h' ne t (no d) =
                let s : at l j ≡ 0 → ⊥ = λ v. ne (kept j d ∙ v) in
                let v : has_id text n l y (at l j) ≡ true = rw (kept j d) at (sym (has_kept y (at l' j)) ∙ t) in
                s (sym (o.owns y j h' s v) ∙ r)

        way-kept : {g k : ℕ} → Way text n l x g k → Way text n l' x g k
        way-kept start = start
        way-kept (on {k = k} v ne q) = on (way-kept v) (λ r. ne (sym (taken k ne) ∙ r)) (rw (taken k ne) (has_kept x (at l k) ∙ q))

        -- its own id is found there
        in-own : in_table text n l' x ≡ place + 1
        in-own = way-look (way-kept w) ∙ look-has text n l' x f e (λ q. absurd (omega (arith, q, new))) (has_new x ∙ same_refl x) ∙ new

        was-none : in_table text n l x ≡ 0
        was-none = way-look w ∙ look-free text n l x f e z

        lies_more : Lying text n l'
        lies_more k h' = go (ℕ_discrete k e)
          where
            go : Dec (k ≡ e) → at l' k ≤ length text
            go (yes q) = rw (q, new) (omega arith)
            go (no q) = rw (kept k q) (o.lies k h')

        owns-more : (y : List ℕ) (k : ℕ) → k < n → (at l' k ≡ 0 → ⊥) → has_id text n l' y (at l' k) ≡ true → in_table text n l' y ≡ at l' k
        owns-more y k h' ne t = go (ℕ_discrete k e)
          where
            go : Dec (k ≡ e) → in_table text n l' y ≡ at l' k
            go (yes q) =
                let r : same y x ≡ true = sym (has_new y) ∙ ap (λ (j : ℕ). has_id text n l' y (at l' j)) (sym q) ∙ t in
                rw (same-is y x r) in-own ∙ sym (ap (at l') q ∙ new)
            go (no q) =
                let s : at l k ≡ 0 → ⊥ = λ v. ne (kept k q ∙ v) in
                let v : has_id text n l y (at l k) ≡ true = rw (kept k q) at (sym (has_kept y (at l' k)) ∙ t) in
                let r = o.owns y k h' s v in
                in_kept y (λ a. s (sym r ∙ a)) ∙ r ∙ sym (kept k q)

        found-more : (y : List ℕ) → found_from text 0 y ≡ cond (eqb (in_table text n l' y) 0) (found_from text (next_at text place) y) (in_table text n l' y)
        found-more y = ⊎_elim same_id other-id (split (same y x))
          where
            same_id : same y x ≡ true → found_from text 0 y ≡ cond (eqb (in_table text n l' y) 0) (found_from text (next_at text place) y) (in_table text n l' y)
            same_id q =
                let r : in_table text n l y ≡ 0 = rw (same-is y x q) was-none in
                let s : in_table text n l' y ≡ place + 1 = rw (same-is y x q) in-own in
                o.found y ∙ cond-true _ _ (eq-eqb (in_table text n l y) 0 r) ∙ own y h b q ∙ sym (cond-false _ _ (ne_eqb (in_table text n l' y) 0 (λ v. absurd (omega (arith, v, s)))) ∙ s ∙ add-one place)

            other-id : same y x ≡ false → found_from text 0 y ≡ cond (eqb (in_table text n l' y) 0) (found_from text (next_at text place) y) (in_table text n l' y)
            other-id q = behind y (other y h b q) ∙ ap (λ (r : ℕ). cond (eqb r 0) (found_from text (next_at text place) y) r) (sym (go (ℕ_discrete (in_table text n l y) 0)))
              where
                go : Dec (in_table text n l y ≡ 0) → in_table text n l' y ≡ in_table text n l y
                go (yes r) = in-none y q r ∙ sym r
                go (no r) = in_kept y r

        holds-new : Holds text (next_at text place) n l'
        holds-new = record { lies = lies_more; owns = owns-more; found = found-more }

      pub holds_more : {l' : List ℕ} {k : ℕ} → 0 < n → length l ≡ n → Vacant text n l x k → l' ≡ set l k (place + 1) → Holds text (next_at text place) n l'
      holds_more p len e u = holds-new p len e.within e.vacant e.way u

-- ---- what a search in the table tells
module _ {text l : List ℕ} {place n r : ℕ} (y : List ℕ) (o : Holds text place n l) (e : in_table text n l y ≡ r) where
  tells : found_from text 0 y ≡ cond (eqb r 0) (found_from text place y) r
  tells = o.found y ∙ ap (λ (q : ℕ). cond (eqb q 0) (found_from text place y) q) e

  pub told_here : (r ≡ 0 → ⊥) → r ≡ found_from text 0 y
  told_here n = sym (tells ∙ cond-false _ _ (ne_eqb r 0 n))

  pub told-later : r ≡ 0 → found_from text place y ≡ found_from text 0 y
  told-later e = sym (tells ∙ cond-true _ _ (eq-eqb r 0 e))
