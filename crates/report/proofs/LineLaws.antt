-- Laws of the printed lines. Assumes nothing.
use mathlib.Core.Path.{◌≡◌, refl, sym, ap, ◌∙◌, subst}
use mathlib.Core.Bool.{Bool, true, false, cond}
use mathlib.Core.List.{List, [], ◌∷◌, ◌++◌, append-nil, append_assoc, flat_map}
use Prim.Native.Nat.{ℕ, ◌+◌, ◌*◌, ◌/◌, ◌≤◌, ◌<◌}
use native.Mathlib.Numerals.{add-one}
use native.Mathlib.Omega.{arith}
use lib.ListN.{length}
use borrow.Author.Tests.{le-leb, lt-leb, leb-true, eq-eqb, ne_eqb}
use Rattle.journeys.specs.Counting.{joined}
use Rattle.journeys.specs.Bytes.{be32}
use Rattle.journeys.specs.OneRun.{OneAnswer}
use Rattle.journeys.proofs.Tests.{and_both}
use Rattle.copying.specs.Write.{Wrote}
use Rattle.report.specs.Text.{decimal, field, fields, line, fields_at, lines, lists, vertex_word, part_word, held_word, answer_word, end_word, printed, fits, report, fault, fault_in}

pub field_is : (x : ℕ) → (32 ∷ []) ++ decimal x ≡ field x
unfolding field
field_is x = refl

pub two_fields : (x y : ℕ) → field x ++ field y ≡ fields (x ∷ y ∷ [])
unfolding flat_map
two_fields x y = simp append-nil

pub four-fields : (a b c d : ℕ) → (field a ++ field b) ++ (field c ++ field d) ≡ fields (a ∷ b ∷ c ∷ d ∷ [])
unfolding flat_map
four-fields a b c d = simp (append-nil, append_assoc)

-- a text that is written is written under another name
pub as-text : {d : List ℕ} {at : ℕ} {p q d' : List ℕ} {r : ℕ} → p ≡ q → Wrote d at p d' r → Wrote d at q d' r
as-text {d} {at} {p} {q} {d'} {r} e a = subst (λ (l : List ℕ). Wrote d at l d' r) e a

pub line-is : (label numbers : List ℕ) → label ++ numbers ++ (10 ∷ []) ≡ line label numbers
unfolding line
line-is label numbers = refl

pub no_fields : (table : List ℕ) (from : ℕ) → [] ≡ fields_at table from 0
unfolding fields_at joined
no_fields table from = refl

pub more-fields : (table : List ℕ) (from j : ℕ) → fields_at table from j ++ field (be32 table (from + 4 * j)) ≡ fields_at table from (j + 1)
unfolding fields_at joined
more-fields table from j = rw add-one

pub no_lines : (label table : List ℕ) (n : ℕ) → [] ≡ lines label table n 0
unfolding lines joined
no_lines label table n = refl

pub more-lines : (label table : List ℕ) (n i : ℕ) → lines label table n i ++ line label (fields_at table (4 * n * i) n) ≡ lines label table n (i + 1)
unfolding lines joined
more-lines label table n i = rw add-one

-- ---- the line of a faulty job
pub fault-is : (n : ℕ) → (106 ∷ 111 ∷ 98 ∷ 32 ∷ []) ++ decimal n ++ (10 ∷ []) ≡ fault n
unfolding fault line field flat_map
fault-is n = ap (λ (l : List ℕ). (106 ∷ 111 ∷ 98 ∷ []) ++ l ++ (10 ∷ [])) (sym (append-nil (field n)))

pub fault-fits : (n room : ℕ) → 25 ≤ room → fault_in n room ≡ fault n
unfolding fault_in
fault-fits n room l = rw (le-leb 25 room l)

pub fault-lacks : (n room : ℕ) → room < 25 → fault_in n room ≡ []
unfolding fault_in
fault-lacks n room l = rw (lt-leb 25 room l)

-- ---- the whole text
pub record Room (a : OneAnswer) (room : ℕ) : Type 0 where
  pub settled : 8 * a.settled_count ≤ length a.settled
  pub parts : 12 * a.part_count ≤ length a.parts
  pub held : 16 * a.held_count ≤ length a.held
  pub out : 49 * (a.settled_count + a.part_count + a.held_count + 2) ≤ room

pub has_room : (a : OneAnswer) (room : ℕ) → fits a room ≡ true → Room a room
unfolding fits
has_room a room e =
    let p = and_both _ _ e in
    let q = and_both _ _ p.0 in
    let r = and_both _ _ q.0 in
    let s : a.settled_count ≤ length a.settled / 8 = leb-true _ _ r.0 in
    let t : a.part_count ≤ length a.parts / 12 = leb-true _ _ r.1 in
    let h : a.held_count ≤ length a.held / 16 = leb-true _ _ q.1 in
    record { settled = omega arith; parts = omega arith; held = omega arith; out = leb-true _ _ p.1 }

module _ (a : OneAnswer) where
  abbrev first : List ℕ
  first = line answer_word (fields (a.refusal ∷ a.place ∷ []))

  abbrev middle : List ℕ
  middle = lists a.settled_count a.part_count a.held_count a.settled a.parts a.held

  abbrev final : List ℕ
  final = line end_word (fields (a.settled_count ∷ a.part_count ∷ a.held_count ∷ a.finished ∷ []))

  pub refusal-text : (a.refusal ≡ 0 → ⊥) → first ≡ printed a
  unfolding printed
  refusal-text d = rw (ne_eqb a.refusal 0 d, append-nil)

  pub answer-text : a.refusal ≡ 0 → first ++ middle ++ final ≡ printed a
  unfolding printed
  answer-text e =
      append_assoc first middle final
      ∙ ap (λ (t : Bool). first ++ cond t (middle ++ final) []) (sym (eq-eqb a.refusal 0 e))

  pub text-fits : (room : ℕ) → fits a room ≡ true → report a room ≡ printed a
  unfolding report
  text-fits room e = rw e

  pub text-lacks : (room : ℕ) → fits a room ≡ false → report a room ≡ []
  unfolding report
  text-lacks room e = rw e

pub three-lists : (s p h : ℕ) (settled parts held : List ℕ)
    → lines vertex_word settled 2 s ++ lines part_word parts 3 p ++ lines held_word held 4 h ≡ lists s p h settled parts held
unfolding lists
three-lists s p h settled parts held = refl
