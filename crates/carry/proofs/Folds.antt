-- What is carried over pieces is what is carried over the whole, and hops are written behind what is still to be read. Assumes nothing.
use mathlib.Core.Path.{◌≡◌, refl, sym, ap, ap₂, subst, ◌∙◌}
use mathlib.Core.Bool.{Bool, true, false, cond}
use mathlib.Core.List.{List, [], ◌∷◌, ◌++◌, append-nil, append_assoc}
use Prim.Native.Nat.{ℕ, zero, suc, ◌+◌, ◌-◌, ◌<◌, ◌≤◌}
use native.Mathlib.Omega.{arith}
use native.Mathlib.Numerals.{add-one}
use lib.ListN.{length, set, take, drop, length-append}
use lib.Seq.{set-append_seam, drop-cons, get_or-append-add, get_or-drop, take_at}
use Rattle.journeys.proofs.Tests.{cond-true, cond-false}
use Rattle.table_bytes.specs.Columns.{at}
use Rattle.sorting.proofs.Digits.{fields}
use Rattle.carry.specs.declared.Item.{Item}
use Rattle.carry.specs.declared.Carry.{Carry}
use Rattle.carry.specs.Carried.{item_of, weight, seen, follow, followed, joins, hop_number, hop_after, all_followed, all_hops}

-- a record's fields make it up
pub weighed : {x : Item} {y : ℕ} → x ≡ item_of y → weight x ≡ y
weighed {x} {y} e = ap weight e ∙ fields y

pub followed-append : (c : Carry) (l m : List ℕ) → all_followed c (l ++ m) ≡ all_followed (all_followed c l) m
unfolding all_followed
followed-append c [] m = refl
followed-append c (x ∷ l) m = followed-append (followed c x) l m

pub hops-append : (c : Carry) (l m : List ℕ) → all_hops c (l ++ m) ≡ all_hops c l ++ all_hops (all_followed c l) m
unfolding all_followed all_hops
hops-append c [] m = refl
hops-append c (x ∷ l) m = ap (λ (r : List ℕ). hop_after c x ++ r) (hops-append (followed c x) l m) ∙ sym (append_assoc (hop_after c x) (all_hops (followed c x) l) (all_hops (all_followed (followed c x) l) m))

pub followed-more : (c : Carry) (l : List ℕ) (x : ℕ) → all_followed c (l ++ x ∷ []) ≡ followed (all_followed c l) x
unfolding all_followed
followed-more c l x = followed-append c l (x ∷ [])

pub hops-more : (c : Carry) (l : List ℕ) (x : ℕ) → all_hops c (l ++ x ∷ []) ≡ all_hops c l ++ hop_after (all_followed c l) x
unfolding all_hops
hops-more c l x = hops-append c l (x ∷ []) ∙ ap (λ (r : List ℕ). all_hops c l ++ r) (append-nil (hop_after (all_followed c l) x))

pub take_more : (W : List ℕ) (i : ℕ) → i < length W → take (suc i) W ≡ take i W ++ at W i ∷ []
take_more [] i h = absurd (omega (arith, h))
take_more (x ∷ W) zero h = refl
take_more (x ∷ W) (suc i) h = ap (λ (r : List ℕ). x ∷ r) (take_more W i (omega (arith, h)))

-- after i of the records W: Y as it is
pub record Going (W Y : List ℕ) (from c : Carry) (k i : ℕ) : Type 0 where
  pub carried : c ≡ all_followed from (take i W)
  pub count : k ≡ length (all_hops from (take i W))
  pub few : k ≤ i
  pub front : Y ≡ all_hops from (take i W) ++ drop k W

pub going_start : (W : List ℕ) (from : Carry) → Going W W from from 0 0
unfolding all_followed all_hops
going_start W from = record { carried = refl; count = refl; few = omega arith; front = refl }

module _ {W Y : List ℕ} {from c : Carry} {k i : ℕ} (g : Going W Y from c k i) where
  pub going-read : at Y i ≡ at W i
  going-read =
      let d = i - k in
      let G = all_hops from (take i W) in
      let e : length G + d ≡ i = omega (arith, g.count, g.few) in
      let f : k + d ≡ i = omega (arith, g.few) in
      ap (λ (l : List ℕ). at l i) g.front ∙ ap (at (G ++ drop k W)) (sym e) ∙ get_or-append-add G (drop k W) d 0 ∙ get_or-drop k W d 0 ∙ ap (at W) f

  module _ (h : i < length W) {x : Item} (q : x ≡ item_of (at Y i)) where
    item-is : x ≡ item_of (at W i)
    item-is = q ∙ ap item_of going-read

    next : {c' : Carry} → c' ≡ follow c x → c' ≡ all_followed from (take (i + 1) W)
    next e =
        e ∙ ap (follow c) item-is ∙ ap (λ (b : Carry). followed b (at W i)) g.carried ∙ sym (followed-more from (take i W) (at W i))
        ∙ sym (ap (all_followed from) (ap (λ (m : ℕ). take m W) (add-one i) ∙ take_more W i h))

    more-hops : all_hops from (take (i + 1) W) ≡ all_hops from (take i W) ++ hop_after c (at W i)
    more-hops =
        ap (all_hops from) (ap (λ (m : ℕ). take m W) (add-one i) ∙ take_more W i h) ∙ hops-more from (take i W) (at W i)
        ∙ ap (λ (b : Carry). all_hops from (take i W) ++ hop_after b (at W i)) (sym g.carried)

    joins-is : {t : Bool} → joins c (seen x) ≡ t → joins c (seen (item_of (at W i))) ≡ t
    joins-is e = ap (λ (y : Item). joins c (seen y)) (sym item-is) ∙ e

    pub going-none : {c' : Carry} → joins c (seen x) ≡ false → c' ≡ follow c x → Going W Y from c' k (i + 1)
    unfolding hop_after
    going-none e n =
        let same : all_hops from (take (i + 1) W) ≡ all_hops from (take i W) = more-hops ∙ ap (λ (r : List ℕ). all_hops from (take i W) ++ r) (cond-false (hop_number (seen c.last) (seen (item_of (at W i))) ∷ []) [] (joins-is e)) ∙ append-nil (all_hops from (take i W)) in
        record {
          carried = next n;
          count = g.count ∙ sym (ap length same);
          few = omega (arith, g.few);
          front = g.front ∙ ap (λ (r : List ℕ). r ++ drop k W) (sym same);
        }

    pub going-one : {c' : Carry} {Y' : List ℕ} → joins c (seen x) ≡ true → c' ≡ follow c x → Y' ≡ set Y k (hop_number (seen c.last) (seen x)) → Going W Y' from c' (k + 1) (i + 1)
    unfolding hop_after
    going-one {c'} {Y'} e n u =
        let G = all_hops from (take i W) in
        let y = hop_number (seen c.last) (seen (item_of (at W i))) in
        let one : all_hops from (take (i + 1) W) ≡ G ++ y ∷ [] = more-hops ∙ ap (λ (r : List ℕ). G ++ r) (cond-true (y ∷ []) [] (joins-is e)) in
        let room : k < length W = omega (arith, g.few, h) in
        let seam : set (G ++ drop k W) (length G) y ≡ G ++ y ∷ drop (suc k) W = ap (λ (r : List ℕ). set (G ++ r) (length G) y) (drop-cons W k 0 room) ∙ set-append_seam G (at W k) (drop (suc k) W) y in
        record {
          carried = next n;
          count = ap (λ (m : ℕ). m + 1) g.count ∙ sym (ap length one ∙ length-append G (y ∷ []));
          few = omega (arith, g.few);
          front =
              u ∙ ap (λ (z : Item). set Y k (hop_number (seen c.last) (seen z))) item-is ∙ ap₂ (λ (l : List ℕ) (m : ℕ). set l m y) g.front g.count ∙ seam
              ∙ sym (ap₂ (λ (l : List ℕ) (m : ℕ). l ++ drop m W) one (add-one k) ∙ append_assoc G (y ∷ []) (drop (suc k) W));
        }

  pub going_end : {m : ℕ} → i ≡ m → (c ≡ all_followed from (take m W)) × (k ≡ length (all_hops from (take m W))) × (k ≤ m) × (take k Y ≡ all_hops from (take m W))
  going_end {m} e = (
    g.carried ∙ ap (λ (j : ℕ). all_followed from (take j W)) e,
    g.count ∙ ap (λ (j : ℕ). length (all_hops from (take j W))) e,
    omega (arith, g.few, e),
    ap (take k) g.front ∙ take_at (all_hops from (take i W)) (drop k W) k (sym g.count) ∙ ap (λ (j : ℕ). all_hops from (take j W)) e,
  )
