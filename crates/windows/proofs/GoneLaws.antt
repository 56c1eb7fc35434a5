-- Records behind records, and one window behind the other. Assumes nothing.
use mathlib.Core.Path.{◌≡◌, refl, sym, ap, ap₂, subst, ◌∙◌}
use mathlib.Core.Logic.{◌⊎◌, inl, inr, ⊎_elim}
use mathlib.Core.List.{List, [], ◌∷◌, ◌++◌, append_assoc, append-nil}
use Prim.Native.Nat.{ℕ, zero, suc, ◌+◌, ◌-◌, ◌*◌, ◌/◌, ◌%◌, ◌<◌, ◌≤◌, ◌^◌}
use native.Mathlib.Omega.{arith}
use native.Mathlib.Numerals.{add-one}
use lib.ListN.{length, get_or, take, drop, set, length-append, length-drop}
use lib.Seq.{take-suc-set, take_at, length-take-le, get_or-append-add}
use borrow.Rule.Slice.PartMut.{mid_of, put_mid, post_of, take_put}
use Rattle.table_bytes.specs.Columns.{at, dec, col}
use Rattle.table_bytes.proofs.Access.{dec-ext}
use Rattle.sorting.specs.Sorted.{recs, sorted, Ascending}
use Rattle.sorting.proofs.Digits.{fields}
use Rattle.departures.proofs.SliceLaws.{recs-front, recs-take}
use Rattle.carry.specs.declared.Item.{Item}
use Rattle.carry.specs.declared.Carry.{Carry}
use Rattle.carry.specs.Carried.{item_of, start, all_followed, all_hops}
use Rattle.carry.proofs.Folds.{take_more, followed-append, hops-append}
use Rattle.std.specs.Prelude.{Option, Some, None, IfSome, is_some, false, true}
use Rattle.journeys.proofs.Tests.{never}
use Rattle.carry.specs.declared.Item.{Item}
use Rattle.sieve.specs.Kept.{bound, kept}
use Rattle.sieve.proofs.KeptLaws.{kept_on, kept-none, kept-all, kept-within}
use Rattle.windows.specs.declared.Run.{Run}
use Rattle.windows.specs.Gone.{Held, all, more, Gone}

-- ---- one record more
pub append-start : (k : ℕ) (W B : List ℕ) → take (k + 0) W ≡ take k W ++ take 0 B
append-start k W B = let z : k + 0 ≡ k = omega arith in ap (λ (m : ℕ). take m W) z ∙ sym (append-nil (take k W))

pub append-one : (k i : ℕ) (W Y Y' B : List ℕ) (x : Item) → take (k + i) Y ≡ take k W ++ take i B → k + i < length Y → i < length B → x ≡ item_of (at B i) → Y' ≡ set Y (k + i) (x.low + 2 ^ 64 * (x.middle + 2 ^ 64 * x.high))
    → take (k + (i + 1)) Y' ≡ take k W ++ take (i + 1) B
append-one k i W Y Y' B x e h l q u =
    let v = x.low + 2 ^ 64 * (x.middle + 2 ^ 64 * x.high) in
    let same : v ≡ at B i = ap (λ (y : Item). y.low + 2 ^ 64 * (y.middle + 2 ^ 64 * y.high)) q ∙ fields (at B i) in
    let far : k + (i + 1) ≡ suc (k + i) = omega arith in
    ap₂ (λ (m : ℕ) (r : List ℕ). take m r) far u ∙ take-suc-set Y (k + i) v h ∙ ap₂ (λ (r : List ℕ) (y : ℕ). r ++ y ∷ []) e same
    ∙ append_assoc (take k W) (take i B) (at B i ∷ [])
    ∙ ap (λ (r : List ℕ). take k W ++ r) (sym (ap (λ (m : ℕ). take m B) (add-one i) ∙ take_more B i l))

-- ---- hops that are held
pub held-still : {room k : ℕ} {W Y : List ℕ} (H G : List ℕ) → room < k → Held room k W H → Held room k Y (H ++ G)
held-still H G h (all a e) = absurd (omega (arith, a, h))
held-still H G h (more a e) = more a (omega (arith, e, length-append H G))

pub held-full : {room k m : ℕ} {W : List ℕ} (H G : List ℕ) → length W ≡ room → length G ≡ m → k ≤ room → room - k < m → Held room k W H → Held room (room + 1) W (H ++ G)
held-full {room} {k} {m} {W} H G w g h f (all a e) = more (omega arith) (let z = ap length e in let y = length-take-le k W (omega (arith, w, a)) in omega (arith, z, y, length-append H G, g, f, a))
held-full H G w g h f (more a e) = absurd (omega (arith, a, h))

pub held_more : {room k : ℕ} (m : ℕ) {W Y : List ℕ} (H G : List ℕ) → k + m ≤ room → take (k + m) Y ≡ take k W ++ G → Held room k W H → Held room (k + m) Y (H ++ G)
held_more m H G h u (all a e) = all h (u ∙ ap (λ (r : List ℕ). r ++ G) e)
held_more m H G h u (more a e) = absurd (omega (arith, a, h))

-- ---- records behind others in one slice
numbers_apart : (k m : ℕ) (b : List ℕ) (o : ℕ) → col 20 (k + m) b o ≡ col 20 k b o ++ col 20 m b (o + k * 20)
unfolding col
numbers_apart zero m b o =
    let x : 0 + m ≡ m = omega arith in
    let y : o ≡ o + 0 * 20 = omega arith in
    ap₂ (λ (n p : ℕ). col 20 n b p) x y
numbers_apart (suc k) m b o =
    let x : suc k + m ≡ suc (k + m) = omega arith in
    let y : o + 20 + k * 20 ≡ o + suc k * 20 = omega arith in
    ap (λ (n : ℕ). col 20 n b o) x ∙ ap (λ (r : List ℕ). dec 20 b o ∷ r) (numbers_apart k m b (o + 20) ∙ ap (λ (p : ℕ). col 20 k b (o + 20) ++ col 20 m b p) y)

numbers-behind : (w m : ℕ) (X z : List ℕ) (p : ℕ) → col w m (X ++ z) (length X + p) ≡ col w m z p
unfolding col
numbers-behind w zero X z p = refl
numbers-behind w (suc m) X z p =
    ap₂ (λ (x : ℕ) (r : List ℕ). x ∷ r)
    (dec-ext w (X ++ z) z (length X + p) p (λ j h. ap (λ (i : ℕ). get_or (X ++ z) i 0) (add_assoc (length X) p j) ∙ get_or-append-add X z (p + j) 0))
    (ap (col w m (X ++ z)) (add_assoc (length X) p w) ∙ numbers-behind w m X z (p + w))
  where
    add_assoc : (x y z : ℕ) → x + y + z ≡ x + (y + z)
    add_assoc x y z = omega arith

pub records-behind : (b z : List ℕ) (room k n m : ℕ) → length b ≡ 20 * room → k + n ≡ room → length z ≡ 20 * n → m ≤ n → (l : ℕ)
    → take (k + m) (recs room (put_mid (20 * k) l b z)) ≡ take k (recs room b) ++ take m (recs n z)
records-behind b z room k n m long sum e h l =
    let Y = put_mid (20 * k) l b z in
    let few : k ≤ room = omega (arith, sum) in
    let front : 20 * k ≤ length b = omega (arith, few, long) in
    let X = take (20 * k) b in
    let rest = z ++ post_of (20 * k) l b in
    let size : length X ≡ 20 * k = length-take-le (20 * k) b front in
    let place : 0 + k * 20 ≡ length X + 0 = omega (arith, size) in
    sym (recs-take (k + m) room Y (omega (arith, sum, h)))
    ∙ numbers_apart k m Y 0
    ∙ ap₂ (λ (x y : List ℕ). x ++ y)
    (sym (recs-front k k Y (omega arith)) ∙ ap (recs k) (take_put (20 * k) l b z front) ∙ recs-front k k b (omega arith) ∙ recs-take k room b few)
    (ap (col 20 m Y) place ∙ numbers-behind 20 m X rest 0 ∙ sym (recs-front m n rest h) ∙ ap (recs m) (take_at z (post_of (20 * k) l b) (20 * n) e) ∙ recs-take m n z h)

pub free-long : (b : List ℕ) (room k : ℕ) → length b ≡ 20 * room → k ≤ room → length (mid_of (20 * k) (length b - 20 * k) b) ≡ 20 * (room - k)
free-long b room k e h =
    let d = length-drop (20 * k) b in
    let few : length b - 20 * k ≤ length (drop (20 * k) b) = omega (arith, d) in
    let t = length-take-le (length b - 20 * k) (drop (20 * k) b) few in
    t ∙ omega (arith, e, h)

-- ---- bounds
least : (x : ℕ) → 0 ≤ x
least x = omega arith

between : {a x b : ℕ} → a ≤ x → x < b → a < b
between p q = omega (arith, p, q)

pub at_most : {a b : ℕ} → a < b → a ≤ b
at_most p = omega (arith, p)

under : {x y z : ℕ} → x < 2 ^ 64 → y < z → x + 2 ^ 64 * y < 0 + 2 ^ 64 * z
under p q = omega (arith, p, q)

pub low-bound : (x : Item) → x.high < 2 ^ 32 → x.middle < 2 ^ 64 → x.low < 2 ^ 64 → bound (Some x) < bound None
low-bound x h m l = last (under l (under m h))
  where
    last : {x : ℕ} → x < 0 + 2 ^ 64 * (0 + 2 ^ 64 * 2 ^ 32) → x < 2 ^ 160
    last p = omega (arith, p)

-- ---- one window more
pub gone-start : (S : List ℕ) (room : ℕ) (W : List ℕ) → Gone S room W (record { lo = Some (record { high = 0; middle = 0; low = 0 }); carry = start; hops = 0 })
unfolding all_followed all_hops
gone-start S room W =
    let e : kept 0 0 S ≡ [] = kept-none 0 0 S (λ i h. omega arith) in
    record { carried = sym (ap (all_followed start) e); hops = all (omega arith) (sym (ap (all_hops start) e)) }

module _ (S : List ℕ) (asc : Ascending S) (run next : Run) (o : bound run.lo < bound next.lo) where
  abbrev P : List ℕ
  P = kept (bound run.lo) (bound next.lo) S

  pub gone-next : {room : ℕ} {W Y : List ℕ} → next.carry ≡ all_followed run.carry P → ((H : List ℕ) → Held room run.hops W H → Held room next.hops Y (H ++ all_hops run.carry P)) → Gone S room W run → Gone S room Y next
  gone-next {room} {W} {Y} c f g =
      let a = bound run.lo in
      let e : kept 0 (bound next.lo) S ≡ kept 0 a S ++ P = sym (kept_on 0 a (bound next.lo) S asc (least a) (at_most o)) in
      record {
        carried = c ∙ ap (λ (d : Carry). all_followed d P) g.carried ∙ sym (ap (all_followed start) e ∙ followed-append start (kept 0 a S) P);
        hops = subst (Held room next.hops Y) (ap (λ (d : Carry). all_hops start (kept 0 a S) ++ all_hops d P) g.carried ∙ sym (ap (all_hops start) e ∙ hops-append start (kept 0 a S) P)) (f (all_hops start (kept 0 a S)) g.hops);
      }

-- the bound rises: a window holds a record, or it is the last one
pub bound-rises : (lo end : Option Item) (count : ℕ) (S P : List ℕ) → bound lo < bound None → P ≡ kept (bound lo) (bound end) S → length P ≡ count → (end ≡ None) ⊎ (0 < count) → bound lo < bound end
bound-rises lo end count S P h p q (inl e) = subst (λ (b : Option Item). bound lo < bound b) (sym e) h
bound-rises lo end count S P h p q (inr e) =
    let some : 0 < length P = omega (arith, e, q) in
    let w = kept-within (bound lo) (bound end) S 0 (subst (λ (r : List ℕ). 0 < length r) p some) in
    between w.0 w.1

pub less-far : {a b t : ℕ} → a < t → a < b → t - b < t - a
less-far p q = omega (arith, p, q)

pub no-bound : (o : Option Item) → is_some o ≡ false → bound None ≤ bound o
no-bound None e = omega arith
no-bound (Some x) e = never refl e

pub below-all : (o : Option Item) → is_some o ≡ true → IfSome o (λ x. (x.high < 2 ^ 32) × (x.middle < 2 ^ 64) × (x.low < 2 ^ 64)) → bound o < bound None
below-all (Some x) e f = low-bound x f.0 f.1 f.2
below-all None e f = never e refl
