-- The winner tree: ancestors, the root's word, and what a new word or a new winner at one node leaves in order.
use mathlib.Core.Path.{◌≡◌, refl, sym, ap, ap₂, subst, ◌∙◌}
use mathlib.Core.Logic.{◌≢◌, ◌⊎◌, inl, inr}
use mathlib.Core.List.{List}
use Prim.Native.Nat.{ℕ, zero, suc, ◌-◌, ◌+◌, ◌*◌, ◌/◌, ◌%◌, ◌<◌, ◌≤◌}
use native.Mathlib.Nat.{le_trans}
use native.Mathlib.Omega.{arith}
use native.Mathlib.Decide.{dec_lt, ℕ_discrete}
use lib.Bits.{bit_xor, xor_step, xor_zero_r, differ}
use lib.ListN.{length, set}
use lib.Seq.{get_or-set_same, get_or-set_other}
use Rattle.table_bytes.specs.Columns.{at}
use Rattle.table_tree.specs.Words.{key}
use Rattle.table_tree.specs.Tree.{Anc, self, up, Shape, Ok, Win}

pub key-mono : (a b : ℕ) → a ≤ b → key a ≤ key b
unfolding key
key-mono a b h = omega arith

pub anc-even : (a : ℕ) {m : ℕ} → Anc (2 * a) m → Anc a m
anc-even a self = up (subst (Anc a) (half a) self)
  where
    half : (x : ℕ) → x ≡ 2 * x / 2
    half x = omega arith
anc-even a (up h) = up (anc-even a h)

pub anc-odd : (a : ℕ) {m : ℕ} → Anc (2 * a + 1) m → Anc a m
anc-odd a self = up (subst (Anc a) (half a) self)
  where
    half : (x : ℕ) → x ≡ (2 * x + 1) / 2
    half x = omega arith
anc-odd a (up h) = up (anc-odd a h)

pub anc-proper : (q : ℕ) {m : ℕ} → Anc q m → q < m → Anc q (m / 2)
anc-proper q self l = absurd (omega arith)
anc-proper q (up h) l = h

-- in order, but for the nodes above p
abbrev pub Above : ℕ → List ℕ → List ℕ → ℕ → Type 0
Above cap W T p = (q : ℕ) → 1 ≤ q → q < cap → (Anc q (p / 2) → ⊥) → Ok W T q

-- the root's word is least
pub least-node : (cap : ℕ) (W T : List ℕ) → Win cap W T → (n q : ℕ) → q ≤ n → 1 ≤ q → q < 2 * cap → key (at W (at T 1)) ≤ key (at W (at T q))
least-node cap W T w zero q le h l = absurd (omega arith)
least-node cap W T w (suc n) q le h l = go (ℕ_discrete q 1) (λ p m. least-node cap W T w n (q / 2) p m (omega arith))
  where
    a : ℕ
    a = q / 2

    side : Dec (q ≡ 2 * (q / 2)) → 1 ≤ q / 2 → key (at W (at T (q / 2))) ≤ key (at W (at T q))
    side (yes e) p = subst (λ (z : ℕ). key (at W (at T (q / 2))) ≤ key (at W (at T z))) (sym e) (w.ok (q / 2) p (omega arith)).0
    side (no ne) p =
        let e : 2 * (q / 2) + 1 ≡ q = omega arith in
        subst (λ (z : ℕ). key (at W (at T (q / 2))) ≤ key (at W (at T z))) e (w.ok (q / 2) p (omega arith)).1

    go : Dec (q ≡ 1) → (q / 2 ≤ n → 1 ≤ q / 2 → key (at W (at T 1)) ≤ key (at W (at T (q / 2)))) → key (at W (at T 1)) ≤ key (at W (at T q))
    go (yes e) ih = rw e (omega arith)
    go (no ne) ih =
        let p : 1 ≤ q / 2 = omega arith in
        le_trans (ih (omega arith) p) (side (ℕ_discrete q (2 * (q / 2))) p)

pub least : (cap : ℕ) (W T : List ℕ) → Win cap W T → (i : ℕ) → i < cap → key (at W (at T 1)) ≤ key (at W i)
least cap W T w i h = subst (λ (z : ℕ). key (at W (at T 1)) ≤ key (at W z)) (w.shape.leaf i h) (least-node cap W T w (cap + i) (cap + i) (omega arith) (omega arith) (omega arith))

-- another word at i: only the nodes above its leaf can be out of order
pub dent : (cap : ℕ) (W T : List ℕ) (i x : ℕ) → Win cap W T → Above cap (set W i x) T (cap + i)
dent cap W T i x w q p l away =
    let s = w.shape in
    let o = w.ok q p l in
    let e0 = get_or-set_other W i (at T q) x 0 (λ e. away (anc-proper q (subst (λ (z : ℕ). Anc q (cap + z)) e (s.under q p (omega arith))) (omega arith))) in
    let e1 = get_or-set_other W i (at T (2 * q)) x 0 (λ e. away (anc-proper q (subst (λ (z : ℕ). Anc q (cap + z)) e (anc-even q (s.under (2 * q) (omega arith) (omega arith)))) (omega arith))) in
    let e2 = get_or-set_other W i (at T (2 * q + 1)) x 0 (λ e. away (anc-proper q (subst (λ (z : ℕ). Anc q (cap + z)) e (anc-odd q (s.under (2 * q + 1) (omega arith) (omega arith)))) (omega arith))) in
    (rw (e0, e1) o.0, rw (e0, e2) o.1, o.2)

-- a word with the same key: nothing is out of order
pub same_key : (cap : ℕ) (W T : List ℕ) (i x : ℕ) → i < length W → key x ≡ key (at W i) → Win cap W T → Win cap (set W i x) T
same_key cap W T i x l e w = record { shape = w.shape; ok = λ q p h. let o = w.ok q p h in (rw (k (at T q), k (at T (2 * q))) o.0, rw (k (at T q), k (at T (2 * q + 1))) o.1, o.2) }
  where
    go : (j : ℕ) → Dec (j ≡ i) → key (at (set W i x) j) ≡ key (at W j)
    go j (yes q) = rw q (ap key (get_or-set_same W i x 0 l) ∙ e)
    go j (no q) = ap key (get_or-set_other W i j x 0 q)

    k : (j : ℕ) → key (at (set W i x) j) ≡ key (at W j)
    k j = go j (ℕ_discrete j i)

-- the winner x of the two below a
pub record Wins (W T : List ℕ) (a x : ℕ) : Type 0 where
  pub one : (x ≡ at T (2 * a)) ⊎ (x ≡ at T (2 * a + 1))
  pub l : key (at W x) ≤ key (at W (at T (2 * a)))
  pub r : key (at W x) ≤ key (at W (at T (2 * a + 1)))

module _ (cap : ℕ) (W T : List ℕ) (a x : ℕ) (s : Shape cap T) (len : 2 * cap ≤ length T) (p : 1 ≤ a) (l : a < cap) (w : Wins W T a x) where
  here : at (set T a x) a ≡ x
  here = get_or-set_same T a x 0 (omega arith)

  there : (q : ℕ) → q ≢ a → at (set T a x) q ≡ at T q
  there q ne = get_or-set_other T a q x 0 ne

  x-low : (x ≡ at T (2 * a)) ⊎ (x ≡ at T (2 * a + 1)) → x < cap
  x-low (inl e) = rw e (s.low (2 * a) (omega arith) (omega arith))
  x-low (inr e) = rw e (s.low (2 * a + 1) (omega arith) (omega arith))

  x-under : (x ≡ at T (2 * a)) ⊎ (x ≡ at T (2 * a + 1)) → Anc a (cap + x)
  x-under (inl e) = rw e (anc-even a (s.under (2 * a) (omega arith) (omega arith)))
  x-under (inr e) = rw e (anc-odd a (s.under (2 * a + 1) (omega arith) (omega arith)))

  pub climb-shape : Shape cap (set T a x)
  climb-shape = record {
    leaf = λ i h. there (cap + i) (λ e. absurd (omega arith)) ∙ s.leaf i h;
    low = λ q h k. lowq q h k (ℕ_discrete q a);
    under = λ q h k. underq q h k (ℕ_discrete q a);
  }
    where
      lowq : (q : ℕ) → 1 ≤ q → q < 2 * cap → Dec (q ≡ a) → at (set T a x) q < cap
      lowq q h k (yes e) = rw (e, here) (x-low w.one)
      lowq q h k (no ne) = rw (there q ne) (s.low q h k)

      underq : (q : ℕ) → 1 ≤ q → q < 2 * cap → Dec (q ≡ a) → Anc q (cap + at (set T a x) q)
      underq q h k (yes e) = rw (e, here) (x-under w.one)
      underq q h k (no ne) = rw (there q ne) (s.under q h k)

  anc-step : {q : ℕ} → Anc q a → q ≢ a → Anc q (a / 2)
  anc-step self ne = absurd (ne refl)
  anc-step (up h) ne = h

  pub climb-ok : (b : ℕ) → b / 2 ≡ a → Above cap W T b → Above cap W (set T a x) a
  climb-ok b e f q h k away = go (ℕ_discrete q a)
    where
      go : Dec (q ≡ a) → Ok W (set T a x) q
      go (yes e') =
          let e0 : at (set T a x) q ≡ x = rw e' here in
          rw (e0, there (2 * q) (λ z. absurd (omega arith)), there (2 * q + 1) (λ z. absurd (omega arith)), e') (w.l, w.r, w.one)
      go (no ne) =
          rw (there q ne, there (2 * q) (λ z. away (subst (Anc q) (ev z) self)), there (2 * q + 1) (λ z. away (subst (Anc q) (od z) self)))
          (f q h k (λ an. away (anc-step (subst (Anc q) e an) ne)))
        where
          ev : 2 * q ≡ a → q ≡ a / 2
          ev z = omega arith

          od : 2 * q + 1 ≡ a → q ≡ a / 2
          od z = omega arith

-- the sibling
pub sib : (p : ℕ) → bit_xor p 1 ≡ p / 2 * 2 + (1 - p % 2)
sib p = xor_step p 1 ∙ ap₂ (λ (x y : ℕ). x * 2 + y) (xor_zero_r (p / 2)) (go (p % 2) (omega arith))
  where
    go : (d : ℕ) → d < 2 → differ d 1 ≡ 1 - d
    go zero h = refl
    go (suc zero) h = refl
    go (suc (suc d)) h = absurd (omega arith)

-- two siblings do not stand above one node
pub anc-le : (q : ℕ) {m : ℕ} → Anc q m → q ≤ m
anc-le q self = omega arith
anc-le q (up h) = omega (arith, anc-le q h)

pub anc-two : (a : ℕ) {m : ℕ} → 1 ≤ a → Anc (2 * a) m → Anc (2 * a + 1) m → ⊥
anc-two a p x y = go a p x (2 * a + 1) refl y
  where
    go : (a : ℕ) {m : ℕ} → 1 ≤ a → Anc (2 * a) m → (b : ℕ) → b ≡ 2 * a + 1 → Anc b m → ⊥
    go a p self b e y = low b e y refl
      where
        low : (b : ℕ) {m : ℕ} → b ≡ 2 * a + 1 → Anc b m → m ≡ 2 * a → ⊥
        low b e y z = omega (arith, anc-le b y)
    go a p (up h) b e self = omega (arith, anc-le (2 * a) h)
    go a p (up h) b e (up y) = go a p h b e y

pub anc-half : (c : ℕ) {m : ℕ} → Anc c m → Anc (c / 2) m
anc-half c {m = m} x = go (ℕ_discrete (c % 2) 0)
  where
    go : Dec (c % 2 ≡ 0) → Anc (c / 2) m
    go (yes e) = let z : c ≡ 2 * (c / 2) = omega arith in anc-even (c / 2) (subst (λ (y : ℕ). Anc y m) z x)
    go (no e) = let z : c ≡ 2 * (c / 2) + 1 = omega arith in anc-odd (c / 2) (subst (λ (y : ℕ). Anc y m) z x)

anc-dec : (n q m : ℕ) → 1 ≤ q → m ≤ n → Dec (Anc q m)
anc-dec zero q m h l = no (λ x. absurd (omega (arith, anc-le q x)))
anc-dec (suc n) q m h l = go (ℕ_discrete q m) (dec_lt q m) (λ k. anc-dec n q (m / 2) h k)
  where
    up_or : q < m → Dec (Anc q (m / 2)) → Dec (Anc q m)
    up_or k (yes x) = yes (up x)
    up_or k (no x) = no (λ y. x (anc-proper q y k))

    go : Dec (q ≡ m) → Dec (q < m) → (m / 2 ≤ n → Dec (Anc q (m / 2))) → Dec (Anc q m)
    go (yes e) d f = yes (subst (Anc q) e self)
    go (no e) (yes k) f = up_or k (f (omega arith))
    go (no e) (no k) f = no (λ x. absurd (omega (arith, anc-le q x)))

-- the nodes above a that i does not win: none of their children is won by i
pub record Rest (cap : ℕ) (W T : List ℕ) (i a : ℕ) : Type 0 where
  pub ok : (q : ℕ) → 1 ≤ q → q < cap → Anc q (a / 2) → at T q ≢ i → at T (2 * q) ≢ i → at T (2 * q + 1) ≢ i → Ok W T q
  pub one : (q : ℕ) → 1 ≤ q → q < cap → Anc q (a / 2) → (at T q ≡ at T (2 * q)) ⊎ (at T q ≡ at T (2 * q + 1))

-- before anything is played
pub rest-start : (cap : ℕ) (W T : List ℕ) (i x a : ℕ) → Win cap W T → Rest cap (set W i x) T i a
rest-start cap W T i x a w = record {
  ok = λ q p l n e0 e1 e2. let o = w.ok q p l in
      let f0 = get_or-set_other W i (at T q) x 0 e0 in
      let f1 = get_or-set_other W i (at T (2 * q)) x 0 e1 in
      let f2 = get_or-set_other W i (at T (2 * q + 1)) x 0 e2 in
      (rw (f0, f1) o.0, rw (f0, f2) o.1, o.2);
  one = λ q p l n. (w.ok q p l).2;
}

-- a store at a leaves the nodes above a/2
pub rest_up : (cap : ℕ) (W T : List ℕ) (i a x : ℕ) → 1 ≤ a → Rest cap W T i a → Rest cap W (set T a x) i (a / 2)
rest_up cap W T i a x p r = record {
  ok = λ q h l n. let e = ne q h n in rw (e.0, e.1, e.2) (r.ok q h l (up n));
  one = λ q h l n. let e = ne q h n in rw (e.0, e.1, e.2) (r.one q h l (up n));
}
  where
    ne : (q : ℕ) → 1 ≤ q → Anc q (a / 2 / 2) → (at (set T a x) q ≡ at T q) × (at (set T a x) (2 * q) ≡ at T (2 * q)) × (at (set T a x) (2 * q + 1) ≡ at T (2 * q + 1))
    ne q h n = let k = anc-le q n in
        (get_or-set_other T a q x 0 (λ z. absurd (omega arith)), get_or-set_other T a (2 * q) x 0 (λ z. absurd (omega arith)), get_or-set_other T a (2 * q + 1) x 0 (λ z. absurd (omega arith)))

-- i does not win at a, which is above its leaf: it wins nowhere above, and all is in order
module _ (cap : ℕ) (W T : List ℕ) (i a : ℕ) (s : Shape cap T) (r : Rest cap W T i a) (p : 1 ≤ a) (l : a < cap) (an : Anc a (cap + i)) (ne : at T a ≢ i) where
  anc-trans : {q m : ℕ} → Anc q a → Anc a m → Anc q m
  anc-trans x self = x
  anc-trans x (up y) = up (anc-trans x y)

  -- of the children of q, which is above the leaf, the one that is above it too
  off : (q c d : ℕ) → 1 ≤ q → q < cap → ((c ≡ 2 * q) × (d ≡ 2 * q + 1)) ⊎ ((c ≡ 2 * q + 1) × (d ≡ 2 * q)) → Anc c (cap + i) → at T d ≢ i
  off q c d h k (inl e) x z = anc-two q h (subst (λ (y : ℕ). Anc y (cap + i)) e.0 x) (subst (λ (y : ℕ). Anc y (cap + i)) e.1 (subst (λ (y : ℕ). Anc d (cap + y)) z (s.under d (omega arith) (omega arith))))
  off q c d h k (inr e) x z = anc-two q h (subst (λ (y : ℕ). Anc y (cap + i)) e.1 (subst (λ (y : ℕ). Anc d (cap + y)) z (s.under d (omega arith) (omega arith)))) (subst (λ (y : ℕ). Anc y (cap + i)) e.0 x)

  -- climbing from c, at or above a, to c/2
  step : (c : ℕ) → 1 ≤ c / 2 → c < cap → Anc c (cap + i) → Anc (c / 2) (a / 2) → at T c ≢ i → (at T (c / 2) ≢ i) × (at T (2 * (c / 2)) ≢ i) × (at T (2 * (c / 2) + 1) ≢ i)
  step c h k x n e = go (ℕ_discrete (c % 2) 0) (r.one (c / 2) h (omega arith) n)
    where
      go : Dec (c % 2 ≡ 0) → (at T (c / 2) ≡ at T (2 * (c / 2))) ⊎ (at T (c / 2) ≡ at T (2 * (c / 2) + 1)) → (at T (c / 2) ≢ i) × (at T (2 * (c / 2)) ≢ i) × (at T (2 * (c / 2) + 1) ≢ i)
      go (yes d) o =
          let ec : c ≡ 2 * (c / 2) = omega arith in
          let n0 : at T (2 * (c / 2)) ≢ i = subst (λ (y : ℕ). at T y ≢ i) ec e in
          let n1 : at T (2 * (c / 2) + 1) ≢ i = off (c / 2) c (2 * (c / 2) + 1) h (omega arith) (inl (ec, refl)) x in
          (fin o n0 n1, n0, n1)
        where
          fin : (at T (c / 2) ≡ at T (2 * (c / 2))) ⊎ (at T (c / 2) ≡ at T (2 * (c / 2) + 1)) → at T (2 * (c / 2)) ≢ i → at T (2 * (c / 2) + 1) ≢ i → at T (c / 2) ≢ i
          fin (inl z) n0 n1 y = n0 (sym z ∙ y)
          fin (inr z) n0 n1 y = n1 (sym z ∙ y)
      go (no d) o =
          let ec : c ≡ 2 * (c / 2) + 1 = omega arith in
          let n1 : at T (2 * (c / 2) + 1) ≢ i = subst (λ (y : ℕ). at T y ≢ i) ec e in
          let n0 : at T (2 * (c / 2)) ≢ i = off (c / 2) c (2 * (c / 2)) h (omega arith) (inr (ec, refl)) x in
          (fin o n0 n1, n0, n1)
        where
          fin : (at T (c / 2) ≡ at T (2 * (c / 2))) ⊎ (at T (c / 2) ≡ at T (2 * (c / 2) + 1)) → at T (2 * (c / 2)) ≢ i → at T (2 * (c / 2) + 1) ≢ i → at T (c / 2) ≢ i
          fin (inl z) n0 n1 y = n0 (sym z ∙ y)
          fin (inr z) n0 n1 y = n1 (sym z ∙ y)

  climb : (q c : ℕ) {m : ℕ} → Anc q m → m ≡ c / 2 → 1 ≤ q → c < cap → Anc c (cap + i) → Anc (c / 2) (a / 2) → at T c ≢ i → (at T q ≢ i) × (at T (2 * q) ≢ i) × (at T (2 * q + 1) ≢ i)
  climb q c self e h k x n ni = rw e (step c (omega arith) k x n ni)
  climb q c (up {p = m} y) e h k x n ni =
      let le = anc-le q y in
      let st = step c (omega arith) k x n ni in
      climb q m y refl h (omega arith) (rw e (anc-half c x)) (rw e (anc-half (c / 2) n)) (rw e st.0)

  pub stop : Above cap W T a → Win cap W T
  stop f = record { shape = s; ok = λ q h k. go q h k (anc-dec (a / 2) q (a / 2) h (omega arith)) }
    where
      go : (q : ℕ) → 1 ≤ q → q < cap → Dec (Anc q (a / 2)) → Ok W T q
      go q h k (yes n) = let t = climb q a n refl h l an self ne in r.ok q h k n t.0 t.1 t.2
      go q h k (no n) = f q h k n
