-- The winners above a leaf are played again. On the way up, all nodes that are not above node p are in order.
use mathlib.Core.Path.{◌≡◌, refl, sym, ap, subst, ◌∙◌}
use mathlib.Core.Logic.{◌⊎◌, inl, inr}
use mathlib.Core.List.{List}
use Prim.Native.Nat.{ℕ, ◌+◌, ◌*◌, ◌/◌, ◌%◌, ◌<◌, ◌≤◌}
use native.Mathlib.Omega.{arith}
use native.Mathlib.Decide.{ℕ_discrete}
use lib.Bits.{bit_xor}
use lib.ListN.{length, set}
use lib.Seq.{get_or-set_same}
use Rattle.table_bytes.specs.Columns.{Cols, cols, set_t, at}
use Rattle.table_bytes.proofs.Access.{col-length}
use Rattle.table_tree.specs.Words.{key}
use Rattle.table_tree.specs.Tree.{Shape, Win, Kept}
use Rattle.table_tree.proofs.TreeLaws.{key-mono, Above, Wins, climb-shape, climb-ok, sib, dent, anc-le}

-- on the way from a leaf to the root, at p, whose winner is cur with the word ck
pub record Climbing (r cap : ℕ) (c : Cols) (b : List ℕ) (p cur ck : ℕ) : Type 0 where
  pub len : length b ≡ 16 * r
  pub kept : Kept c (cols r b)
  pub shape : Shape cap (cols r b).t
  pub above : Above cap (cols r b).w (cols r b).t p
  pub pos : 1 ≤ p
  pub in2 : p < 2 * cap
  pub top : cur ≡ at (cols r b).t p
  pub word : ck ≡ at (cols r b).w cur

pub climb-start : {r cap i x : ℕ} {W T b : List ℕ} → length b ≡ 16 * r → i < cap → cap ≤ length W → Win cap W T
    → (cols r b).w ≡ set W i x → (cols r b).t ≡ T → Climbing r cap (cols r b) b (cap + i) i x
climb-start {cap = cap} {i = i} {x = x} {W = W} {T = T} e l len w ew et = record {
  len = e;
  kept = record { w = refl; h = refl; n = refl };
  shape = rw et w.shape;
  above = rw (ew, et) (dent cap W T i x w);
  pos = omega arith;
  in2 = omega arith;
  top = rw et (sym (w.shape.leaf i l));
  word = rw ew (sym (get_or-set_same W i x 0 (omega arith)));
}

-- the winner of cur at p and s at p's sibling
wins : (W T : List ℕ) (p cur s x : ℕ) → 1 < p → cur ≡ at T p → s ≡ at T (bit_xor p 1) → (x ≡ cur) ⊎ (x ≡ s) → key (at W x) ≤ key (at W cur) → key (at W x) ≤ key (at W s) → Wins W T (p / 2) x
wins W T p cur s x h ec es ex kc ks = go (ℕ_discrete (p % 2) 0)
  where
    go : Dec (p % 2 ≡ 0) → Wins W T (p / 2) x
    go (yes e) =
        let e0 : p ≡ 2 * (p / 2) = omega arith in
        let e1 : bit_xor p 1 ≡ 2 * (p / 2) + 1 = omega (arith, sib p) in
        let c0 : cur ≡ at T (2 * (p / 2)) = ec ∙ ap (at T) e0 in
        let c1 : s ≡ at T (2 * (p / 2) + 1) = es ∙ ap (at T) e1 in
        record { one = side ex c0 c1; l = rw c0 at kc; r = rw c1 at ks }
      where
        side : (x ≡ cur) ⊎ (x ≡ s) → cur ≡ at T (2 * (p / 2)) → s ≡ at T (2 * (p / 2) + 1) → (x ≡ at T (2 * (p / 2))) ⊎ (x ≡ at T (2 * (p / 2) + 1))
        side (inl a) c0 c1 = inl (a ∙ c0)
        side (inr a) c0 c1 = inr (a ∙ c1)
    go (no ne) =
        let e0 : p ≡ 2 * (p / 2) + 1 = omega arith in
        let e1 : bit_xor p 1 ≡ 2 * (p / 2) = omega (arith, sib p) in
        let c0 : cur ≡ at T (2 * (p / 2) + 1) = ec ∙ ap (at T) e0 in
        let c1 : s ≡ at T (2 * (p / 2)) = es ∙ ap (at T) e1 in
        record { one = side ex c0 c1; l = rw c1 at ks; r = rw c0 at kc }
      where
        side : (x ≡ cur) ⊎ (x ≡ s) → cur ≡ at T (2 * (p / 2) + 1) → s ≡ at T (2 * (p / 2)) → (x ≡ at T (2 * (p / 2))) ⊎ (x ≡ at T (2 * (p / 2) + 1))
        side (inl a) c0 c1 = inr (a ∙ c0)
        side (inr a) c0 c1 = inl (a ∙ c1)

pub climb-step : {r cap p cur ck s k x y : ℕ} {c : Cols} {b b' : List ℕ} → cap ≤ r → Climbing r cap c b p cur ck → 1 < p
    → s ≡ at (cols r b).t (bit_xor p 1) → k ≡ at (cols r b).w s
    → ((k < ck) × (x ≡ s) × (y ≡ k)) ⊎ ((ck ≤ k) × (x ≡ cur) × (y ≡ ck))
    → length b' ≡ length b → cols r b' ≡ set_t (cols r b) (p / 2) x → Climbing r cap c b' (p / 2) x y
climb-step {r} {cap} {p} {cur} {ck} {s} {k} {x} {y} {c} {b} {b'} room v h es ek came el e =
    let T = (cols r b).t in
    let W = (cols r b).w in
    let le : 2 * cap ≤ length T = rw (col-length 2 (2 * r) b (8 * r)) (omega arith) in
    let w = wins W T p cur s x h v.top es (one came) (kc came) (ks came) in
    let ew : (cols r b').w ≡ W = ap (λ (z : Cols). z.w) e in
    let et : (cols r b').t ≡ set T (p / 2) x = ap (λ (z : Cols). z.t) e in
    let pos : 1 ≤ p / 2 = omega arith in
    let in1 : p / 2 < cap = omega (arith, v.in2) in
    record {
      len = el ∙ v.len;
      kept = record { w = ew ∙ v.kept.w; h = ap (λ (z : Cols). z.h) e ∙ v.kept.h; n = ap (λ (z : Cols). z.n) e ∙ v.kept.n };
      shape = subst (Shape cap) (sym et) (climb-shape cap W T (p / 2) x v.shape le pos in1 w);
      above = subst (λ (z : Cols). Above cap z.w z.t (p / 2)) (sym e) (climb-ok cap W T (p / 2) x v.shape le pos in1 w p refl v.above);
      pos = pos;
      in2 = omega arith;
      top = sym (ap (λ (z : List ℕ). at z (p / 2)) et ∙ get_or-set_same T (p / 2) x 0 (omega arith));
      word = yw came ∙ sym (ap (λ (z : List ℕ). at z x) ew);
    }
  where
    Came : Type 0
    Came = ((k < ck) × (x ≡ s) × (y ≡ k)) ⊎ ((ck ≤ k) × (x ≡ cur) × (y ≡ ck))

    one : Came → (x ≡ cur) ⊎ (x ≡ s)
    one (inl a) = inr a.1
    one (inr a) = inl a.1

    kc : Came → key (at (cols r b).w x) ≤ key (at (cols r b).w cur)
    kc (inl a) = rw (a.1, ← ek, ← v.word) (key-mono k ck (omega arith))
    kc (inr a) = rw a.1 (omega arith)

    ks : Came → key (at (cols r b).w x) ≤ key (at (cols r b).w s)
    ks (inl a) = rw a.1 (omega arith)
    ks (inr a) = rw (a.1, ← ek, ← v.word) (key-mono ck k (omega arith))

    yw : Came → y ≡ at (cols r b).w x
    yw (inl a) = a.2 ∙ ek ∙ ap (at (cols r b).w) (sym a.1)
    yw (inr a) = a.2 ∙ v.word ∙ ap (at (cols r b).w) (sym a.1)

pub climb-end : {r cap p cur ck : ℕ} {c : Cols} {b : List ℕ} → Climbing r cap c b p cur ck → p ≤ 1 → Win cap (cols r b).w (cols r b).t
climb-end v h = record { shape = v.shape; ok = λ q a l. v.above q a l (λ n. absurd (omega (arith, anc-le q n))) }

-- the sibling of p is a node, and its winner a slot
pub climb-sib : {r cap p cur ck : ℕ} {c : Cols} {b : List ℕ} → cap ≤ r → Climbing r cap c b p cur ck → 1 < p → bit_xor p 1 < 2 * r
climb-sib {p = p} fit v h = omega (arith, sib p, v.in2)

pub climb-low : {r cap p cur ck s : ℕ} {c : Cols} {b : List ℕ} → Climbing r cap c b p cur ck → 1 < p → s ≡ at (cols r b).t (bit_xor p 1) → s < cap
climb-low {p = p} v h e = rw e (v.shape.low (bit_xor p 1) (omega (arith, sib p)) (omega (arith, sib p, v.in2)))

pub climb-cur : {r cap p cur ck : ℕ} {c : Cols} {b : List ℕ} → Climbing r cap c b p cur ck → cur < cap
climb-cur {p = p} v = rw v.top (v.shape.low p v.pos v.in2)
