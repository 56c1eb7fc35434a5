-- The nodes above the leaves are played from the last to the first. Assumes nothing.
use mathlib.Core.Path.{◌≡◌, refl, sym, ap, subst, ◌∙◌}
use mathlib.Core.Logic.{◌⊎◌, ⊎_elim}
use mathlib.Core.List.{List}
use Prim.Native.Nat.{ℕ, ◌-◌, ◌+◌, ◌*◌, ◌<◌, ◌≤◌}
use native.Mathlib.Omega.{arith}
use native.Mathlib.Decide.{ℕ_discrete}
use lib.ListN.{length, set}
use lib.Seq.{get_or-set_same, get_or-set_other}
use Rattle.table_bytes.specs.Columns.{Cols, cols, set_t, at}
use Rattle.table_bytes.proofs.Access.{sized}
use Rattle.table_tree.specs.Tree.{Anc, self, Ok, Win, Wins, Kept, Leaves}
use Rattle.table_tree.proofs.TreeLaws.{anc-even, anc-odd}

-- the nodes from p on are played
pub record Built (cap p : ℕ) (W T : List ℕ) : Type 0 where
  pub leaf : (i : ℕ) → i < cap → at T (cap + i) ≡ i
  pub low : (q : ℕ) → p ≤ q → q < 2 * cap → at T q < cap
  pub under : (q : ℕ) → p ≤ q → q < 2 * cap → Anc q (cap + at T q)
  pub ok : (q : ℕ) → p ≤ q → q < cap → Ok W T q

built-leaves : (cap : ℕ) (W T : List ℕ) → Leaves cap cap T → Built cap cap W T
built-leaves cap W T f = record {
  leaf = f;
  low = λ q h l. let e = at_leaf q h l in omega arith;
  under = λ q h l. let e = at_leaf q h l in let z : q ≡ cap + at T q = omega arith in subst (Anc q) z self;
  ok = λ q h l. absurd (omega arith);
}
  where
    at_leaf : (q : ℕ) → cap ≤ q → q < 2 * cap → at T q ≡ q - cap
    at_leaf q h l = let z : q ≡ cap + (q - cap) = omega arith in ap (at T) z ∙ f (q - cap) (omega arith)

pub either-low : {x y z n : ℕ} → (z ≡ x) ⊎ (z ≡ y) → x < n → y < n → z < n
either-low o hx hy = ⊎_elim (λ e. rw e hx) (λ e. rw e hy) o

-- node p gets the winner x of the two below it
module _ (cap p : ℕ) (W T : List ℕ) (x : ℕ) (len : 2 * cap ≤ length T) (pos : 1 ≤ p) (l : p < cap) (w : Wins W (at T (2 * p)) (at T (2 * p + 1)) x) (v : Built cap (p + 1) W T) where
  here : at (set T p x) p ≡ x
  here = get_or-set_same T p x 0 (omega arith)

  other : (q : ℕ) → p < q → at (set T p x) q ≡ at T q
  other q h = get_or-set_other T p q x 0 (λ z. absurd (omega arith))

  low-here : x < cap
  low-here = either-low w.2 (v.low (2 * p) (omega arith) (omega arith)) (v.low (2 * p + 1) (omega arith) (omega arith))

  under-here : Anc p (cap + x)
  under-here = ⊎_elim (λ e. rw e (anc-even p (v.under (2 * p) (omega arith) (omega arith)))) (λ e. rw e (anc-odd p (v.under (2 * p + 1) (omega arith) (omega arith)))) w.2

  lowq : (q : ℕ) → p ≤ q → q < 2 * cap → Dec (q ≡ p) → at (set T p x) q < cap
  lowq q h k (yes z) = rw (z, here) low-here
  lowq q h k (no ne) = rw (other q (omega arith)) (v.low q (omega arith) k)

  underq : (q : ℕ) → p ≤ q → q < 2 * cap → Dec (q ≡ p) → Anc q (cap + at (set T p x) q)
  underq q h k (yes z) = rw (z, here) under-here
  underq q h k (no ne) = rw (other q (omega arith)) (v.under q (omega arith) k)

  okq : (q : ℕ) → p ≤ q → q < cap → Dec (q ≡ p) → Ok W (set T p x) q
  okq q h k (yes z) = rw (z, here, other (2 * p) (omega arith), other (2 * p + 1) (omega arith)) w
  okq q h k (no ne) = rw (other q (omega arith), other (2 * q) (omega arith), other (2 * q + 1) (omega arith)) (v.ok q (omega arith) k)

  built-more : Built cap p W (set T p x)
  built-more = record {
    leaf = λ i h. other (cap + i) (omega arith) ∙ v.leaf i h;
    low = λ q h k. lowq q h k (ℕ_discrete q p);
    under = λ q h k. underq q h k (ℕ_discrete q p);
    ok = λ q h k. okq q h k (ℕ_discrete q p);
  }

-- the loop: all but the tree is as in c, and the nodes from p on are played
pub record Building (r cap : ℕ) (c : Cols) (b : List ℕ) (p : ℕ) : Type 0 where
  pub len : length b ≡ 16 * r
  pub low : p ≤ cap
  pub pos : 0 < cap → 1 ≤ p
  pub kept : Kept c (cols r b)
  pub built : Built cap p (cols r b).w (cols r b).t

pub build-start : {r cap : ℕ} {b : List ℕ} → length b ≡ 16 * r → Leaves cap cap (cols r b).t → Building r cap (cols r b) b cap
build-start {r} {cap} {b} e f = record {
  len = e;
  low = omega arith;
  pos = λ h. h;
  kept = record { w = refl; h = refl; n = refl };
  built = built-leaves cap (cols r b).w (cols r b).t f;
}

pub build-low : {r cap p x : ℕ} {c : Cols} {b : List ℕ} → Building r cap c b p → (q : ℕ) → p ≤ q → q < 2 * cap → x ≡ at (cols r b).t q → x < cap
build-low v q h l e = rw e (v.built.low q h l)

pub build-step : {r cap p x y z : ℕ} {c : Cols} {b b' : List ℕ} → cap ≤ r → Building r cap c b p → 1 < p → x ≡ at (cols r b).t (2 * (p - 1)) → y ≡ at (cols r b).t (2 * (p - 1) + 1)
    → Wins (cols r b).w x y z → length b' ≡ length b → cols r b' ≡ set_t (cols r b) (p - 1) z → Building r cap c b' (p - 1)
build-step {r} {cap} {p} {x} {y} {z} {c} {b} fit v h ex ey w el ec =
    let one : p ≡ (p - 1) + 1 = omega arith in
    record {
      len = el ∙ v.len;
      low = omega (arith, v.low);
      pos = λ q. omega arith;
      kept = record { w = ap (λ (k : Cols). k.w) ec ∙ v.kept.w; h = ap (λ (k : Cols). k.h) ec ∙ v.kept.h; n = ap (λ (k : Cols). k.n) ec ∙ v.kept.n };
      built = subst (λ (k : Cols). Built cap (p - 1) k.w k.t) (sym ec)
          (built-more cap (p - 1) (cols r b).w (cols r b).t z (omega (arith, (sized r b).t)) (omega arith) (omega (arith, v.low))
          (rw (sym ex, sym ey) w)
          (subst (λ (k : ℕ). Built cap k (cols r b).w (cols r b).t) one v.built));
    }

pub build-end : {r cap p : ℕ} {c : Cols} {b : List ℕ} → Building r cap c b p → p ≤ 1 → Win cap (cols r b).w (cols r b).t
build-end v h = record {
  shape = record { leaf = v.built.leaf; low = λ q a l. v.built.low q (omega arith) l; under = λ q a l. v.built.under q (omega arith) l };
  ok = λ q a l. v.built.ok q (omega arith) l;
}
