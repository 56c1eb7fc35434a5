-- The layout of a table after a changed word, a new one and one that has gone.
use mathlib.Core.Path.{◌≡◌, refl, sym, ap, subst, ◌∙◌}
use mathlib.Core.Logic.{◌≢◌}
use mathlib.Core.List.{List, [], ◌∷◌}
use Prim.Native.Nat.{ℕ, ◌-◌, ◌+◌, ◌%◌, ◌<◌, ◌≤◌}
use native.Mathlib.Omega.{arith}
use native.Mathlib.Decide.{ℕ_discrete}
use lib.ListN.{length, set}
use lib.Seq.{get_or-set_same, get_or-set_other}
use Rattle.table_bytes.specs.Columns.{Cols, at, set_n, set_w, Sized}
use Rattle.table_tree.specs.Words.{vacant, vertex_in, bucket_of, key}
use Rattle.table_tree.specs.Tree.{Win, Changed}
use Rattle.table_tree.specs.Chains.{Mem, Linked}
use Rattle.table_tree.proofs.ChainLaws.{chain-other, chain-iff}
use Rattle.table_tree.proofs.TreeLaws.{same_key}
use Rattle.worktable.specs.Inside.{Outside, Vacancies, Layout}
use Rattle.worktable.specs.declared.Table.{Table}
use Rattle.worktable.proofs.WordLaws.{key-vacant}
use Rattle.worktable.proofs.LookupLaws.{Fit, set_single, set_at}

-- the numbers of a table with another top and another count of free slots
abbrev pub numbers : Table → ℕ → ℕ → Table
numbers t top free = record { slots = t.slots; room = t.room; capacity = t.capacity; mask = t.mask; top = top; free = free }

-- a word with the same key leaves the tree in order
pub same-changed : {r cap s w : ℕ} {c d : Cols} → Sized r c → s < r → key w ≡ key (at c.w s) → Win cap c.w c.t → d ≡ set_w c s w → Changed cap s w c d
same-changed {r} {cap} {s} {w} {c} sz l k win e = rw e (record { w = refl; h = refl; n = refl; win = same_key cap c.w c.t s w (omega (arith, sz.w)) k win })

-- linking leaves words and tree alone
pub linked-win : {cap m s w : ℕ} {c d : Cols} → Linked cap m s w c d → Win cap c.w c.t → Win cap d.w d.t
linked-win lk win = rw (lk.same_w, lk.same_t) win

pub linked-key : {cap m s w : ℕ} {c d : Cols} → Linked cap m s w c d → at c.w s ≡ vacant → key w ≤ key (at d.w s)
linked-key {w = w} lk e = rw (lk.same_w, e) (key-vacant w)

-- ---- the vacant slots
outside : (cap : ℕ) (W N l : List ℕ) (top s : ℕ) → Vacancies cap W N l top → at W s ≢ vacant → Outside s l
unfolding Vacancies Outside
outside cap W N [] top s f n = tt
outside cap W N (x ∷ l) top s f n = ((λ e. n (ap (at W) (sym e) ∙ f.2)), outside cap W N l (at N x) s f.4 n)

-- words and links of vacant slots other than s stand still
vacancies-keep : (cap : ℕ) (W N W' N' l : List ℕ) (top s : ℕ) → Outside s l → ((x : ℕ) → x ≢ s → at W x ≡ vacant → (at W' x ≡ vacant) × (at N' x ≡ at N x)) → Vacancies cap W N l top → Vacancies cap W' N' l top
unfolding Vacancies Outside
vacancies-keep cap W N W' N' [] top s o k f = tt
vacancies-keep cap W N W' N' (x ∷ l) top s o k f =
    let e = k x o.0 f.2 in
    (f.0, f.1, e.0, f.3, rw e.1 (vacancies-keep cap W N W' N' l (at N x) s o.1 k f.4))

-- the link behind the last vacant slot may be anything
pub vacancies-mod : (cap : ℕ) (W N l : List ℕ) (top : ℕ) → cap ≤ 65536 → Vacancies cap W N l top → Vacancies cap W N l (top % 65536)
unfolding Vacancies
vacancies-mod cap W N [] top h f = tt
vacancies-mod cap W N (s ∷ l) top h f = let e : top % 65536 ≡ s = omega (arith, f.0, f.1) in (e, f.1, f.2, f.3, f.4)

pub record Pops (cap : ℕ) (W N : List ℕ) (top free : ℕ) : Type 0 where
  pub low : top < cap
  pub empty : at W top ≡ vacant
  pub rest : List ℕ
  pub count : length rest ≡ free - 1
  pub out : Outside top rest
  pub tail : Vacancies cap W N rest (at N top)

pop : (cap : ℕ) (W N l : List ℕ) (top free : ℕ) → length l ≡ free → 0 < free → Vacancies cap W N l top → Pops cap W N top free
unfolding Vacancies
pop cap W N [] top free e h f = absurd (omega arith)
pop cap W N (s ∷ l) top free e h f = record {
  low = rw f.0 f.1;
  empty = ap (at W) f.0 ∙ f.2;
  rest = l;
  count = omega arith;
  out = subst (λ (x : ℕ). Outside x l) (sym f.0) f.3;
  tail = subst (λ (x : ℕ). Vacancies cap W N l (at N x)) (sym f.0) f.4;
}

module _ {t : Table} {c : Cols} (p : Layout t c) where
  pub pops : 0 < t.free → Pops t.capacity c.w c.n t.top t.free
  pops h = pop t.capacity c.w c.n p.list t.top t.free p.count h p.linked

  -- ---- another word for the vertex u at slot s
  module _ {u s w : ℕ} {d : Cols} (f : Fit t.capacity c.w s w u) (us : at c.w s ≢ vacant) (nw : w ≢ vacant) (ch : Changed t.capacity s w c d) where
    members : (k x : ℕ) → Mem t.capacity t.mask c.w k x → Mem t.capacity t.mask (set c.w s w) k x
    members k x m = go (ℕ_discrete x s)
      where
        go : Dec (x ≡ s) → Mem t.capacity t.mask (set c.w s w) k x
        go (yes q) = let n = set_at f nw in (
          m.0,
          (λ z. n.used (ap (at (set c.w s w)) (sym q) ∙ z)),
          ap (λ (y : ℕ). bucket_of t.mask (vertex_in (at (set c.w s w) y))) q ∙ ap (bucket_of t.mask) (n.vertex ∙ sym (f.old us)) ∙ ap (λ (y : ℕ). bucket_of t.mask (vertex_in (at c.w y))) (sym q) ∙ m.2,
        )
        go (no ne) = let e = get_or-set_other c.w s x w 0 ne in (m.0, (λ z. m.1 (sym e ∙ z)), ap (λ (y : ℕ). bucket_of t.mask (vertex_in y)) e ∙ m.2)

    back : (k x : ℕ) → Mem t.capacity t.mask (set c.w s w) k x → Mem t.capacity t.mask c.w k x
    back k x m = go (ℕ_discrete x s)
      where
        go : Dec (x ≡ s) → Mem t.capacity t.mask c.w k x
        go (yes q) = let n = set_at f nw in (
          m.0,
          (λ z. us (ap (at c.w) (sym q) ∙ z)),
          ap (λ (y : ℕ). bucket_of t.mask (vertex_in (at c.w y))) q ∙ ap (bucket_of t.mask) (f.old us ∙ sym n.vertex) ∙ ap (λ (y : ℕ). bucket_of t.mask (vertex_in (at (set c.w s w) y))) (sym q) ∙ m.2,
        )
        go (no ne) = let e = get_or-set_other c.w s x w 0 ne in (m.0, (λ z. m.1 (e ∙ z)), ap (λ (y : ℕ). bucket_of t.mask (vertex_in y)) (sym e) ∙ m.2)

    pub change-layout : Layout t d
    change-layout = record {
      win = ch.win;
      chained = rw (ch.w, ch.h, ch.n) (record { mask = p.chained.mask; chain = chain-iff _ _ _ _ members back p.chained.chain });
      single = rw ch.w (set_single f p.single);
      list = p.list;
      count = p.count;
      top16 = p.top16;
      linked = rw (ch.w, ch.n) (vacancies-keep t.capacity c.w c.n (set c.w s w) c.n p.list t.top s (outside t.capacity c.w c.n p.list t.top s p.linked us)
          (λ y ne z. (get_or-set_other c.w s y w 0 ne ∙ z, refl)) p.linked);
    }

  -- ---- the word w in the slot at the top of the vacant ones: chains, then word and tree
  module _ {u w : ℕ} {c₁ d : Cols} (small : t.capacity ≤ 65536) (pos : 0 < t.free) (f : Fit t.capacity c.w t.top w u)
      (lk : Linked t.capacity t.mask t.top w c c₁) (ch : Changed t.capacity t.top w c₁ d) where
    words : d.w ≡ set c.w t.top w
    words = ch.w ∙ ap (λ (z : List ℕ). set z t.top w) lk.same_w

    pub insert-words : d.w ≡ set c.w t.top w
    insert-words = words

    pub insert-layout : {x : ℕ} → x ≡ at c.n t.top → Layout (numbers t (x % 65536) (t.free - 1)) d
    insert-layout {x} ex = let pp = pops pos in record {
      win = ch.win;
      chained = rw (words, ch.h, ch.n) lk.chained;
      single = rw words (set_single f p.single);
      list = pp.rest;
      count = pp.count;
      top16 = omega arith;
      linked = rw (words, ch.n, ex) (vacancies-mod t.capacity (set c.w t.top w) c₁.n pp.rest (at c.n t.top) small
          (vacancies-keep t.capacity c.w c.n (set c.w t.top w) c₁.n pp.rest (at c.n t.top) t.top pp.out
          (λ y ne z. (get_or-set_other c.w t.top y w 0 ne ∙ z, lk.rest y ne z)) pp.tail));
    }

  -- ---- slot s is vacated: chains, then word and tree, then the link to the old top
  module _ {u s : ℕ} {c₁ c₂ d : Cols} (small : t.capacity ≤ 65536) (f : Fit t.capacity c.w s vacant u) (us : at c.w s ≢ vacant)
      (lk : Linked t.capacity t.mask s vacant c c₁) (len : s < length c₁.n) (ch : Changed t.capacity s vacant c₁ c₂) (e : d ≡ set_n c₂ s t.top) where
    pub drop-words : d.w ≡ set c.w s vacant
    drop-words = ap (λ (z : Cols). z.w) e ∙ ch.w ∙ ap (λ (z : List ℕ). set z s vacant) lk.same_w

    links : d.n ≡ set c₁.n s t.top
    links = ap (λ (z : Cols). z.n) e ∙ ap (λ (z : List ℕ). set z s t.top) ch.n

    gone : at (set c.w s vacant) s ≡ vacant
    gone = get_or-set_same c.w s vacant 0 (omega (arith, f.low, f.inside))

    far : Outside s p.list
    far = outside t.capacity c.w c.n p.list t.top s p.linked us

    pub drop-layout : Layout (numbers t s (t.free + 1)) d
    unfolding Vacancies
    drop-layout = record {
      win = rw e ch.win;
      chained = rw (drop-words, links, ap (λ (z : Cols). z.h) e, ch.h) (record {
        mask = lk.chained.mask;
        chain = chain-other _ _ _ _ (λ k x m. get_or-set_other c₁.n s x t.top 0 (λ z. m.1 (ap (at (set c.w s vacant)) z ∙ gone))) lk.chained.chain;
      });
      single = rw drop-words (set_single f p.single);
      list = s ∷ p.list;
      count = omega (arith, p.count);
      top16 = omega (arith, f.low);
      linked =
          let v : Vacancies t.capacity (set c.w s vacant) (set c₁.n s t.top) (s ∷ p.list) s = (
            refl,
            f.low,
            gone,
            far,
            subst (λ (z : ℕ). Vacancies t.capacity (set c.w s vacant) (set c₁.n s t.top) p.list z) (sym (get_or-set_same c₁.n s t.top 0 len))
                (vacancies-keep t.capacity c.w c.n (set c.w s vacant) (set c₁.n s t.top) p.list t.top s far
                (λ y ne z. (get_or-set_other c.w s y vacant 0 ne ∙ z, get_or-set_other c₁.n s y t.top 0 ne ∙ lk.rest y ne z)) p.linked),
          ) in
          subst (λ (z : List ℕ). Vacancies t.capacity z d.n (s ∷ p.list) s) (sym drop-words)
          (subst (λ (z : List ℕ). Vacancies t.capacity (set c.w s vacant) z (s ∷ p.list) s) (sym links) v);
    }
