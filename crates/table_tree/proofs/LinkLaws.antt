-- A slot joins the chain of its bucket, or leaves it.
use mathlib.Core.Path.{◌≡◌, refl, sym, ap, ◌∙◌}
use mathlib.Core.Logic.{◌≢◌, ◌⊎◌, inl, inr}
use mathlib.Core.List.{List}
use Prim.Native.Nat.{ℕ, ◌<◌, ◌≤◌, min}
use native.Mathlib.Omega.{arith}
use native.Mathlib.Decide.{dec_lt, ℕ_discrete}
use lib.ListN.{length, set, length-set}
use lib.Seq.{get_or-set_same, get_or-set_other}
use Rattle.table_bytes.specs.Columns.{Cols, at, set_h, set_n, Sized}
use Rattle.table_tree.specs.Words.{vacant, vertex_in, bucket_of}
use Rattle.std.specs.Prelude.{Some, None}
use Rattle.table_tree.specs.Chains.{Mem, Step, Chained, First, Before, Linked}
use Rattle.table_tree.proofs.ChainLaws.{Adds, Takes, add-first, add-behind, take-first, take_behind}
use Rattle.table_tree.proofs.SearchLaws.{bucket-le}

mem-sole : (cap m : ℕ) (W : List ℕ) (a d t : ℕ) → Mem cap m W a t → Mem cap m W d t → a ≡ d
mem-sole cap m W a d t x y = sym x.2 ∙ y.2

-- the members of the buckets after a store, by the slot's old word
module _ (cap m : ℕ) (W : List ℕ) (s w : ℕ) (l : s < cap) (len : cap ≤ length W) where
  here : at (set W s w) s ≡ w
  here = get_or-set_same W s w 0 (omega arith)

  kept : (k t : ℕ) → t ≢ s → Mem cap m W k t → Mem cap m (set W s w) k t
  kept k t ne x = let q = get_or-set_other W s t w 0 ne in (x.0, (λ z. x.1 (sym q ∙ z)), ap (λ (y : ℕ). bucket_of m (vertex_in y)) q ∙ x.2)

  back : (k t : ℕ) → t ≢ s → Mem cap m (set W s w) k t → Mem cap m W k t
  back k t ne x = let q = get_or-set_other W s t w 0 ne in (x.0, (λ z. x.1 (q ∙ z)), ap (λ (y : ℕ). bucket_of m (vertex_in y)) (sym q) ∙ x.2)

  pub fill-adds : at W s ≡ vacant → w ≢ vacant → Adds (Mem cap m W) (Mem cap m (set W s w)) (bucket_of m (vertex_in w)) s
  fill-adds e nw = record {
    new = (l, (λ z. nw (sym here ∙ z)), ap (λ (y : ℕ). bucket_of m (vertex_in y)) here);
    old = λ k t x. kept k t (λ z. x.1 (ap (at W) z ∙ e)) x;
    only = λ k t x. go k t x (ℕ_discrete t s);
  }
    where
      go : (k t : ℕ) → Mem cap m (set W s w) k t → Dec (t ≡ s) → (Mem cap m W k t × (t ≢ s)) ⊎ ((k ≡ bucket_of m (vertex_in w)) × (t ≡ s))
      go k t x (yes q) = inr (sym x.2 ∙ ap (λ (y : ℕ). bucket_of m (vertex_in y)) (rw q here), q)
      go k t x (no ne) = inl (back k t ne x, ne)

  pub free-takes : at W s ≢ vacant → w ≡ vacant → Takes (Mem cap m W) (Mem cap m (set W s w)) (bucket_of m (vertex_in (at W s))) s
  free-takes us e = record {
    was = (l, us, refl);
    rest = λ k t x ne. kept k t ne x;
    only = λ k t x. let ne = off k t x in (back k t ne x, ne);
  }
    where
      off : (k t : ℕ) → Mem cap m (set W s w) k t → t ≢ s
      off k t x z = x.1 (ap (at (set W s w)) z ∙ here ∙ e)

module _ {r cap m : ℕ} {c : Cols} (sz : Sized r c) (fit : cap ≤ r) (ch : Chained cap m c.w c.h c.n) where
  -- the vacant slot s for the word w
  module _ {s w k : ℕ} (ls : s < cap) (es : at c.w s ≡ vacant) (nw : w ≢ vacant) (ek : k ≡ bucket_of m (vertex_in w)) where
    adds : Adds (Mem cap m c.w) (Mem cap m (set c.w s w)) k s
    adds = rw ek (fill-adds cap m c.w s w ls (omega (arith, sz.w)) es nw)

    k-low : k < length c.h
    k-low = rw ek (omega (arith, ch.mask, bucket-le m (vertex_in w)))

    link-front : {d : Cols} (n : ℕ) → d ≡ set_h (set_n c s n) k s → ((t : ℕ) → Mem cap m c.w k t → t < s)
        → (Mem cap m c.w k (at c.h k) × (n ≡ at c.h k)) ⊎ (((t : ℕ) → Mem cap m c.w k t → ⊥) × (n ≡ s)) → Linked cap m s w c d
    link-front n e above o = rw e (record {
      same_w = refl;
      same_t = refl;
      chained = record {
        mask = rw (length-set c.h k s) ch.mask;
        chain = add-first (Mem cap m c.w) (Mem cap m (set c.w s w)) (at c.h) (at c.n) (at (set c.h k s)) (at (set c.n s n)) k s ch.chain adds
            (get_or-set_same c.h k s 0 k-low) (λ a ne. get_or-set_other c.h k a s 0 ne) (λ t ne. get_or-set_other c.n s t n 0 ne) above (ns o);
      };
      rest = λ x ne z. get_or-set_other c.n s x n 0 ne;
    })
      where
        ns : (Mem cap m c.w k (at c.h k) × (n ≡ at c.h k)) ⊎ (((t : ℕ) → Mem cap m c.w k t → ⊥) × (n ≡ s))
            → (Mem cap m c.w k (at c.h k) × (at (set c.n s n) s ≡ at c.h k)) ⊎ (((t : ℕ) → Mem cap m c.w k t → ⊥) × (at (set c.n s n) s ≡ s))
        ns (inl a) = inl (a.0, get_or-set_same c.n s n 0 (omega (arith, sz.n)) ∙ a.1)
        ns (inr a) = inr (a.0, get_or-set_same c.n s n 0 (omega (arith, sz.n)) ∙ a.1)

    pub link-alone : {d : Cols} → First cap m c.w k None → d ≡ set_h (set_n c s s) k s → Linked cap m s w c d
    link-alone f e = link-front s e (λ t mt. absurd (f t mt)) (inr (f, refl))

    -- the first of the bucket is its head
    head-is : {h : ℕ} → Mem cap m c.w k h → ((t : ℕ) → Mem cap m c.w k t → t ≤ h) → h ≡ at c.h k
    head-is {h} mh f = let g = ch.chain.first k h mh in omega (arith, f (at c.h k) g.0, g.1)

    pub link-first : {h : ℕ} {d : Cols} → First cap m c.w k (Some h) → h < s → d ≡ set_h (set_n c s h) k s → Linked cap m s w c d
    link-first {h = h} f lt e = link-front h e (λ t mt. omega (arith, f.1 t mt)) (inl ((ch.chain.first k h f.0).0, head-is f.0 f.1))

    pub link-above : {h : ℕ} → First cap m c.w k (Some h) → s ≤ h → Mem cap m c.w k h × (s < h)
    link-above {h = h} f le = (f.0, go (ℕ_discrete h s))
      where
        go : Dec (h ≡ s) → s < h
        go (yes e) = absurd (f.0.1 (ap (at c.w) e ∙ es))
        go (no z) = omega arith

    pub link-behind : {p x n : ℕ} {c₁ d : Cols} → Before cap m c.w c.n k s p → x ≡ at c.n p → n ≡ min x s → c₁ ≡ set_n c s n → d ≡ set_n c₁ p s → Linked cap m s w c d
    link-behind {p} {x} {n} bf ex en e₁ e₂ = rw (e₂, e₁) (record {
      same_w = refl;
      same_t = refl;
      chained = record {
        mask = ch.mask;
        chain = add-behind (Mem cap m c.w) (Mem cap m (set c.w s w)) (at c.h) (at c.n) (at N') k s p (mem-sole cap m c.w) ch.chain adds
            other bf.mem bf.above atp gap (ns (dec_lt (at c.n p) p));
      };
      rest = λ q ne z. other q ne (λ y. bf.mem.1 (ap (at c.w) (sym y) ∙ z));
    })
      where
        N' : List ℕ
        N' = set (set c.n s n) p s

        st : Step (Mem cap m c.w k) p (at c.n p)
        st = ch.chain.step k p bf.mem

        other : (t : ℕ) → t ≢ s → t ≢ p → at N' t ≡ at c.n t
        other t a b = get_or-set_other (set c.n s n) p t s 0 b ∙ get_or-set_other c.n s t n 0 a

        atp : at N' p ≡ s
        atp = get_or-set_same (set c.n s n) p s 0 (rw (length-set c.n s n) (omega (arith, sz.n, bf.mem.0)))

        ats : at N' s ≡ n
        ats = get_or-set_other (set c.n s n) p s s 0 (λ z. absurd (omega (arith, bf.above))) ∙ get_or-set_same c.n s n 0 (omega (arith, sz.n))

        gap : at c.n p < p → at c.n p < s
        gap l = go (ℕ_discrete (at c.n p) s)
          where
            go : Dec (at c.n p ≡ s) → at c.n p < s
            go (yes q) = absurd ((st.mem l).1 (ap (at c.w) q ∙ es))
            go (no q) = omega (arith, bf.gap l)

        ns : Dec (at c.n p < p) → ((at c.n p < p) × (at N' s ≡ at c.n p)) ⊎ ((at c.n p ≡ p) × (at N' s ≡ s))
        ns (yes l) = inl (l, ats ∙ omega (arith, gap l))
        ns (no l) = inr (omega (arith, st.down), ats ∙ omega (arith, st.down, bf.above))

  -- the chains without the used slot s
  module _ {s k : ℕ} (ls : s < cap) (us : at c.w s ≢ vacant) (ek : k ≡ bucket_of m (vertex_in (at c.w s))) where
    takes : Takes (Mem cap m c.w) (Mem cap m (set c.w s vacant)) k s
    takes = rw ek (free-takes cap m c.w s vacant ls (omega (arith, sz.w)) us refl)

    pub cut-head : {h : ℕ} → h ≡ at c.h k → Mem cap m c.w k h × (s ≤ h)
    cut-head e = rw e (ch.chain.first k s takes.was)

    pub cut-next : {n : ℕ} → n ≡ at c.n s → n ≤ s
    cut-next e = rw e (ch.chain.step k s takes.was).down

    pub cut-first : {h n : ℕ} {d : Cols} → h ≡ at c.h k → h ≡ s → n ≡ at c.n s → d ≡ set_h c k n → Linked cap m s vacant c d
    cut-first {n = n} eh es en e = rw e (record {
      same_w = refl;
      same_t = refl;
      chained = record {
        mask = rw (length-set c.h k n) ch.mask;
        chain = take-first (Mem cap m c.w) (Mem cap m (set c.w s vacant)) (at c.h) (at c.n) (at (set c.h k n)) k s (mem-sole cap m c.w) ch.chain takes
            (sym eh ∙ es) (get_or-set_same c.h k n 0 lk ∙ en) (λ a ne. get_or-set_other c.h k a n 0 ne);
      };
      rest = λ x ne z. refl;
    })
      where
        lk : k < length c.h
        lk = rw ek (omega (arith, ch.mask, bucket-le m (vertex_in (at c.w s))))

    pub cut-behind : {p n x : ℕ} {d : Cols} → Before cap m c.w c.n k s p → n ≡ at c.n s → ((n ≡ s) × (x ≡ p)) ⊎ ((n ≢ s) × (x ≡ n)) → d ≡ set_n c p x → Linked cap m s vacant c d
    cut-behind {p} {n} {x} bf en o e = rw e (record {
      same_w = refl;
      same_t = refl;
      chained = record {
        mask = ch.mask;
        chain = take_behind (Mem cap m c.w) (Mem cap m (set c.w s vacant)) (at c.h) (at c.n) (at (set c.n p x)) k s p (mem-sole cap m c.w) ch.chain takes
            bf.mem bf.above ps (λ t ne. get_or-set_other c.n p t x 0 ne) (np o);
      };
      rest = λ q ne z. get_or-set_other c.n p q x 0 (λ y. bf.mem.1 (ap (at c.w) (sym y) ∙ z));
    })
      where
        ps : at c.n p ≡ s
        ps = let q = (ch.chain.step k p bf.mem).skip s takes.was bf.above in omega (arith, bf.gap q.1, q)

        same : at (set c.n p x) p ≡ x
        same = get_or-set_same c.n p x 0 (omega (arith, sz.n, bf.mem.0))

        np : ((n ≡ s) × (x ≡ p)) ⊎ ((n ≢ s) × (x ≡ n)) → ((at c.n s < s) × (at (set c.n p x) p ≡ at c.n s)) ⊎ ((at c.n s ≡ s) × (at (set c.n p x) p ≡ p))
        np (inl a) = inr (sym en ∙ a.0, same ∙ a.1)
        np (inr a) = inl (omega (arith, cut-next en, a.0, en), same ∙ a.1 ∙ en)
