-- Chains that descend: a slot goes first, goes behind another, or is taken out.
use mathlib.Core.Path.{◌≡◌, sym, subst}
use mathlib.Core.Logic.{◌≢◌, ◌⊎◌, inl, inr}
use Prim.Native.Nat.{ℕ, ◌<◌, ◌≤◌}
use native.Mathlib.Omega.{arith}
use native.Mathlib.Decide.{dec_lt, ℕ_discrete}
use Rattle.table_tree.specs.Chains.{Step, Chain}

-- M' is M with s in b
pub record Adds (M M' : ℕ → ℕ → Type 0) (b s : ℕ) : Type 0 where
  pub new : M' b s
  pub old : (a t : ℕ) → M a t → M' a t
  pub only : (a t : ℕ) → M' a t → (M a t × (t ≢ s)) ⊎ ((a ≡ b) × (t ≡ s))

-- M' is M without s, which is in b
pub record Takes (M M' : ℕ → ℕ → Type 0) (b s : ℕ) : Type 0 where
  pub was : M b s
  pub rest : (a t : ℕ) → M a t → t ≢ s → M' a t
  pub only : (a t : ℕ) → M' a t → M a t × (t ≢ s)

-- s goes first
module _ (M M' : ℕ → ℕ → Type 0) (H N H' N' : ℕ → ℕ) (b s : ℕ) (c : Chain M H N) (ad : Adds M M' b s)
    (hs : H' b ≡ s) (ho : (a : ℕ) → a ≢ b → H' a ≡ H a) (nx : (t : ℕ) → t ≢ s → N' t ≡ N t)
    (top : (t : ℕ) → M b t → t < s) (ns : (M b (H b) × (N' s ≡ H b)) ⊎ (((t : ℕ) → M b t → ⊥) × (N' s ≡ s))) where
  step-new : (M b (H b) × (N' s ≡ H b)) ⊎ (((t : ℕ) → M b t → ⊥) × (N' s ≡ s)) → Step (M' b) s (N' s)
  step-new (inl e) = let l = top (H b) e.0 in record {
    down = omega arith;
    mem = λ z. rw e.1 (ad.old b (H b) e.0);
    skip = λ t m z. go t z (ad.only b t m);
  }
    where
      go : (t : ℕ) → t < s → (M b t × (t ≢ s)) ⊎ ((b ≡ b) × (t ≡ s)) → (t ≤ N' s) × (N' s < s)
      go t z (inl m) = omega (arith, (c.first b t m.0).1, top (H b) e.0)
      go t z (inr q) = absurd (omega arith)
  step-new (inr e) = record { down = omega arith; mem = λ z. absurd (omega arith); skip = λ t m z. go t z (ad.only b t m) }
    where
      go : (t : ℕ) → t < s → (M b t × (t ≢ s)) ⊎ ((b ≡ b) × (t ≡ s)) → (t ≤ N' s) × (N' s < s)
      go t z (inl m) = absurd (e.0 t m.0)
      go t z (inr q) = absurd (omega arith)

  step-old : (a t : ℕ) → M a t → t ≢ s → Step (M' a) t (N' t)
  step-old a t m ne = let st = c.step a t m in rw (nx t ne) (record {
    down = st.down;
    mem = λ z. ad.old a (N t) (st.mem z);
    skip = λ t' m' z. go t' z (ad.only a t' m');
  })
    where
      go : (t' : ℕ) → t' < t → (M a t' × (t' ≢ s)) ⊎ ((a ≡ b) × (t' ≡ s)) → (t' ≤ N t) × (N t < t)
      go t' z (inl m') = (c.step a t m).skip t' m'.0 z
      go t' z (inr q) = absurd (omega (arith, top t (subst (λ (x : ℕ). M x t) q.0 m)))

  pub add-first : Chain M' H' N'
  add-first = record { first = λ a t m. fst a t (ad.only a t m) (ℕ_discrete a b); step = λ a t m. stp a t (ad.only a t m) }
    where
      fst : (a t : ℕ) → (M a t × (t ≢ s)) ⊎ ((a ≡ b) × (t ≡ s)) → Dec (a ≡ b) → M' a (H' a) × (t ≤ H' a)
      fst a t (inl m) (yes e) = let m' : M b t = subst (λ (x : ℕ). M x t) e m.0 in rw (e, hs) (ad.new, omega (arith, top t m'))
      fst a t (inl m) (no ne) = let f = c.first a t m.0 in rw (ho a ne) (ad.old a (H a) f.0, f.1)
      fst a t (inr q) (yes e) = rw (e, hs) (ad.new, omega arith)
      fst a t (inr q) (no ne) = absurd (ne q.0)

      stp : (a t : ℕ) → (M a t × (t ≢ s)) ⊎ ((a ≡ b) × (t ≡ s)) → Step (M' a) t (N' t)
      stp a t (inl m) = step-old a t m.0 m.1
      stp a t (inr q) = rw (q.0, q.1) (step-new ns)

-- s goes behind p
module _ (M M' : ℕ → ℕ → Type 0) (H N N' : ℕ → ℕ) (b s p : ℕ) (sole : (a d t : ℕ) → M a t → M d t → a ≡ d) (c : Chain M H N) (ad : Adds M M' b s)
    (nx : (t : ℕ) → t ≢ s → t ≢ p → N' t ≡ N t) (mp : M b p) (sp : s < p) (np : N' p ≡ s)
    (gap : N p < p → N p < s) (ns : ((N p < p) × (N' s ≡ N p)) ⊎ ((N p ≡ p) × (N' s ≡ s))) where
  -- the members below p are below s
  below : (t : ℕ) → M b t → t < p → t < s
  below t m z = let k = (c.step b p mp).skip t m z in omega (arith, gap k.1, k)

  step-s : ((N p < p) × (N' s ≡ N p)) ⊎ ((N p ≡ p) × (N' s ≡ s)) → Step (M' b) s (N' s)
  step-s (inl e) = let g = gap e.0 in record {
    down = omega arith;
    mem = λ z. rw e.1 (ad.old b (N p) ((c.step b p mp).mem e.0));
    skip = λ t m z. go t z (ad.only b t m);
  }
    where
      go : (t : ℕ) → t < s → (M b t × (t ≢ s)) ⊎ ((b ≡ b) × (t ≡ s)) → (t ≤ N' s) × (N' s < s)
      go t z (inl m) = omega (arith, gap e.0, (c.step b p mp).skip t m.0 (omega arith))
      go t z (inr q) = absurd (omega arith)
  step-s (inr e) = record { down = omega arith; mem = λ z. absurd (omega arith); skip = λ t m z. go t z (ad.only b t m) }
    where
      go : (t : ℕ) → t < s → (M b t × (t ≢ s)) ⊎ ((b ≡ b) × (t ≡ s)) → (t ≤ N' s) × (N' s < s)
      go t z (inl m) = absurd (omega (arith, (c.step b p mp).skip t m.0 (omega arith)))
      go t z (inr q) = absurd (omega arith)

  step-p : Step (M' b) p (N' p)
  step-p = rw np (record { down = omega arith; mem = λ z. ad.new; skip = λ t m z. go t z (ad.only b t m) })
    where
      go : (t : ℕ) → t < p → (M b t × (t ≢ s)) ⊎ ((b ≡ b) × (t ≡ s)) → (t ≤ s) × (s < p)
      go t z (inl m) = omega (arith, below t m.0 z)
      go t z (inr q) = omega arith

  step-t : (a t : ℕ) → M a t → t ≢ s → t ≢ p → Step (M' a) t (N' t)
  step-t a t m ne nep = let st = c.step a t m in rw (nx t ne nep) (record {
    down = st.down;
    mem = λ z. ad.old a (N t) (st.mem z);
    skip = λ t' m' z. go t' z (ad.only a t' m');
  })
    where
      far : M b t → s < t → (s ≤ N t) × (N t < t)
      far mb z = side (dec_lt t p)
        where
          side : Dec (t < p) → (s ≤ N t) × (N t < t)
          side (yes l) = absurd (omega (arith, below t mb l))
          side (no l) = omega (arith, (c.step b t mb).skip p mp (omega arith))

      go : (t' : ℕ) → t' < t → (M a t' × (t' ≢ s)) ⊎ ((a ≡ b) × (t' ≡ s)) → (t' ≤ N t) × (N t < t)
      go t' z (inl m') = (c.step a t m).skip t' m'.0 z
      go t' z (inr q) = omega (arith, far (subst (λ (x : ℕ). M x t) q.0 m) (omega arith))

  pub add-behind : Chain M' H N'
  add-behind = record { first = λ a t m. fst a t (ad.only a t m); step = λ a t m. stp a t (ad.only a t m) (ℕ_discrete t p) }
    where
      fst : (a t : ℕ) → (M a t × (t ≢ s)) ⊎ ((a ≡ b) × (t ≡ s)) → M' a (H a) × (t ≤ H a)
      fst a t (inl m) = let f = c.first a t m.0 in (ad.old a (H a) f.0, f.1)
      fst a t (inr q) = let f = c.first b p mp in rw q.0 (ad.old b (H b) f.0, omega arith)

      stp : (a t : ℕ) → (M a t × (t ≢ s)) ⊎ ((a ≡ b) × (t ≡ s)) → Dec (t ≡ p) → Step (M' a) t (N' t)
      stp a t (inr q) d = rw (q.0, q.1) (step-s ns)
      stp a t (inl m) (yes e) =
          let ab : a ≡ b = sole a b p (subst (M a) e m.0) mp in
          rw (e, ab) step-p
      stp a t (inl m) (no ne) = step-t a t m.0 m.1 ne

-- s, the first, goes
module _ (M M' : ℕ → ℕ → Type 0) (H N H' : ℕ → ℕ) (b s : ℕ) (sole : (a d t : ℕ) → M a t → M d t → a ≡ d) (c : Chain M H N) (tk : Takes M M' b s)
    (hb : H b ≡ s) (hs : H' b ≡ N s) (ho : (a : ℕ) → a ≢ b → H' a ≡ H a) where
  pub take-first : Chain M' H' N
  take-first = record { first = λ a t m. fst a t (tk.only a t m) (ℕ_discrete a b); step = λ a t m. stp a t (tk.only a t m) }
    where
      fst : (a t : ℕ) → M a t × (t ≢ s) → Dec (a ≡ b) → M' a (H' a) × (t ≤ H' a)
      fst a t m (yes e) =
          let mb : M b t = subst (λ (x : ℕ). M x t) e m.0 in
          let lt : t < s = omega (arith, (c.first b t mb).1, m.1) in
          let k = (c.step b s tk.was).skip t mb lt in
          rw (e, hs) (tk.rest b (N s) ((c.step b s tk.was).mem k.1) (λ z. absurd (omega arith)), k.0)
      fst a t m (no ne) = let f = c.first a t m.0 in rw (ho a ne) (tk.rest a (H a) f.0 (λ z. ne (sole a b s (subst (M a) z f.0) tk.was)), f.1)

      stp : (a t : ℕ) → M a t × (t ≢ s) → Step (M' a) t (N t)
      stp a t m = let st = c.step a t m.0 in record {
        down = st.down;
        mem = λ z. tk.rest a (N t) (st.mem z) (λ e. top z e (st.mem z));
        skip = λ t' m' z. st.skip t' (tk.only a t' m').0 z;
      }
        where
          top : N t < t → N t ≡ s → M a (N t) → ⊥
          top z e mn =
              let ab : a ≡ b = sole a b s (subst (M a) e mn) tk.was in
              omega (arith, (c.first b t (subst (λ (x : ℕ). M x t) ab m.0)).1)

-- s, which stands behind p, goes
module _ (M M' : ℕ → ℕ → Type 0) (H N N' : ℕ → ℕ) (b s p : ℕ) (sole : (a d t : ℕ) → M a t → M d t → a ≡ d) (c : Chain M H N) (tk : Takes M M' b s)
    (mp : M b p) (sp : s < p) (ps : N p ≡ s) (nx : (t : ℕ) → t ≢ p → N' t ≡ N t)
    (np : ((N s < s) × (N' p ≡ N s)) ⊎ ((N s ≡ s) × (N' p ≡ p))) where
  -- only p stands before s
  alone : (a t : ℕ) → M a t → N t < t → N t ≡ s → t ≡ p
  alone a t m z e =
      let mn : M a s = subst (M a) e ((c.step a t m).mem z) in
      let mb : M b t = subst (λ (x : ℕ). M x t) (sole a b s mn tk.was) m in
      side mb (dec_lt t p) (dec_lt p t)
    where
      side : M b t → Dec (t < p) → Dec (p < t) → t ≡ p
      side mb (yes l) d = absurd (omega (arith, (c.step b p mp).skip t mb l))
      side mb (no l) (yes g) = absurd (omega (arith, (c.step b t mb).skip p mp g))
      side mb (no l) (no g) = omega arith

  step-q : ((N s < s) × (N' p ≡ N s)) ⊎ ((N s ≡ s) × (N' p ≡ p)) → Step (M' b) p (N' p)
  step-q (inl e) = record {
    down = omega arith;
    mem = λ z. rw e.1 (tk.rest b (N s) ((c.step b s tk.was).mem e.0) (λ q. absurd (omega arith)));
    skip = λ t m z. go t z (tk.only b t m);
  }
    where
      go : (t : ℕ) → t < p → M b t × (t ≢ s) → (t ≤ N' p) × (N' p < p)
      go t z m =
          let k = (c.step b p mp).skip t m.0 z in
          let l : t < s = omega (arith, k, m.1) in
          omega (arith, (c.step b s tk.was).skip t m.0 l)
  step-q (inr e) = record { down = omega arith; mem = λ z. absurd (omega arith); skip = λ t m z. go t z (tk.only b t m) }
    where
      go : (t : ℕ) → t < p → M b t × (t ≢ s) → (t ≤ N' p) × (N' p < p)
      go t z m =
          let k = (c.step b p mp).skip t m.0 z in
          let l : t < s = omega (arith, k, m.1) in
          absurd (omega (arith, (c.step b s tk.was).skip t m.0 l))

  pub take_behind : Chain M' H N'
  take_behind = record { first = λ a t m. fst a t (tk.only a t m); step = λ a t m. stp a t (tk.only a t m) (ℕ_discrete t p) }
    where
      fst : (a t : ℕ) → M a t × (t ≢ s) → M' a (H a) × (t ≤ H a)
      fst a t m = let f = c.first a t m.0 in (tk.rest a (H a) f.0 (λ e. big e f.0), f.1)
        where
          big : H a ≡ s → M a (H a) → ⊥
          big e mh =
              let ab : a ≡ b = sole a b s (subst (M a) e mh) tk.was in
              omega (arith, (c.first a p (subst (λ (x : ℕ). M x p) (sym ab) mp)).1)

      stp : (a t : ℕ) → M a t × (t ≢ s) → Dec (t ≡ p) → Step (M' a) t (N' t)
      stp a t m (yes e) =
          let ab : a ≡ b = sole a b p (subst (M a) e m.0) mp in
          rw (e, ab) (step-q np)
      stp a t m (no ne) = let st = c.step a t m.0 in rw (nx t ne) (record {
        down = st.down;
        mem = λ z. tk.rest a (N t) (st.mem z) (λ e. ne (alone a t m.0 z e));
        skip = λ t' m' z. st.skip t' (tk.only a t' m').0 z;
      })

-- what is done to the links of other slots does not matter
pub chain-other : (M : ℕ → ℕ → Type 0) (H N N' : ℕ → ℕ) → ((a t : ℕ) → M a t → N' t ≡ N t) → Chain M H N → Chain M H N'
chain-other M H N N' e c = record { first = c.first; step = λ a t m. rw (e a t m) (c.step a t m) }

-- the same members
pub chain-iff : (M M' : ℕ → ℕ → Type 0) (H N : ℕ → ℕ) → ((a t : ℕ) → M a t → M' a t) → ((a t : ℕ) → M' a t → M a t) → Chain M H N → Chain M' H N
chain-iff M M' H N f g c = record {
  first = λ a t m. (f a (H a) (c.first a t (g a t m)).0, (c.first a t (g a t m)).1);
  step = λ a t m. let st = c.step a t (g a t m) in record { down = st.down; mem = λ z. f a (N t) (st.mem z); skip = λ t' m' z. st.skip t' (g a t' m') z };
}
