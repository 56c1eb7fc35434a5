-- A word goes down: its leaf climbs as long as it wins. The invariant at a node, and a step from it to the node above.
use mathlib.Core.Path.{◌≡◌, refl, sym, ap, subst, ◌∙◌}
use mathlib.Core.Logic.{◌≢◌, ◌⊎◌, inl, inr}
use mathlib.Core.List.{List}
use Prim.Native.Nat.{ℕ, ◌+◌, ◌*◌, ◌/◌, ◌<◌, ◌≤◌}
use native.Mathlib.Nat.{le_trans}
use native.Mathlib.Omega.{arith}
use native.Mathlib.Decide.{ℕ_discrete}
use lib.ListN.{length, set}
use lib.Seq.{get_or-set_same, get_or-set_other, set-get_or}
use Rattle.table_bytes.specs.Columns.{Cols, cols, set_w, set_t, at}
use Rattle.table_bytes.proofs.Access.{sized}
use Rattle.table_tree.specs.Words.{key}
use Rattle.table_tree.specs.Tree.{Anc, self, up, Shape, Ok, Win, Kept, Changed}
use Rattle.table_tree.proofs.TreeLaws.{key-mono, anc-le, anc-half, anc-two, Above, Wins, climb-shape, climb-ok, dent, Rest, rest-start, rest_up, stop}

abbrev pub Child : ℕ → ℕ → Type 0
Child p d = (d ≡ 2 * p) ⊎ (d ≡ 2 * p + 1)

-- i wins at c; p is above c
pub record Rising (cap : ℕ) (W T : List ℕ) (i k p : ℕ) : Type 0 where
  pub c : ℕ
  pub half : c / 2 ≡ p
  pub pos : 1 ≤ c
  pub in2 : c < 2 * cap
  pub on : Anc c (cap + i)
  pub top : at T c ≡ i
  pub word : k ≡ at W i
  pub shape : Shape cap T
  pub above : Above cap W T c
  pub rest : Rest cap W T i p
  pub keys : (q d : ℕ) → 1 ≤ q → q < cap → Anc q p → Child q d → at T d ≢ i → key (at W (at T q)) ≤ key (at W (at T d))
  pub old : 1 ≤ p → (d : ℕ) → Child p d → d ≢ c → (at T p ≡ at T d) ⊎ ((at T p ≡ i) ⊎ (k ≤ at W (at T p)))

pub rise-start : (cap : ℕ) (W T : List ℕ) (i x : ℕ) → i < cap → cap ≤ length W → Win cap W T → key x ≤ key (at W i) → Rising cap (set W i x) T i x ((cap + i) / 2)
rise-start cap W T i x l len w h = record {
  c = cap + i;
  half = refl;
  pos = omega arith;
  in2 = omega arith;
  on = self;
  top = w.shape.leaf i l;
  word = sym here;
  shape = w.shape;
  above = dent cap W T i x w;
  rest = rest-start cap W T i x ((cap + i) / 2) w;
  keys = λ q d a b n ch ne. ky q d a b ch ne (ℕ_discrete (at T q) i);
  old = λ a d ch ne. od a d ch ne (w.ok ((cap + i) / 2) a (omega arith)).2;
}
  where
    here : at (set W i x) i ≡ x
    here = get_or-set_same W i x 0 (omega arith)

    was : (q d : ℕ) → 1 ≤ q → q < cap → Child q d → key (at W (at T q)) ≤ key (at W (at T d))
    was q d a b (inl e) = rw e (w.ok q a b).0
    was q d a b (inr e) = rw e (w.ok q a b).1

    ky : (q d : ℕ) → 1 ≤ q → q < cap → Child q d → at T d ≢ i → Dec (at T q ≡ i) → key (at (set W i x) (at T q)) ≤ key (at (set W i x) (at T d))
    ky q d a b ch ne (yes e) =
        let z : key (at W i) ≤ key (at W (at T d)) = subst (λ (y : ℕ). key (at W y) ≤ key (at W (at T d))) e (was q d a b ch) in
        rw (get_or-set_other W i (at T d) x 0 ne, e, here) (le_trans h z)
    ky q d a b ch ne (no e) = rw (get_or-set_other W i (at T d) x 0 ne, get_or-set_other W i (at T q) x 0 e) (was q d a b ch)

    leaf : at T (cap + i) ≡ i
    leaf = w.shape.leaf i l

    od : 1 ≤ (cap + i) / 2 → (d : ℕ) → Child ((cap + i) / 2) d → d ≢ cap + i → (at T ((cap + i) / 2) ≡ at T (2 * ((cap + i) / 2))) ⊎ (at T ((cap + i) / 2) ≡ at T (2 * ((cap + i) / 2) + 1))
        → (at T ((cap + i) / 2) ≡ at T d) ⊎ ((at T ((cap + i) / 2) ≡ i) ⊎ (x ≤ at (set W i x) (at T ((cap + i) / 2))))
    od a d (inl e) ne (inl o) = inl (o ∙ ap (at T) (sym e))
    od a d (inr e) ne (inr o) = inl (o ∙ ap (at T) (sym e))
    od a d (inl e) ne (inr o) = let z : 2 * ((cap + i) / 2) + 1 ≡ cap + i = omega arith in inr (inl (o ∙ ap (at T) z ∙ leaf))
    od a d (inr e) ne (inl o) = let z : 2 * ((cap + i) / 2) ≡ cap + i = omega arith in inr (inl (o ∙ ap (at T) z ∙ leaf))

module _ (cap : ℕ) (W T : List ℕ) (i k p : ℕ) (len : 2 * cap ≤ length T) (v : Rising cap W T i k p) (pp : 1 ≤ p) where
  pub p-low : p < cap
  p-low = omega (arith, v.half, v.in2)

  c-child : Child p v.c
  c-child = go (ℕ_discrete v.c (2 * p))
    where
      go : Dec (v.c ≡ 2 * p) → Child p v.c
      go (yes e) = inl e
      go (no e) = let h = v.half in inr (omega arith)

  -- i does not win at the other child
  off : (d : ℕ) → Child p d → d ≢ v.c → at T d ≢ i
  off d ch ne z = go ch c-child v.on (subst (λ (y : ℕ). Anc d (cap + y)) z (v.shape.under d (low ch) (high ch)))
    where
      low : Child p d → 1 ≤ d
      low (inl e) = omega arith
      low (inr e) = omega arith

      high : Child p d → d < 2 * cap
      high (inl e) = let h = p-low in omega arith
      high (inr e) = let h = p-low in omega arith

      go : Child p d → Child p v.c → Anc v.c (cap + i) → Anc d (cap + i) → ⊥
      go (inl e) (inl f) x y = ne (e ∙ sym f)
      go (inr e) (inr f) x y = ne (e ∙ sym f)
      go (inl e) (inr f) x y = anc-two p pp (subst (λ (u : ℕ). Anc u (cap + i)) e y) (subst (λ (u : ℕ). Anc u (cap + i)) f x)
      go (inr e) (inl f) x y = anc-two p pp (subst (λ (u : ℕ). Anc u (cap + i)) f x) (subst (λ (u : ℕ). Anc u (cap + i)) e y)

  on-p : Anc p (cap + i)
  on-p = subst (λ (y : ℕ). Anc y (cap + i)) v.half (anc-half v.c v.on)

  -- a winner x at p, which beats i and the winner at p: its place against each child
  against : (x : ℕ) → key (at W x) ≤ key (at W i) → key (at W x) ≤ key (at W (at T p)) → (d : ℕ) → Child p d → key (at W x) ≤ key (at W (at T d))
  against x a b d ch = go (ℕ_discrete d v.c)
    where
      go : Dec (d ≡ v.c) → key (at W x) ≤ key (at W (at T d))
      go (yes e) = rw (e, v.top) a
      go (no e) = le_trans b (v.keys p d pp p-low self ch (off d ch e))

  -- i wins at p too
  module _ (o : (at T p ≡ i) ⊎ (k ≤ at W (at T p))) where
    beats : (at T p ≡ i) ⊎ (k ≤ at W (at T p)) → key (at W i) ≤ key (at W (at T p))
    beats (inl e) = rw e (omega arith)
    beats (inr e) = rw (← v.word) (key-mono k (at W (at T p)) e)

    wins : Wins W T p i
    wins = record { one = side c-child; l = against i (omega arith) (beats o) (2 * p) (inl refl); r = against i (omega arith) (beats o) (2 * p + 1) (inr refl) }
      where
        side : Child p v.c → (i ≡ at T (2 * p)) ⊎ (i ≡ at T (2 * p + 1))
        side (inl e) = inl (sym v.top ∙ ap (at T) e)
        side (inr e) = inr (sym v.top ∙ ap (at T) e)

    there : (q : ℕ) → q ≢ p → at (set T p i) q ≡ at T q
    there q ne = get_or-set_other T p q i 0 ne

    here : at (set T p i) p ≡ i
    here = get_or-set_same T p i 0 (omega (arith, p-low))

    pub rise-step : Rising cap W (set T p i) i k (p / 2)
    rise-step = record {
      c = p;
      half = refl;
      pos = pp;
      in2 = omega (arith, p-low);
      on = on-p;
      top = here;
      word = v.word;
      shape = climb-shape cap W T p i v.shape len pp p-low wins;
      above = climb-ok cap W T p i v.shape len pp p-low wins v.c v.half v.above;
      rest = rest_up cap W T i p i pp v.rest;
      keys = λ q d a b n ch ne.
          let le = anc-le q n in
          let dp : d ≢ p = λ z. ne (ap (at (set T p i)) z ∙ here) in
          rw (there q (λ z. absurd (omega arith)), there d dp) (v.keys q d a b (up n) ch (λ z. ne (there d dp ∙ z)));
      old = λ a d ch ne. od a d ch ne (v.rest.one (p / 2) a (omega (arith, p-low)) self);
    }
      where
        fin : (u : ℕ) → u ≡ p → 1 ≤ p / 2 → at T (p / 2) ≡ at T u → (at T p ≡ i) ⊎ (k ≤ at W (at T p)) → (at (set T p i) (p / 2) ≡ i) ⊎ (k ≤ at W (at (set T p i) (p / 2)))
        fin u e a z (inl y) = inl (there (p / 2) (λ q. absurd (omega arith)) ∙ z ∙ ap (at T) e ∙ y)
        fin u e a z (inr y) = inr (rw (there (p / 2) (λ q. absurd (omega arith)), z, e) y)

        od : 1 ≤ p / 2 → (d : ℕ) → Child (p / 2) d → d ≢ p → (at T (p / 2) ≡ at T (2 * (p / 2))) ⊎ (at T (p / 2) ≡ at T (2 * (p / 2) + 1))
            → (at (set T p i) (p / 2) ≡ at (set T p i) d) ⊎ ((at (set T p i) (p / 2) ≡ i) ⊎ (k ≤ at W (at (set T p i) (p / 2))))
        od a d (inl e) ne (inl z) = inl (there (p / 2) (λ q. absurd (omega arith)) ∙ z ∙ ap (at T) (sym e) ∙ sym (there d ne))
        od a d (inr e) ne (inr z) = inl (there (p / 2) (λ q. absurd (omega arith)) ∙ z ∙ ap (at T) (sym e) ∙ sym (there d ne))
        od a d (inl e) ne (inr z) = inr (fin (2 * (p / 2) + 1) (omega arith) a z o)
        od a d (inr e) ne (inl z) = inr (fin (2 * (p / 2)) (omega arith) a z o)

  -- i loses at p
  pub rise-stop : at T p ≢ i → at W (at T p) < k → Win cap W T
  rise-stop ne lt = stop cap W T i p v.shape v.rest pp p-low on-p ne (λ q a b n. go q a b n (ℕ_discrete q p))
    where
      less : key (at W (at T p)) ≤ key (at W i)
      less = rw (← v.word) (key-mono (at W (at T p)) k (omega arith))

      pick : (d : ℕ) → Child p d → d ≢ v.c → (at T p ≡ at T d) ⊎ ((at T p ≡ i) ⊎ (k ≤ at W (at T p))) → at T p ≡ at T d
      pick d ch e (inl z) = z
      pick d ch e (inr (inl z)) = absurd (ne z)
      pick d ch e (inr (inr z)) = absurd (omega arith)

      side : Child p v.c → (at T p ≡ at T (2 * p)) ⊎ (at T p ≡ at T (2 * p + 1))
      side (inl e) = inr (pick (2 * p + 1) (inr refl) (λ z. absurd (omega arith)) (v.old pp (2 * p + 1) (inr refl) (λ z. absurd (omega arith))))
      side (inr e) = inl (pick (2 * p) (inl refl) (λ z. absurd (omega arith)) (v.old pp (2 * p) (inl refl) (λ z. absurd (omega arith))))

      anc-p : {q m : ℕ} → Anc q m → q ≢ m → Anc q (m / 2)
      anc-p self z = absurd (z refl)
      anc-p (up x) z = x

      go : (q : ℕ) → 1 ≤ q → q < cap → (Anc q (p / 2) → ⊥) → Dec (q ≡ p) → Ok W T q
      go q a b n (yes e) = rw e (against (at T p) less (omega arith) (2 * p) (inl refl), against (at T p) less (omega arith) (2 * p + 1) (inr refl), side c-child)
      go q a b n (no e) = v.above q a b (λ x. n (anc-p (subst (Anc q) v.half x) e))

pub rise-end : (cap : ℕ) (W T : List ℕ) (i k p : ℕ) → Rising cap W T i k p → p < 1 → Win cap W T
rise-end cap W T i k p v h = record { shape = v.shape; ok = λ q a l. v.above q a l (λ n. absurd (omega (arith, anc-le q n, v.half))) }

-- the loop: the buffer b, of which c is the columns at the start, has come to node p
pub record Climbs (r cap : ℕ) (c : Cols) (b : List ℕ) (i x p : ℕ) : Type 0 where
  pub len : length b ≡ 16 * r
  pub kept : Kept c (cols r b)
  pub rising : Rising cap (cols r b).w (cols r b).t i x p

pub climbs-start : {r cap i x : ℕ} {W T b : List ℕ} → length b ≡ 16 * r → i < cap → cap ≤ length W → Win cap W T → key x ≤ key (at W i)
    → (cols r b).w ≡ set W i x → (cols r b).t ≡ T → Climbs r cap (cols r b) b i x ((cap + i) / 2)
climbs-start {cap = cap} {i = i} {x = x} {W = W} {T = T} e l len w h ew et = record {
  len = e;
  kept = record { w = refl; h = refl; n = refl };
  rising = rw (ew, et) (rise-start cap W T i x l len w h);
}

pub climbs-in : {r cap i x p : ℕ} {c : Cols} {b : List ℕ} → cap ≤ r → Climbs r cap c b i x p → 0 < p → p < 2 * r
climbs-in fit v h = omega (arith, v.rising.half, v.rising.in2)

pub climbs-low : {r cap i x p s : ℕ} {c : Cols} {b : List ℕ} → Climbs r cap c b i x p → 0 < p → s ≡ at (cols r b).t p → s < cap
climbs-low {p = p} v h e = rw e (v.rising.shape.low p h (omega (arith, v.rising.half, v.rising.in2)))

pub climbs-same : {r cap i x p s : ℕ} {c : Cols} {b : List ℕ} → cap ≤ r → Climbs r cap c b i x p → 0 < p → s ≡ at (cols r b).t p → s ≡ i → Climbs r cap c b i x (p / 2)
climbs-same {r} {cap} {i} {x} {p} {s} {c} {b} fit v h e z =
    let T = (cols r b).t in
    let q : at T p ≡ i = sym e ∙ z in
    let same : set T p i ≡ T = subst (λ (y : ℕ). set T p y ≡ T) q (set-get_or T p 0) in
    record {
      len = v.len;
      kept = v.kept;
      rising = subst (λ (y : List ℕ). Rising cap (cols r b).w y i x (p / 2)) same (rise-step cap (cols r b).w T i x p (omega (arith, (sized r b).t)) v.rising h (inl q));
    }

pub climbs-step : {r cap i x p s y : ℕ} {c : Cols} {b b' : List ℕ} → cap ≤ r → Climbs r cap c b i x p → 0 < p → s ≡ at (cols r b).t p → y ≡ at (cols r b).w s → x ≤ y
    → length b' ≡ length b → cols r b' ≡ set_t (cols r b) p i → Climbs r cap c b' i x (p / 2)
climbs-step {r} {cap} {i} {x} {p} {b = b} fit v h e ey le el ec = record {
  len = el ∙ v.len;
  kept = record { w = ap (λ (y : Cols). y.w) ec ∙ v.kept.w; h = ap (λ (y : Cols). y.h) ec ∙ v.kept.h; n = ap (λ (y : Cols). y.n) ec ∙ v.kept.n };
  rising = subst (λ (y : Cols). Rising cap y.w y.t i x (p / 2)) (sym ec)
      (rise-step cap (cols r b).w (cols r b).t i x p (omega (arith, (sized r b).t)) v.rising h (inr (subst (λ (y : ℕ). x ≤ y) (ey ∙ ap (at (cols r b).w) e) le)));
}

pub climbs-stop : {r cap i x p s y : ℕ} {c : Cols} {b : List ℕ} → cap ≤ r → Climbs r cap c b i x p → 0 < p → s ≡ at (cols r b).t p → s ≢ i → y ≡ at (cols r b).w s → y < x → Win cap (cols r b).w (cols r b).t
climbs-stop {r} {cap} {i} {x} {p} {b = b} fit v h e ne ey lt =
    rise-stop cap (cols r b).w (cols r b).t i x p (omega (arith, (sized r b).t)) v.rising h (λ z. ne (e ∙ z)) (subst (λ (y : ℕ). y < x) (ey ∙ ap (at (cols r b).w) e) lt)

pub climbs-end : {r cap i x p : ℕ} {c : Cols} {b : List ℕ} → Climbs r cap c b i x p → p ≤ 0 → Win cap (cols r b).w (cols r b).t
climbs-end {r} {cap} {i} {x} {p} {b = b} v h = rise-end cap (cols r b).w (cols r b).t i x p v.rising (omega arith)

-- c with the word x at i, and then another tree in order
pub changed : {cap i x : ℕ} {c d e : Cols} → d ≡ set_w c i x → Kept d e → Win cap e.w e.t → Changed cap i x c e
changed q k win = record { w = k.w ∙ ap (λ (z : Cols). z.w) q; h = k.h ∙ ap (λ (z : Cols). z.h) q; n = k.n ∙ ap (λ (z : Cols). z.n) q; win = win }
