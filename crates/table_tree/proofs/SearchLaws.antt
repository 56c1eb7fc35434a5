-- The first slot of a bucket, the slot of a vertex, and the place in a chain.
use mathlib.Core.Path.{◌≡◌, refl, sym, ap, ◌∙◌}
use mathlib.Core.Logic.{◌≢◌, ◌⊎◌, inl, inr}
use mathlib.Core.List.{List}
use Prim.Native.Nat.{ℕ, ◌<◌, ◌≤◌}
use native.Mathlib.Omega.{arith}
use native.Mathlib.Decide.{dec_lt, ℕ_discrete}
use lib.Bits.{and_le_r}
use Rattle.table_bytes.specs.Columns.{at}
use Rattle.table_tree.specs.Words.{vacant, vertex_in, bucket_of}
use Rattle.std.specs.Prelude.{Some, None}
use Rattle.table_tree.specs.Chains.{Mem, Chained, Missing, Slot, First, Before}

pub bucket-le : (m u : ℕ) → bucket_of m u ≤ m
unfolding bucket_of
bucket-le m u = and_le_r u m

-- the loop of `find` at s, a member of the bucket of u: no member above s has the vertex u
pub record Seeking (cap m : ℕ) (W : List ℕ) (u k s : ℕ) : Type 0 where
  pub bucket : k ≡ bucket_of m u
  pub mem : Mem cap m W k s
  pub past : (t : ℕ) → Mem cap m W k t → s < t → vertex_in (at W t) ≢ u

-- the loop of `before` at p, a member of the bucket above s: x is behind p
pub record Walking (cap m : ℕ) (W N : List ℕ) (k s p x : ℕ) : Type 0 where
  pub mem : Mem cap m W k p
  pub above : s < p
  pub next : x ≡ at N p

module _ {cap m : ℕ} {W H N : List ℕ} (ch : Chained cap m W H N) where
  missing : {u k : ℕ} → k ≡ bucket_of m u → ((t : ℕ) → Mem cap m W k t → vertex_in (at W t) ≢ u) → Missing cap W u
  missing ek f t l n e = f t (l, n, ap (bucket_of m) e ∙ sym ek) e

  pub find-miss : {u k : ℕ} → k ≡ bucket_of m u → First cap m W k None → Slot cap W u cap
  find-miss {u = u} ek f = inr (refl, missing {u = u} ek (λ t mt z. f t mt))

  pub find-start : {u k s : ℕ} → k ≡ bucket_of m u → First cap m W k (Some s) → Seeking cap m W u k s
  find-start ek f = record { bucket = ek; mem = f.0; past = λ t mt l. absurd (omega (arith, f.1 t mt)) }

  -- a head that is no slot has an empty bucket
  pub first-beyond : {k s : ℕ} → s ≡ at H k → cap ≤ s → First cap m W k None
  first-beyond {k = k} es h = λ t mt. absurd (omega (arith, (ch.chain.first k t mt).0.0, es))

  pub first-none : {k s w : ℕ} → s ≡ at H k → w ≡ at W s → (w ≡ vacant) ⊎ (bucket_of m (vertex_in w) ≢ k) → First cap m W k None
  first-none {k} {s} {w} es ew o = λ t mt. go o (ch.chain.first k t mt).0
    where
      q : w ≡ at W (at H k)
      q = ew ∙ ap (at W) es

      go : (w ≡ vacant) ⊎ (bucket_of m (vertex_in w) ≢ k) → Mem cap m W k (at H k) → ⊥
      go (inl z) mh = mh.1 (sym q ∙ z)
      go (inr z) mh = z (ap (λ (x : ℕ). bucket_of m (vertex_in x)) q ∙ mh.2)

  pub first_some : {k s w : ℕ} → s < cap → s ≡ at H k → w ≡ at W s → w ≢ vacant → bucket_of m (vertex_in w) ≡ k → First cap m W k (Some s)
  first_some {k} {s} {w} l es ew n o = (
    (l, (λ z. n (ew ∙ z)), ap (λ (x : ℕ). bucket_of m (vertex_in x)) (sym ew) ∙ o),
    λ t mt. rw es (ch.chain.first k t mt).1,
  )

  -- a turn of `find`: w is the word of s, v its vertex
  module _ {u k s w v : ℕ} (sk : Seeking cap m W u k s) (ew : w ≡ at W s) (ev : v ≡ vertex_in w) where
    vertex : v ≡ vertex_in (at W s)
    vertex = ev ∙ ap vertex_in ew

    pub find-here : v ≡ u → Slot cap W u s
    find-here z = inl (record { low = sk.mem.0; used = sk.mem.1; vertex = sym vertex ∙ z })

    pub find-last : {x : ℕ} → v ≢ u → x ≡ at N s → x ≡ s → Slot cap W u cap
    find-last ne ex es = inr (refl, missing {u = u} sk.bucket (λ t mt y. go t mt y (dec_lt t s) (ℕ_discrete t s)))
      where
        go : (t : ℕ) → Mem cap m W k t → vertex_in (at W t) ≡ u → Dec (t < s) → Dec (t ≡ s) → ⊥
        go t mt y (yes l) d = omega (arith, (ch.chain.step k s sk.mem).skip t mt l)
        go t mt y (no l) (yes q) = ne (vertex ∙ ap (λ (i : ℕ). vertex_in (at W i)) (sym q) ∙ y)
        go t mt y (no l) (no q) = sk.past t mt (omega arith) y

    pub find-next : {x : ℕ} → v ≢ u → x ≡ at N s → x ≢ s → Seeking cap m W u k x
    find-next {x = x} ne ex nx =
        let st = ch.chain.step k s sk.mem in
        let l : at N s < s = omega (arith, st.down) in
        record { bucket = sk.bucket; mem = rw ex (st.mem l); past = λ t mt h y. go t mt h y (dec_lt t s) (ℕ_discrete t s) }
      where
        go : (t : ℕ) → Mem cap m W k t → x < t → vertex_in (at W t) ≡ u → Dec (t < s) → Dec (t ≡ s) → ⊥
        go t mt h y (yes l) d = omega (arith, (ch.chain.step k s sk.mem).skip t mt l)
        go t mt h y (no l) (yes q) = ne (vertex ∙ ap (λ (i : ℕ). vertex_in (at W i)) (sym q) ∙ y)
        go t mt h y (no l) (no q) = sk.past t mt (omega arith) y

    pub find-less : {x : ℕ} → x ≡ at N s → x ≢ s → x < s
    find-less ex nx = omega (arith, (ch.chain.step k s sk.mem).down)

  -- a turn of `before`
  module _ {k s p x : ℕ} (v : Walking cap m W N k s p x) where
    pub walk-down : x ≤ p
    walk-down = rw v.next (ch.chain.step k p v.mem).down

    pub walk-mem : x ≢ p → Mem cap m W k x
    walk-mem ne = let st = ch.chain.step k p v.mem in let l : at N p < p = omega (arith, st.down, v.next) in rw v.next (st.mem l)

    pub walk_end : x ≡ p → Before cap m W N k s p
    walk_end e = record { mem = v.mem; above = v.above; gap = λ z. absurd (omega (arith, v.next)) }

    pub walk-stop : x ≤ s → Before cap m W N k s p
    walk-stop e = record { mem = v.mem; above = v.above; gap = λ z. omega (arith, v.next) }
