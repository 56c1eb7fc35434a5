-- The word of a vertex among the slots, and what a store at one slot does to it.
use mathlib.Core.Path.{◌≡◌, refl, sym, ap, ◌∙◌}
use mathlib.Core.Logic.{◌≢◌, ◌⊎◌, inl, inr}
use mathlib.Core.List.{List}
use Prim.Native.Nat.{ℕ, zero, suc, ◌<◌, ◌≤◌}
use native.Mathlib.Omega.{arith}
use native.Mathlib.Decide.{ℕ_discrete}
use lib.ListN.{length, set}
use lib.Seq.{get_or-set_same, get_or-set_other}
use Rattle.table_bytes.specs.Columns.{at}
use Rattle.table_tree.specs.Words.{vacant, vertex_in}
use Rattle.table_tree.specs.Chains.{At, Missing}
use Rattle.worktable.specs.Map.{put}
use Rattle.worktable.specs.Inside.{select, lookup, Single, entry_in}
use Rattle.worktable.proofs.MapLaws.{put_same, put_other}

select_yes : {A : Type 0} (d : Dec A) (x y : ℕ) → A → select d x y ≡ x
unfolding select
select_yes (yes p) x y a = refl
select_yes (no p) x y a = absurd (p a)

select_no : {A : Type 0} (d : Dec A) (x y : ℕ) → (A → ⊥) → select d x y ≡ y
unfolding select
select_no (yes p) x y a = absurd (a p)
select_no (no p) x y a = refl

-- the vertex u is at a slot, or nowhere
Sought : ℕ → List ℕ → ℕ → Type 0
Sought n W u = ((i : ℕ) × At n W u i × (lookup n W u ≡ at W i)) ⊎ (Missing n W u × (lookup n W u ≡ vacant))

sought : (n : ℕ) (W : List ℕ) (u : ℕ) → Sought n W u
unfolding Sought lookup
sought zero W u = inr ((λ i l. absurd (omega arith)), refl)
sought (suc n) W u = go (ℕ_discrete (at W n) vacant) (ℕ_discrete (vertex_in (at W n)) u) (sought n W u)
  where
    next : ℕ
    next = lookup n W u

    Ends : ℕ → Type 0
    Ends x = ((i : ℕ) × At (suc n) W u i × (x ≡ at W i)) ⊎ (Missing (suc n) W u × (x ≡ vacant))

    below : ((at W n ≢ vacant) → vertex_in (at W n) ≢ u) → Sought n W u → Ends next
    below f (inl a) = inl (a.0, record { low = omega (arith, a.1.low); used = a.1.used; vertex = a.1.vertex }, a.2)
    below f (inr a) = inr ((λ i l m. side i l m (ℕ_discrete i n)), a.1)
      where
        side : (i : ℕ) → i < suc n → at W i ≢ vacant → Dec (i ≡ n) → vertex_in (at W i) ≢ u
        side i l m (yes q) = rw q (f (rw q at m))
        side i l m (no q) = a.0 i (omega arith) m

    go : (d : Dec (at W n ≡ vacant)) (e : Dec (vertex_in (at W n) ≡ u)) → Sought n W u → Ends (select d next (select e (at W n) next))
    go (yes p) e s = rw (select_yes (yes p) next (select e (at W n) next) p) (below (λ z. absurd (z p)) s)
    go (no p) (yes q) s = rw (select_no (no p) next (select (yes q) (at W n) next) p, select_yes (yes q) (at W n) next q) (inl (n, record { low = omega arith; used = p; vertex = q }, refl))
    go (no p) (no q) s = rw (select_no (no p) next (select (no q) (at W n) next) p, select_no (no q) (at W n) next q) (below (λ z. q) s)

-- slots that are vacant behind the first n tell nothing
lookup-same : (n : ℕ) (W W' : List ℕ) (u : ℕ) → ((j : ℕ) → j < n → at W' j ≡ at W j) → lookup n W' u ≡ lookup n W u
unfolding lookup
lookup-same zero W W' u f = refl
lookup-same (suc n) W W' u f = rw (f n (omega arith), lookup-same n W W' u (λ j h. f j (omega arith)))

pub lookup-more : (n m : ℕ) (W W' : List ℕ) (u : ℕ) → n ≤ m → ((j : ℕ) → j < n → at W' j ≡ at W j) → ((j : ℕ) → n ≤ j → j < m → at W' j ≡ vacant) → lookup m W' u ≡ lookup n W u
unfolding lookup
lookup-more n zero W W' u h f g = let z : zero ≡ n = omega arith in ap (λ (k : ℕ). lookup k W u) z
lookup-more n (suc m) W W' u h f g = go (ℕ_discrete n (suc m)) (λ k. lookup-more n m W W' u k f (λ j a l. g j a (omega arith)))
  where
    go : Dec (n ≡ suc m) → (n ≤ m → lookup m W' u ≡ lookup n W u) → lookup (suc m) W' u ≡ lookup n W u
    go (yes e) back = ap (λ (k : ℕ). lookup k W' u) (sym e) ∙ lookup-same n W W' u f
    go (no e) back = select_yes (ℕ_discrete (at W' m) vacant) (lookup m W' u) (select (ℕ_discrete (vertex_in (at W' m)) u) (at W' m) (lookup m W' u)) (g m (omega arith) (omega arith)) ∙ back (omega arith)

pub lookup-none : (n : ℕ) (W : List ℕ) (u : ℕ) → Missing n W u → lookup n W u ≡ vacant
unfolding Sought
lookup-none n W u f = go (sought n W u)
  where
    go : Sought n W u → lookup n W u ≡ vacant
    go (inl a) = absurd (f a.0 a.1.low a.1.used a.1.vertex)
    go (inr a) = a.1

pub lookup-missing : (n : ℕ) (W : List ℕ) (u : ℕ) → lookup n W u ≡ vacant → Missing n W u
unfolding Sought
lookup-missing n W u e = go (sought n W u)
  where
    go : Sought n W u → Missing n W u
    go (inl a) = absurd (a.1.used (sym a.2 ∙ e))
    go (inr a) = a.0

pub lookup-at : {n u s : ℕ} {W : List ℕ} → Single n W → At n W u s → lookup n W u ≡ at W s
unfolding Sought
lookup-at {n} {u} {s} {W} one p = go (sought n W u)
  where
    go : Sought n W u → lookup n W u ≡ at W s
    go (inl a) = a.2 ∙ ap (at W) (one a.0 s a.1.low p.low a.1.used p.used (a.1.vertex ∙ sym p.vertex))
    go (inr a) = absurd (a.0 s p.low p.used p.vertex)

pub lookup-slot : {n u : ℕ} {W : List ℕ} → lookup n W u ≢ vacant → (i : ℕ) × At n W u i × (lookup n W u ≡ at W i)
unfolding Sought
lookup-slot {n} {u} {W} e = go (sought n W u)
  where
    go : Sought n W u → (i : ℕ) × At n W u i × (lookup n W u ≡ at W i)
    go (inl a) = a
    go (inr a) = absurd (e a.1)

-- slot s can get the word w for the vertex u: both its words are of u or vacant, and u has no other slot
pub record Fit (cap : ℕ) (W : List ℕ) (s w u : ℕ) : Type 0 where
  pub low : s < cap
  pub inside : cap ≤ length W
  pub old : at W s ≢ vacant → vertex_in (at W s) ≡ u
  pub new : w ≢ vacant → vertex_in w ≡ u
  pub other : (i : ℕ) → i < cap → i ≢ s → at W i ≢ vacant → vertex_in (at W i) ≢ u

module _ {cap s w u : ℕ} {W : List ℕ} (f : Fit cap W s w u) where
  here : at (set W s w) s ≡ w
  here = get_or-set_same W s w 0 (omega (arith, f.low, f.inside))

  there : (i : ℕ) → i ≢ s → at (set W s w) i ≡ at W i
  there i ne = get_or-set_other W s i w 0 ne

  -- a used slot after the store
  After : ℕ → ℕ → Type 0
  After i v = ((i ≡ s) × (v ≡ u) × (w ≢ vacant)) ⊎ ((i ≢ s) × (v ≢ u) × At cap W v i)

  after : (i : ℕ) → i < cap → at (set W s w) i ≢ vacant → (v : ℕ) → vertex_in (at (set W s w) i) ≡ v → After i v
  unfolding After
  after i l n v e = go (ℕ_discrete i s)
    where
      go : Dec (i ≡ s) → ((i ≡ s) × (v ≡ u) × (w ≢ vacant)) ⊎ ((i ≢ s) × (v ≢ u) × At cap W v i)
      go (yes q) =
          let z : at (set W s w) i ≡ w = rw q here in
          let nw : w ≢ vacant = λ y. n (z ∙ y) in
          inl (q, sym e ∙ ap vertex_in z ∙ f.new nw, nw)
      go (no q) =
          let z = there i q in
          let nw : at W i ≢ vacant = λ y. n (z ∙ y) in
          let ev : vertex_in (at W i) ≡ v = ap vertex_in (sym z) ∙ e in
          inr (q, (λ y. f.other i l q nw (ev ∙ y)), record { low = l; used = nw; vertex = ev })

  pub set_single : Single cap W → Single cap (set W s w)
  unfolding After
  set_single one a b la lb na nb e = go (after a la na (vertex_in (at (set W s w) a)) refl) (after b lb nb (vertex_in (at (set W s w) a)) (sym e))
    where
      go : After a (vertex_in (at (set W s w) a)) → After b (vertex_in (at (set W s w) a)) → a ≡ b
      go (inl p) (inl q) = p.0 ∙ sym q.0
      go (inl p) (inr q) = absurd (q.1 p.1)
      go (inr p) (inl q) = absurd (p.1 q.1)
      go (inr p) (inr q) = one a b la lb p.2.used q.2.used (p.2.vertex ∙ sym q.2.vertex)

  pub set_at : w ≢ vacant → At cap (set W s w) u s
  set_at nw = record { low = f.low; used = λ z. nw (sym here ∙ z); vertex = ap vertex_in here ∙ f.new nw }

  pub set-stays : {v i : ℕ} → i ≢ s → At cap W v i → At cap (set W s w) v i
  set-stays {v} {i} ne p = let z = there i ne in record { low = p.low; used = λ y. p.used (sym z ∙ y); vertex = ap vertex_in z ∙ p.vertex }

  pub set_same : Single cap W → lookup cap (set W s w) u ≡ w
  unfolding After
  set_same one = go (ℕ_discrete w vacant)
    where
      none : w ≡ vacant → Missing cap (set W s w) u
      none e i l n z = go' (after i l n u z)
        where
          go' : After i u → ⊥
          go' (inl p) = p.2 e
          go' (inr p) = p.1 refl

      go : Dec (w ≡ vacant) → lookup cap (set W s w) u ≡ w
      go (yes e) = lookup-none cap (set W s w) u (none e) ∙ sym e
      go (no e) = lookup-at (set_single one) (set_at e) ∙ here

  pub set_other : Single cap W → (v : ℕ) → v ≢ u → lookup cap (set W s w) v ≡ lookup cap W v
  unfolding After Sought
  set_other one v ne = go (sought cap W v)
    where
      off : (i : ℕ) → At cap W v i → i ≢ s
      off i p z = ne (sym p.vertex ∙ ap (λ (x : ℕ). vertex_in (at W x)) z ∙ f.old (λ y. p.used (ap (at W) z ∙ y)))

      none : Missing cap W v → Missing cap (set W s w) v
      none miss i l n z = go' (after i l n v z)
        where
          go' : After i v → ⊥
          go' (inl p) = ne p.1
          go' (inr p) = miss i l p.2.used p.2.vertex

      go : Sought cap W v → lookup cap (set W s w) v ≡ lookup cap W v
      go (inl a) = lookup-at (set_single one) (set-stays (off a.0 a.1) a.1) ∙ there a.0 (off a.0 a.1) ∙ sym a.2
      go (inr a) = lookup-none cap (set W s w) v (none a.0) ∙ sym a.1

  -- the map after the store
  pub set-map : Single cap W → (v : ℕ) → entry_in (lookup cap (set W s w) v) ≡ put (λ x. entry_in (lookup cap W x)) u (entry_in w) v
  set-map one v = go (ℕ_discrete v u)
    where
      go : Dec (v ≡ u) → entry_in (lookup cap (set W s w) v) ≡ put (λ x. entry_in (lookup cap W x)) u (entry_in w) v
      go (yes q) = ap (λ (x : ℕ). entry_in (lookup cap (set W s w) x)) q ∙ ap entry_in (set_same one) ∙ sym (put_same (λ x. entry_in (lookup cap W x)) u (entry_in w) v q)
      go (no q) = ap entry_in (set_other one v q) ∙ sym (put_other (λ x. entry_in (lookup cap W x)) u (entry_in w) v q)
