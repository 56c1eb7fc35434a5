-- What an offer does to the figures: an entry is put where the offer is the lesser, and nothing is changed where it is not. Assumes nothing.
use mathlib.Core.Path.{◌≡◌, refl, sym, ap, subst, fun_ext, ◌∙◌}
use mathlib.Core.Logic.{◌⊎◌, inl, inr, ◌≢◌}
use mathlib.Core.Bool.{Bool, true, false, cond}
use mathlib.Core.List.{List}
use Prim.Native.Nat.{ℕ, zero, suc, ◌≤◌, ◌<◌, min}
use native.Mathlib.Omega.{arith}
use lib.Dec.{eqb, leb, ltb}
use borrow.Author.Tests.{le-leb, lt-leb, eq-eqb, ltb-true, lt-ltb}
use Rattle.journeys.proofs.Tests.{Test, same, other, test, cond-true, cond-false, and_both, and-true, never, le-or-lt}
use Rattle.worktable.specs.Map.{Entry, absent, known, Map, put, one, size, size_to, spent, distance_of, state_of, remaining_of, distance_limit, remaining_limit, Figure}
use Rattle.worktable.specs.Table.{map_of, Gives, Holds, InOrder}
use Rattle.worktable.specs.declared.Table.{Table}
use Rattle.worktable.proofs.MapLaws.{put_same, put_other, size-put, spent-open}
use Rattle.worktable.proofs.PassLaws.{gives_at, gives-twice}
use Rattle.boarding.proofs.Kept.{improved}
use Rattle.improving.specs.Figures.{Plain, figures, Ready, improved_at, Bettered, Lowered}

-- ---- entries that count no records are spent exactly where they are above
pub plain-spent : (o : ℕ) (e : Entry) → state_of e ≡ 0 → remaining_of e ≡ 0 → spent o e ≡ true → o < distance_of e
unfolding state_of remaining_of distance_of spent
plain-spent o absent s r h = never h refl
plain-spent o (known d x n) s r h = ltb-true o d (and_both (eqb n 0) (ltb o d) (sym (spent-open o d x n s) ∙ h)).1

pub plain-kept : (o : ℕ) (e : Entry) → state_of e ≡ 0 → remaining_of e ≡ 0 → e ≢ absent → spent o e ≡ false → distance_of e ≤ o
unfolding state_of remaining_of distance_of
plain-kept o absent s r n h = absurd (n refl)
plain-kept o (known d x k) s r n h = below (le-or-lt d o)
  where
    below : (d ≤ o) ⊎ (o < d) → d ≤ o
    below (inl q) = q
    below (inr q) = never (spent-open o d x k s ∙ and-true (eq-eqb k 0 r) (lt-ltb o d q)) h

-- ---- a vertex without an entry leaves room
size-most : (n : ℕ) (m : Map) → size_to n m ≤ n
unfolding size_to one
size-most zero m = omega arith
size-most (suc n) m = omega (arith, size-most n m, one-most (m n))
  where
    one-most : (e : Entry) → one e ≤ 1
    one-most absent = omega arith
    one-most (known d s k) = omega arith

pub absent-room : (m : Map) (u : ℕ) → u < 65536 → m u ≡ absent → size m < 65536
unfolding size one
absent-room m u l h = omega (arith, size-put 65536 m u (known 0 0 0) l, size-most 65536 (put m u (known 0 0 0)), ap one h)

-- ---- the figures
pub not-bettered : (D u o : ℕ) (f : ℕ → ℕ) → improved D o (f u) ≡ f u → f ≡ improved_at D u o f
not-bettered D u o f h = fun_ext (λ v. go v (test v u))
  where
    go : (v : ℕ) {t : Bool} → Test v u t → f v ≡ cond t (improved D o (f v)) (f v)
    go v (same e) = rw e (sym h)
    go v (other n) = refl

pub improved-above : (D o x : ℕ) → D < o → improved D o x ≡ x
improved-above D o x h = cond-false (min x o) x (lt-leb o D h)

pub improved-kept : (D o x : ℕ) → x ≤ o → improved D o x ≡ x
improved-kept D o x h = go (leb o D)
  where
    go : (t : Bool) → cond t (min x o) x ≡ x
    go true = omega arith
    go false = refl

pub improved-less : (D o x : ℕ) → o ≤ D → o ≤ x → improved D o x ≡ o
improved-less D o x h l = cond-true (min x o) x (le-leb o D h) ∙ omega arith

-- the offer is put
module _ (m : Map) (u o : ℕ) where
  put-plain : Plain m → Plain (put m u (known o 0 0))
  unfolding state_of remaining_of
  put-plain p = record { unsettled = λ v. state v (test v u); spare = λ v. left v (test v u) }
    where
      state : (v : ℕ) {t : Bool} → Test v u t → state_of (put m u (known o 0 0) v) ≡ 0
      state v (same e) = ap state_of (put_same m u (known o 0 0) v e)
      state v (other n) = ap state_of (put_other m u (known o 0 0) v n) ∙ p.unsettled v

      left : (v : ℕ) {t : Bool} → Test v u t → remaining_of (put m u (known o 0 0) v) ≡ 0
      left v (same e) = ap remaining_of (put_same m u (known o 0 0) v e)
      left v (other n) = ap remaining_of (put_other m u (known o 0 0) v n) ∙ p.spare v

  put-figures : (D : ℕ) → o ≤ D → o ≤ distance_of (m u) → (λ v. distance_of (put m u (known o 0 0) v)) ≡ improved_at D u o (λ v. distance_of (m v))
  unfolding distance_of
  put-figures D h l = fun_ext (λ v. go v (test v u))
    where
      go : (v : ℕ) {t : Bool} → Test v u t → distance_of (put m u (known o 0 0) v) ≡ cond t (improved D o (distance_of (m v))) (distance_of (m v))
      go v (same e) =
          let k : distance_of (m u) ≡ distance_of (m v) = ap (λ (x : ℕ). distance_of (m x)) (sym e) in
          ap distance_of (put_same m u (known o 0 0) v e) ∙ sym (improved-less D o (distance_of (m v)) h (omega arith))
      go v (other n) = ap distance_of (put_other m u (known o 0 0) v n)

pub bettered-put : (D u o : ℕ) {t r : Table} {b c : List ℕ} (m : Map) → Ready t b → Holds r c m → r.room ≡ t.room → m ≡ put (map_of t b) u (known o 0 0) → o ≤ D → o ≤ distance_of (map_of t b u)
    → Bettered D u o t r b c
bettered-put D u o {t} {r} {b} {c} m k h room e low less =
    let e' : map_of r c ≡ put (map_of t b) u (known o 0 0) = h.map ∙ e in
    record {
      ready = record { order = h.order; plain = subst Plain (sym e') (put-plain (map_of t b) u o k.plain); room = room ∙ k.room };
      figures_are = ap {B = ℕ → ℕ} (λ (x : Map). λ (v : ℕ). distance_of (x v)) e' ∙ put-figures (map_of t b) u o D low less;
    }

-- nothing is changed
pub bettered-same : (D u o : ℕ) {t : Table} {b : List ℕ} → Ready t b → improved D o (figures t b u) ≡ figures t b u → Bettered D u o t t b b
bettered-same D u o {t} {b} k h = record { ready = k; figures_are = not-bettered D u o (figures t b) h }

-- ---- what the calls ask and give
pub absent-asks : {t : Table} {b : List ℕ} (u o : ℕ) → Ready t b → u < 65536 → o < distance_limit → map_of t b u ≡ absent
    → InOrder t b × (u < 65536) × Figure o × (0 < remaining_limit) × (map_of t b u ≡ absent) × (size (map_of t b) < t.room)
absent-asks {t} {b} u o k l h e = (k.order, l, inl h, omega arith, e, omega (arith, absent-room (map_of t b) u l e, k.room))

pub absent-better : (D u o : ℕ) {t r : Table} {b c : List ℕ} → Ready t b → map_of t b u ≡ absent → o ≤ D → D < distance_limit → Gives t r b c (put (map_of t b) u (known o 0 0)) → Bettered D u o t r b c
unfolding distance_of
absent-better D u o {t} {r} {b} {c} k e low h g = bettered-put D u o (put (map_of t b) u (known o 0 0)) k g.holds g.room refl low (omega (arith, ap distance_of e))

module _ {t g : Table} {b a : List ℕ} {u slot o : ℕ} (k : Lowered t b u slot o) (gone : Gives t g b a (put (map_of t b) u absent)) where
  pub lower-asks : InOrder g a × (u < 65536) × Figure o × (0 < remaining_limit) × (map_of g a u ≡ absent) × (size (map_of g a) < g.room)
  lower-asks =
      let e = gives_at u absent gone in
      (gone.holds.order, k.low, inl k.fits, omega arith, e, omega (arith, absent-room (map_of g a) u k.low e, gone.room, k.ready.room))

  pub lower-better : {r : Table} {c : List ℕ} → Gives g r a c (put (map_of g a) u (known o 0 0)) → (D : ℕ) → o ≤ D → Bettered D u o t r b c
  lower-better h D low =
      bettered-put D u o (put (map_of g a) u (known o 0 0)) k.ready h.holds (h.room ∙ gone.room) (gives-twice u absent (known o 0 0) gone) low (omega (arith, k.less))
