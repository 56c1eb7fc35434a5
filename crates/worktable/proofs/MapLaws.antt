-- The model map: a changed vertex, a passed record and a spent entry, how many there are, the ascending records, and the foremost one.
use mathlib.Core.Path.{◌≡◌, refl, sym, ap, ap₂, fun_ext, ◌∙◌}
use mathlib.Core.Bool.{true, false, ◌&&◌}
use mathlib.Core.Logic.{◌≢◌, ◌⊎◌, inl, inr}
use mathlib.Core.List.{◌++◌, append-nil}
use Prim.Native.Nat.{ℕ, zero, suc, ◌-◌, ◌+◌, ◌<◌, ◌≤◌, min}
use native.Mathlib.Omega.{arith}
use native.Mathlib.Decide.{ℕ_discrete}
use lib.Dec.{eqb, ltb}
use borrow.Author.Tests.{ne_eqb}
use Rattle.journeys.proofs.Tests.{and_left, cond-true, cond-false, never}
use lib.ListN.{length, length-append}
use Rattle.worktable.specs.Map.{Entry, absent, known, Map, choose, put, touched, spent, swept, one, size_to, row, rows_to, Foremost}

pub choose_yes : {A : Type 0} (d : Dec A) (x y : Entry) → A → choose d x y ≡ x
unfolding choose
choose_yes (yes p) x y a = refl
choose_yes (no p) x y a = absurd (p a)

pub choose_no : {A : Type 0} (d : Dec A) (x y : Entry) → (A → ⊥) → choose d x y ≡ y
unfolding choose
choose_no (yes p) x y a = absurd (a p)
choose_no (no p) x y a = refl

pub put_same : (m : Map) (u : ℕ) (e : Entry) (v : ℕ) → v ≡ u → put m u e v ≡ e
unfolding put
put_same m u e v q = choose_yes (ℕ_discrete v u) e (m v) q

pub put_other : (m : Map) (u : ℕ) (e : Entry) (v : ℕ) → v ≢ u → put m u e v ≡ m v
unfolding put
put_other m u e v q = choose_no (ℕ_discrete v u) e (m v) q

-- a vertex that gets what it has
pub put_id : (m : Map) (u : ℕ) (e : Entry) → m u ≡ e → put m u e ≡ m
put_id m u e q = fun_ext (λ v. go v (ℕ_discrete v u))
  where
    go : (v : ℕ) → Dec (v ≡ u) → put m u e v ≡ m v
    go v (yes p) = put_same m u e v p ∙ sym q ∙ ap m (sym p)
    go v (no p) = put_other m u e v p

pub absent-known : {d s n : ℕ} → absent ≡ known d s n → ⊥
unfolding one
absent-known {d} {s} {n} e = let z : ◌≡◌ {A = ℕ} 0 1 = ap one e in omega arith

-- a vertex that gets one entry after another
pub put-put : (m : Map) (u : ℕ) (d e : Entry) → put (put m u d) u e ≡ put m u e
put-put m u d e = fun_ext (λ v. go v (ℕ_discrete v u))
  where
    go : (v : ℕ) → Dec (v ≡ u) → put (put m u d) u e v ≡ put m u e v
    go v (yes p) = put_same (put m u d) u e v p ∙ sym (put_same m u e v p)
    go v (no p) = put_other (put m u d) u e v p ∙ put_other m u d v p ∙ sym (put_other m u e v p)

-- ---- a record is passed
pub touched-open : (b d s n : ℕ) → s ≡ 0 → touched b (known d s n) ≡ known (min b d) s (n - 1)
unfolding touched
touched-open b d zero n h = refl
touched-open b d (suc s) n h = absurd (omega arith)

pub touched-settled : (b d s n : ℕ) → s ≢ 0 → touched b (known d s n) ≡ known d s (n - 1)
unfolding touched
touched-settled b d zero n h = absurd (h refl)
touched-settled b d (suc s) n h = refl

-- nobody comes or goes by it
pub touched-absent : (b : ℕ) (e : Entry) → touched b e ≡ absent → e ≡ absent
unfolding touched
touched-absent b absent h = refl
touched-absent b (known d zero n) h = absurd (absent-known (sym h))
touched-absent b (known d (suc s) n) h = absurd (absent-known (sym h))

pub absent-touched : (b : ℕ) {e : Entry} → e ≡ absent → touched b e ≡ absent
unfolding touched
absent-touched b h = rw h

-- ---- an entry is spent, or stays
pub spent-open : (D d s n : ℕ) → s ≡ 0 → spent D (known d s n) ≡ (eqb n 0 && ltb D d)
unfolding spent
spent-open D d zero n h = refl
spent-open D d (suc s) n h = absurd (omega arith)

pub spent-settled : (D d s n : ℕ) → s ≢ 0 → spent D (known d s n) ≡ eqb n 0
unfolding spent
spent-settled D d zero n h = absurd (h refl)
spent-settled D d (suc s) n h = refl

pub spent_some : (D d s n : ℕ) → n ≢ 0 → spent D (known d s n) ≡ false
unfolding spent
spent_some D d zero n h = and_left (ltb D d) (ne_eqb n 0 h)
spent_some D d (suc s) n h = ne_eqb n 0 h

pub spent-held : (D : ℕ) {e : Entry} → spent D e ≡ true → e ≢ absent
unfolding spent
spent-held D {e} h z = let k : spent D e ≡ false = ap (spent D) z in never h k

pub swept-spent : (D : ℕ) (e : Entry) → spent D e ≡ true → swept D e ≡ absent
unfolding swept
swept-spent D e h = cond-true absent e h

pub swept_kept : (D : ℕ) (e : Entry) → spent D e ≡ false → swept D e ≡ e
unfolding swept
swept_kept D e h = cond-false absent e h

pub size_same : (n : ℕ) (m k : Map) → ((u : ℕ) → u < n → m u ≡ k u) → size_to n m ≡ size_to n k
unfolding size_to
size_same zero m k f = refl
size_same (suc n) m k f = ap₂ (λ (x : ℕ) (e : Entry). x + one e) (size_same n m k (λ u h. f u (omega arith))) (f n (omega arith))

pub size-put : (n : ℕ) (m : Map) (u : ℕ) (e : Entry) → u < n → size_to n (put m u e) + one (m u) ≡ size_to n m + one e
unfolding size_to
size-put zero m u e h = absurd (omega arith)
size-put (suc n) m u e h = go (ℕ_discrete u n) (λ k. size-put n m u e k)
  where
    go : Dec (u ≡ n) → (u < n → size_to n (put m u e) + one (m u) ≡ size_to n m + one e) → size_to n (put m u e) + one (put m u e n) + one (m u) ≡ size_to n m + one (m n) + one e
    go (yes q) ih =
        let a = size_same n (put m u e) m (λ v l. put_other m u e v (λ z. absurd (omega arith))) in
        let b = ap one (put_same m u e n (sym q)) in
        let d : one (m u) ≡ one (m n) = ap (λ (x : ℕ). one (m x)) q in
        omega arith
    go (no q) ih =
        let a = ih (omega arith) in
        let b = ap one (put_other m u e n (λ z. q (sym z))) in
        omega arith

pub size-empty : (n : ℕ) (m : Map) → ((u : ℕ) → m u ≡ absent) → size_to n m ≡ 0
unfolding size_to one
size-empty zero m f = refl
size-empty (suc n) m f = let a = size-empty n m f in let b : one (m n) ≡ 0 = ap one (f n) in omega arith

-- vertices from k on that are not in the map count nothing and give no record
pub size-beyond : (n k : ℕ) (m : Map) → ((u : ℕ) → k ≤ u → m u ≡ absent) → k ≤ n → size_to n m ≡ size_to k m
unfolding size_to one
size-beyond zero k m f h = let e : k ≡ 0 = omega arith in rw e
size-beyond (suc n) k m f h = go (ℕ_discrete k (suc n)) (λ l. size-beyond n k m f l)
  where
    go : Dec (k ≡ suc n) → (k ≤ n → size_to n m ≡ size_to k m) → size_to n m + one (m n) ≡ size_to k m
    go (yes e) ih = rw e
    go (no ne) ih = let b : one (m n) ≡ 0 = ap one (f n (omega arith)) in omega (arith, ih (omega arith))

row-length : (u : ℕ) (e : Entry) → length (row u e) ≡ one e
unfolding row one
row-length u absent = refl
row-length u (known d s n) = refl

pub rows-length : (n : ℕ) (m : Map) → length (rows_to n m) ≡ size_to n m
unfolding rows_to size_to
rows-length zero m = refl
rows-length (suc n) m = length-append (rows_to n m) (row n (m n)) ∙ ap₂ (λ (x y : ℕ). x + y) (rows-length n m) (row-length n (m n))

pub rows-beyond : (n k : ℕ) (m : Map) → ((u : ℕ) → k ≤ u → m u ≡ absent) → k ≤ n → rows_to n m ≡ rows_to k m
unfolding rows_to row
rows-beyond zero k m f h = let e : k ≡ 0 = omega arith in rw e
rows-beyond (suc n) k m f h = go (ℕ_discrete k (suc n)) (λ l. rows-beyond n k m f l)
  where
    go : Dec (k ≡ suc n) → (k ≤ n → rows_to n m ≡ rows_to k m) → rows_to n m ++ row n (m n) ≡ rows_to k m
    go (yes e) ih = rw e
    go (no ne) ih = ap (λ (x : Entry). rows_to n m ++ row n x) (f n (omega arith)) ∙ append-nil (rows_to n m) ∙ ih (omega arith)

-- there is one foremost vertex at most
pub foremost-one : {m : Map} {v d w e : ℕ} → Foremost m v d → Foremost m w e → (v ≡ w) × (d ≡ e)
foremost-one {m} {v} {d} {w} {e} p q = go (p.first w e q.waits) (q.first v d p.waits)
  where
    go : (d < e) ⊎ ((d ≡ e) × (v ≤ w)) → (e < d) ⊎ ((e ≡ d) × (w ≤ v)) → (v ≡ w) × (d ≡ e)
    go (inl a) (inl b) = absurd (omega arith)
    go (inl a) (inr b) = absurd (omega arith)
    go (inr a) (inl b) = absurd (omega arith)
    go (inr a) (inr b) = (omega arith, a.0)
