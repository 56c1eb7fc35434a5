-- An input longer than the largest job, 51,220 bytes: its first 51,221 bytes give the same N as all of it. Assumes nothing.
use mathlib.Core.Path.{◌≡◌, refl, sym, ap, ap₂, subst, ◌∙◌}
use mathlib.Core.Logic.{◌⊎◌, inl, inr, ⊎_elim, ◌≢◌}
use mathlib.Core.Bool.{true, false, cond, ◌&&◌}
use mathlib.Core.List.{List}
use Prim.Native.Nat.{ℕ, zero, suc, ◌+◌, ◌-◌, ◌*◌, ◌/◌, ◌≤◌, ◌<◌}
use native.Mathlib.Decide.{ℕ_discrete}
use native.Mathlib.Omega.{arith}
use lib.Dec.{eqb, leb, ltb}
use lib.ListN.{length, get_or, take}
use lib.Seq.{get_or-take, length-take-le}
use borrow.Author.Tests.{ne_eqb, le-ltb, ltb-true}
use Rattle.journeys.specs.Counting.{count}
use Rattle.journeys.specs.Bytes.{be32}
use Rattle.journeys.proofs.Tests.{split, cond-true, cond-false, and_both, and_left, and_right, same-or-below}
use Rattle.job.specs.Job.{faulty, kind_at, of_kind, most, sound, first_faulty, read_as, job_of}
use Rattle.job.proofs.Scan.{of-same, of_other}

module _ (s : List ℕ) where
  -- ---- the first faulty of n records
  one_on : (n i : ℕ) → sound s i ≡ true → first_faulty s (suc n) i ≡ first_faulty s n (i + 1)
  unfolding first_faulty
  one_on n i t = cond-true (first_faulty s n (i + 1)) i t

  stops : (n i : ℕ) → sound s i ≡ false → first_faulty s (suc n) i ≡ i
  unfolding first_faulty
  stops n i t = cond-false (first_faulty s n (i + 1)) i t

  none_left : (i : ℕ) → first_faulty s 0 i ≡ i
  unfolding first_faulty
  none_left i = refl

  -- behind sound records the search goes on
  go_on : (n m i : ℕ) → ((j : ℕ) → i ≤ j → j < i + n → sound s j ≡ true) → first_faulty s (n + m) i ≡ first_faulty s m (i + n)
  go_on zero m i h = ap₂ (first_faulty s) (let z : 0 + m ≡ m = omega arith in z) (let z : i ≡ i + 0 = omega arith in z)
  go_on (suc n) m i h =
      ap (λ (k : ℕ). first_faulty s k i) (let z : suc n + m ≡ suc (n + m) = omega arith in z)
      ∙ one_on (n + m) i (h i (omega arith) (omega arith))
      ∙ go_on n m (i + 1) (λ j a b. h j (omega arith) (omega arith))
      ∙ ap (first_faulty s m) (let z : i + 1 + n ≡ i + suc n = omega arith in z)

  -- a record that is not sound ends it
  ends_at : (n m : ℕ) → ((j : ℕ) → j < n → sound s j ≡ true) → sound s n ≡ false → first_faulty s (n + suc m) 0 ≡ n
  ends_at n m h t = go_on n (suc m) 0 (λ j a b. h j (omega arith)) ∙ ap (first_faulty s (suc m)) (let z : 0 + n ≡ n = omega arith in z) ∙ stops m n t

  -- either all are sound, or one is the first that is not
  pub data Scan (n : ℕ) : Type 0 where
    whole : ((j : ℕ) → j < n → sound s j ≡ true) → Scan n
    broken : (k : ℕ) → k < n → ((j : ℕ) → j < k → sound s j ≡ true) → sound s k ≡ false → Scan n

  scan : (n : ℕ) → Scan n
  scan zero = whole (λ j l. absurd (omega arith))
  scan (suc n) = next (scan n) (split (sound s n))
    where
      next : Scan n → (sound s n ≡ true) ⊎ (sound s n ≡ false) → Scan (suc n)
      next (broken k l h t) x = broken k (omega arith) h t
      next (whole h) (inl t) = whole (λ j l. ⊎_elim (λ (q : j ≡ n). subst (λ (i : ℕ). sound s i ≡ true) (sym q) t) (λ (q : j < n). h j q) (same-or-below (let z : j ≤ n = omega arith in z)))
      next (whole h) (inr t) = broken n (omega arith) h t

  -- ---- among sound records no kind stands too often, and there is no fifth
  pub record Kinds (n : ℕ) : Type 0 where
    pub all : of_kind s 1 n + of_kind s 2 n + of_kind s 3 n + of_kind s 4 n ≡ n
    pub few : (of_kind s 1 n ≤ 512) × (of_kind s 2 n ≤ 1024) × (of_kind s 3 n ≤ 1024) × (of_kind s 4 n ≤ 1)

  room : (i : ℕ) → sound s i ≡ true → of_kind s (kind_at s i) i < most (kind_at s i)
  unfolding sound
  room i t = ltb-true _ _ (and_both (leb (kind_at s (i - 1)) (kind_at s i)) _ (and_both (leb (kind_at s (i - 1)) (kind_at s i) && ltb (of_kind s (kind_at s i) i) (most (kind_at s i))) _ t).0).1

  room_of : (k i : ℕ) → kind_at s i ≡ k → sound s i ≡ true → of_kind s k i < most k
  room_of k i e t = subst (λ (j : ℕ). of_kind s j i < most j) e (room i t)

  no_room : (k : ℕ) → k ≢ 1 → k ≢ 2 → k ≢ 3 → k ≢ 4 → most k ≡ 0
  unfolding most
  no_room k a b c d = rw (ne_eqb k 1 a, ne_eqb k 2 b, ne_eqb k 3 c, ne_eqb k 4 d)

  one_more : (i : ℕ) → Kinds i → sound s i ≡ true → Kinds (i + 1)
  unfolding most
  one_more i K t = go (ℕ_discrete (kind_at s i) 1) (ℕ_discrete (kind_at s i) 2) (ℕ_discrete (kind_at s i) 3) (ℕ_discrete (kind_at s i) 4)
    where
      other : (c k : ℕ) → kind_at s i ≡ k → k ≢ c → of_kind s c (i + 1) ≡ of_kind s c i
      other c k e n = of_other s c k i e n

      go : Dec (kind_at s i ≡ 1) → Dec (kind_at s i ≡ 2) → Dec (kind_at s i ≡ 3) → Dec (kind_at s i ≡ 4) → Kinds (i + 1)
      go (yes e) b c d =
          let l : of_kind s 1 i < 512 = room_of 1 i e t in
          let x1 = of-same s 1 i e in let x2 = other 2 1 e (λ z. omega arith) in let x3 = other 3 1 e (λ z. omega arith) in let x4 = other 4 1 e (λ z. omega arith) in
          record { all = omega (arith, K.all, x1, x2, x3, x4); few = (omega (arith, x1, x2, x3, x4, l), omega (arith, x1, x2, x3, x4, K.few), omega (arith, x1, x2, x3, x4, K.few), omega (arith, x1, x2, x3, x4, K.few)) }
      go (no a) (yes e) c d =
          let l : of_kind s 2 i < 1024 = room_of 2 i e t in
          let x1 = other 1 2 e (λ z. omega arith) in let x2 = of-same s 2 i e in let x3 = other 3 2 e (λ z. omega arith) in let x4 = other 4 2 e (λ z. omega arith) in
          record { all = omega (arith, K.all, x1, x2, x3, x4); few = (omega (arith, x1, x2, x3, x4, K.few), omega (arith, x1, x2, x3, x4, l), omega (arith, x1, x2, x3, x4, K.few), omega (arith, x1, x2, x3, x4, K.few)) }
      go (no a) (no b) (yes e) d =
          let l : of_kind s 3 i < 1024 = room_of 3 i e t in
          let x1 = other 1 3 e (λ z. omega arith) in let x2 = other 2 3 e (λ z. omega arith) in let x3 = of-same s 3 i e in let x4 = other 4 3 e (λ z. omega arith) in
          record { all = omega (arith, K.all, x1, x2, x3, x4); few = (omega (arith, x1, x2, x3, x4, K.few), omega (arith, x1, x2, x3, x4, K.few), omega (arith, x1, x2, x3, x4, l), omega (arith, x1, x2, x3, x4, K.few)) }
      go (no a) (no b) (no c) (yes e) =
          let l : of_kind s 4 i < 1 = room_of 4 i e t in
          let x1 = other 1 4 e (λ z. omega arith) in let x2 = other 2 4 e (λ z. omega arith) in let x3 = other 3 4 e (λ z. omega arith) in let x4 = of-same s 4 i e in
          record { all = omega (arith, K.all, x1, x2, x3, x4); few = (omega (arith, x1, x2, x3, x4, K.few), omega (arith, x1, x2, x3, x4, K.few), omega (arith, x1, x2, x3, x4, K.few), omega (arith, x1, x2, x3, x4, l)) }
      go (no a) (no b) (no c) (no d) = absurd (omega (arith, room i t, no_room (kind_at s i) a b c d))

  kinds : (n : ℕ) → ((j : ℕ) → j < n → sound s j ≡ true) → Kinds n
  unfolding of_kind count
  kinds zero h = record { all = refl; few = (omega arith, omega arith, omega arith, omega arith) }
  kinds (suc n) h = subst Kinds (let z : n + 1 ≡ suc n = omega arith in z) (one_more n (kinds n (λ j l. h j (omega arith))) (h n (omega arith)))

  -- Behind 2,561 sound records no record is sound.
  none-behind : Kinds 2561 → sound s 2561 ≡ false
  unfolding sound most
  none-behind K = and_left _ (and_right (leb (kind_at s (2561 - 1)) (kind_at s 2561)) (le-ltb _ _ (full (kind_at s 2561))))
    where
      full : (k : ℕ) → most k ≤ of_kind s k 2561
      full k = go (ℕ_discrete k 1) (ℕ_discrete k 2) (ℕ_discrete k 3) (ℕ_discrete k 4)
        where
          go : Dec (k ≡ 1) → Dec (k ≡ 2) → Dec (k ≡ 3) → Dec (k ≡ 4) → most k ≤ of_kind s k 2561
          go (yes e) b c d = subst (λ (j : ℕ). most j ≤ of_kind s j 2561) (sym e) (let z : 512 ≤ of_kind s 1 2561 = omega (arith, K.all, K.few) in z)
          go (no a) (yes e) c d = subst (λ (j : ℕ). most j ≤ of_kind s j 2561) (sym e) (let z : 1024 ≤ of_kind s 2 2561 = omega (arith, K.all, K.few) in z)
          go (no a) (no b) (yes e) d = subst (λ (j : ℕ). most j ≤ of_kind s j 2561) (sym e) (let z : 1024 ≤ of_kind s 3 2561 = omega (arith, K.all, K.few) in z)
          go (no a) (no b) (no c) (yes e) = subst (λ (j : ℕ). most j ≤ of_kind s j 2561) (sym e) (let z : 1 ≤ of_kind s 4 2561 = omega (arith, K.all, K.few) in z)
          go (no a) (no b) (no c) (no d) = omega (arith, no_room k a b c d)

-- A first faulty record before the end, or bytes behind the last record, make N.
faulty-is : (s : List ℕ) (f : ℕ) → first_faulty s (length s / 20) 0 ≡ f → (f ≢ length s / 20) ⊎ (20 * (length s / 20) ≢ length s) → job_of s ≡ faulty f
unfolding job_of read_as
faulty-is s f e d = cond-false _ (faulty (first_faulty s (length s / 20) 0)) (and_left _ (lost d)) ∙ ap faulty e
  where
    n : ℕ
    n = length s / 20

    lost : (f ≢ n) ⊎ (20 * n ≢ length s) → (eqb (first_faulty s n 0) n && eqb (20 * n) (length s)) ≡ false
    lost (inl q) = and_left _ (ne_eqb (first_faulty s n 0) n (λ z. q (sym e ∙ z)))
    lost (inr q) = and_right (eqb (first_faulty s n 0) n) (ne_eqb (20 * n) (length s) q)

-- p has the first 51,221 bytes of s
module _ (p s : List ℕ) (p-long : length p ≡ 51221) (long : 51221 ≤ length s) (byte-same : (i : ℕ) → i < 51221 → get_or p i 0 ≡ get_or s i 0) where
  word_same : (i : ℕ) → i + 4 ≤ 51221 → be32 p i ≡ be32 s i
  unfolding be32
  word_same i h = rw (byte-same i (omega arith), byte-same (i + 1) (omega arith), byte-same (i + 2) (omega arith), byte-same (i + 3) (omega arith))

  kind-same : (i : ℕ) → i < 2561 → kind_at p i ≡ kind_at s i
  unfolding kind_at
  kind-same i h = word_same (20 * i) (omega arith)

  of-kind-same : (k n : ℕ) → n ≤ 2561 → of_kind p k n ≡ of_kind s k n
  unfolding of_kind count
  of-kind-same k zero h = refl
  of-kind-same k (suc n) h = ap₂ (λ (x y : ℕ). x + cond (eqb y k) 1 0) (of-kind-same k n (omega arith)) (kind-same n (omega arith))

  sound-same : (i : ℕ) → i < 2561 → sound p i ≡ sound s i
  unfolding sound
  sound-same i h =
      rw (kind-same (i - 1) (omega arith), kind-same i h, of-kind-same (kind_at s i) i (omega arith), word_same (20 * i + 16) (omega arith))

  p-count : length p / 20 ≡ 2561
  p-count = omega (arith, p-long)

  same-job : (n : ℕ) × (job_of p ≡ faulty n) × (job_of s ≡ faulty n)
  same-job = go (scan s 2561)
    where
      first : (f : ℕ) → first_faulty p 2561 0 ≡ f → job_of p ≡ faulty f
      first f e = faulty-is p f (ap (λ (n : ℕ). first_faulty p n 0) p-count ∙ e) (inr (λ z. absurd (omega (arith, p-long, p-count))))

      go : Scan s 2561 → (n : ℕ) × (job_of p ≡ faulty n) × (job_of s ≡ faulty n)
      go (broken k l h t) =
          let a : k + suc (2560 - k) ≡ 2561 = omega arith in
          let m : k + suc (length s / 20 - suc k) ≡ length s / 20 = omega arith in
          let b : first_faulty p 2561 0 ≡ k = ap (λ (n : ℕ). first_faulty p n 0) (sym a) ∙ ends_at p k (2560 - k) (λ j y. sound-same j (omega arith) ∙ h j (omega arith)) (sound-same k l ∙ t) in
          let c : first_faulty s (length s / 20) 0 ≡ k = ap (λ (n : ℕ). first_faulty s n 0) (sym m) ∙ ends_at s k (length s / 20 - suc k) h t in
          (k, first k b, faulty-is s k c (inl (λ z. omega arith)))
      go (whole h) =
          let b : first_faulty p 2561 0 ≡ 2561 = go_on p 2561 0 0 (λ j x y. sound-same j (omega arith) ∙ h j (omega arith)) ∙ none_left p 2561 in
          (2561, first 2561 b, ⊎_elim (λ (q : 2561 ≡ length s / 20). exact q) (λ (q : 2561 < length s / 20). more q) (same-or-below (let z : 2561 ≤ length s / 20 = omega arith in z)))
        where
          exact : 2561 ≡ length s / 20 → job_of s ≡ faulty 2561
          exact q = faulty-is s 2561 (ap (λ (n : ℕ). first_faulty s n 0) (sym q) ∙ go_on s 2561 0 0 (λ j x y. h j (omega arith)) ∙ none_left s 2561) (inr (λ z. omega arith))

          more : 2561 < length s / 20 → job_of s ≡ faulty 2561
          more q =
              let m : 2561 + suc (length s / 20 - 2562) ≡ length s / 20 = omega arith in
              faulty-is s 2561 (ap (λ (n : ℕ). first_faulty s n 0) (sym m) ∙ ends_at s 2561 (length s / 20 - 2562) h (none-behind s (kinds s 2561 h))) (inl (λ z. omega arith))

-- It is no job, and N of the first bytes is N of all.
pub long-job : (s : List ℕ) → 51221 ≤ length s → (n : ℕ) × (job_of (take 51221 s) ≡ faulty n) × (job_of s ≡ faulty n)
long-job s long = same-job (take 51221 s) s (length-take-le 51221 s long) long (λ i h. get_or-take 51221 s i 0 h)
