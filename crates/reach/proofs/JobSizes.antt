-- The tables of a job are no larger than the program's room: at most 512 vertices and 1,024 walks. Assumes nothing.
use mathlib.Core.Path.{◌≡◌, sym, ap, subst, ◌∙◌}
use mathlib.Core.Logic.{⊎_elim}
use mathlib.Core.Bool.{true, false, cond, ◌&&◌}
use mathlib.Core.List.{List, []}
use Prim.Native.Nat.{ℕ, zero, suc, ◌+◌, ◌-◌, ◌*◌, ◌/◌, ◌≤◌, ◌<◌}
use native.Mathlib.Omega.{arith}
use native.Mathlib.Nat.{mul-add}
use lib.Dec.{eqb, leb, ltb}
use lib.ListN.{length, drop, length-append, length-take}
use borrow.Author.Tests.{eqb-true, ltb-true}
use Rattle.journeys.specs.Counting.{count, joined}
use Rattle.journeys.proofs.Tests.{split, cond-true, cond-false, and_both, same-or-below}
use Rattle.journeys.proofs.Counting.{is_one, is_zero}
use Rattle.job.specs.Job.{Read, job, faulty, Question, kind_at, of_kind, most, sound, first_faulty, body, table_of, read_as, job_of}

abbrev Faulty : Read → Type 0
Faulty (job v w h q) = ⊥
Faulty (faulty n) = Unit {0}

module _ (s : List ℕ) where
  -- all records up to the first faulty one are sound
  all_sound : (n i : ℕ) → first_faulty s n i ≡ i + n → (j : ℕ) → i ≤ j → j < i + n → sound s j ≡ true
  unfolding first_faulty
  all_sound zero i e j a b = absurd (omega arith)
  all_sound (suc n) i e j a b =
      ⊎_elim
      (λ (t : sound s i ≡ true).
      let f : first_faulty s n (i + 1) ≡ i + 1 + n = sym (cond-true (first_faulty s n (i + 1)) i t) ∙ e ∙ (let z : i + suc n ≡ i + 1 + n = omega arith in z) in
      ⊎_elim (λ (q : i ≡ j). subst (λ (k : ℕ). sound s k ≡ true) q t) (λ (q : i < j). all_sound n (i + 1) f j (omega arith) (omega arith)) (same-or-below a))
      (λ (t : sound s i ≡ false). let f : i ≡ i + suc n = sym (cond-false (first_faulty s n (i + 1)) i t) ∙ e in absurd (omega arith))
      (split (sound s i))

  -- a sound record is not one too many of its kind
  room_of : (k i : ℕ) → kind_at s i ≡ k → sound s i ≡ true → of_kind s k i < most k
  unfolding sound
  room_of k i e t =
      let x = (and_both (leb (kind_at s (i - 1)) (kind_at s i) && ltb (of_kind s (kind_at s i) i) (most (kind_at s i))) _ t).0 in
      subst (λ (j : ℕ). of_kind s j i < most j) e (ltb-true _ _ (and_both (leb (kind_at s (i - 1)) (kind_at s i)) _ x).1)

  kind-most : (k n : ℕ) → ((j : ℕ) → j < n → sound s j ≡ true) → of_kind s k n ≤ most k
  unfolding of_kind count
  kind-most k zero h = omega arith
  kind-most k (suc n) h =
      ⊎_elim (λ (t : eqb (kind_at s n) k ≡ true). omega (arith, is_one t, room_of k n (eqb-true _ _ t) (h n (omega arith))))
      (λ (t : eqb (kind_at s n) k ≡ false). omega (arith, is_zero t, kind-most k n (λ j l. h j (omega arith))))
      (split (eqb (kind_at s n) k))

  -- a table has no more bytes than its records
  table-most : (kind size n : ℕ) → length (joined (λ i. cond (eqb (kind_at s i) kind) (body s size i) []) n) ≤ size * of_kind s kind n
  unfolding of_kind count joined body
  table-most kind size zero = omega arith
  table-most kind size (suc n) =
      let before = joined (λ i. cond (eqb (kind_at s i) kind) (body s size i) []) n in
      let long = length-append before (cond (eqb (kind_at s n) kind) (body s size n) []) in
      let times = mul-add size (count (λ i. eqb (kind_at s i) kind) n) (cond (eqb (kind_at s n) kind) 1 0) in
      ⊎_elim
      (λ (t : eqb (kind_at s n) kind ≡ true).
      let this : length (cond (eqb (kind_at s n) kind) (body s size n) []) ≤ size = rw t (omega (arith, length-take size (drop (20 * n + 4) s))) in
      let one : size * cond (eqb (kind_at s n) kind) 1 0 ≡ size = ap (λ (x : ℕ). size * x) (is_one t) ∙ (let z : size * 1 ≡ size = omega arith in z) in
      omega (arith, long, times, this, one, table-most kind size n))
      (λ (t : eqb (kind_at s n) kind ≡ false).
      let this : length (cond (eqb (kind_at s n) kind) (body s size n) []) ≡ 0 = ap length (cond-false (body s size n) [] t) in
      omega (arith, long, times, this, table-most kind size n))
      (split (eqb (kind_at s n) kind))

  pub few : (v w h : ℕ) (q : Question) → job_of s ≡ job v w h q → (length (table_of s 1 12) / 12 ≤ 512) × (length (table_of s 2 16) / 16 ≤ 1024)
  unfolding job_of read_as table_of most
  few v w h q e =
      ⊎_elim
      (λ (t : (eqb (first_faulty s n 0) n && eqb (20 * n) (length s) && eqb (of_kind s 4 n) 1) ≡ true).
      let first : first_faulty s n 0 ≡ 0 + n = eqb-true (first_faulty s n 0) n (and_both (eqb (first_faulty s n 0) n) _ (and_both _ (eqb (of_kind s 4 n) 1) t).0).0 ∙ (let z : n ≡ 0 + n = omega arith in z) in
      let good : (j : ℕ) → j < n → sound s j ≡ true = λ j l. all_sound n 0 first j (omega arith) (omega arith) in
      (omega (arith, table-most 1 12 n, kind-most 1 n good), omega (arith, table-most 2 16 n, kind-most 2 n good)))
      (λ (t : (eqb (first_faulty s n 0) n && eqb (20 * n) (length s) && eqb (of_kind s 4 n) 1) ≡ false). absurd (no-job (sym (cond-false _ (faulty (first_faulty s n 0)) t) ∙ e)))
      (split (eqb (first_faulty s n 0) n && eqb (20 * n) (length s) && eqb (of_kind s 4 n) 1))
    where
      n : ℕ
      n = length s / 20

      no-job : {f : ℕ} → faulty f ≡ job v w h q → ⊥
      no-job p = subst Faulty p tt
