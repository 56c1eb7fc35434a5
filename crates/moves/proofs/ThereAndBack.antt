-- A table moved forward and backward is the table that it was, and so is one moved backward and forward whose trips are all 0. Assumes nothing.
use mathlib.Core.Path.{◌≡◌, sym, ap, ◌∙◌}
use mathlib.Core.Logic.{⊎_elim}
use mathlib.Core.List.{List, ◌++◌}
use Prim.Native.Nat.{ℕ, zero, suc, ◌+◌, ◌*◌, ◌/◌, ◌%◌, ◌≤◌, ◌<◌}
use native.Mathlib.Nat.{mul-le-mul, mul-suc, mul-zero, div-add-mod}
use native.Mathlib.Omega.{arith}
use lib.ListN.{length, get_or, take, drop, length-drop}
use lib.Seq.{take_all, take-add, take_at, take-append-le, drop-append-le, drop_at, take-take, drop-drop, drop-cons}
use Rattle.journeys.specs.Counting.{joined}
use Rattle.journeys.specs.Bytes.{be32, word}
use Rattle.journeys.proofs.Tests.{last-or-below}
use Rattle.journeys.proofs.Counting.{joined_same}
use Rattle.records.proofs.Sizes.{start_fits}
use Rattle.moves.specs.Moved.{common, trip, lengthened, shortened}
use Rattle.moves.proofs.Rows.{common-long, row-long, rows_long}

-- record i of n that stand one behind the other, k bytes each
pub row_at : (f : ℕ → List ℕ) (k n i : ℕ) → ((j : ℕ) → j < n → length (f j) ≡ k) → i < n → take k (drop (k * i) (joined f n)) ≡ f i
unfolding joined
row_at f k zero i h l = absurd (omega arith)
row_at f k (suc n) i h l =
    ⊎_elim
    (λ (e : i ≡ n).
    let long : length (joined f n) ≡ k * i = rows_long f k n (λ j b. h j (omega arith)) ∙ ap (λ (x : ℕ). k * x) (sym e) in
    ap (take k) (drop_at (joined f n) (f n) (k * i) long) ∙ take_all k (f n) (omega (arith, h n (omega arith))) ∙ ap f (sym e))
    (λ (b : i < n).
    let long = rows_long f k n (λ j b. h j (omega arith)) in
    let room : k * suc i ≤ k * n = mul-le-mul {n₁ = k} {m₁ = suc i} (omega arith) b in
    let next : k * suc i ≡ k * i + k = mul-suc k i in
    ap (take k) (drop-append-le (k * i) (joined f n) (f n) (omega arith))
    ∙ take-append-le k (drop (k * i) (joined f n)) (f n) (simp length-drop (omega arith))
    ∙ row_at f k n i (λ j c. h j (omega arith)) b)
    (last-or-below l)

-- a table of whole records is its records
records-joined : (k n : ℕ) (b : List ℕ) → joined (λ i. take k (drop (k * i) b)) n ≡ take (k * n) b
unfolding joined
records-joined k zero b = let e : k * 0 ≡ 0 = mul-zero k in rw e
records-joined k (suc n) b =
    ap (λ (l : List ℕ). l ++ take k (drop (k * n) b)) (records-joined k n b) ∙ sym (take-add (k * n) k b) ∙ ap (λ (m : ℕ). take m b) (sym (mul-suc k n))

whole : (k : ℕ) (b : List ℕ) → 0 < k → length b % k ≡ 0 → k * (length b / k) ≡ length b
whole k b p e = omega (arith, div-add-mod (length b) k)

common-at : (f : ℕ → List ℕ) (n i : ℕ) → ((j : ℕ) → j < n → length (f j) ≡ 16) → i < n → common 16 (joined f n) i ≡ f i
unfolding common
common-at f n i h l = row_at f 16 n i h l

-- four bytes that read as 0 are four zeros
zero_word : (b : List ℕ) (at : ℕ) → at + 4 ≤ length b → be32 b at ≡ 0 → take 4 (drop at b) ≡ word 0
unfolding be32 word
zero_word b at l e =
    let z0 : get_or b at 0 ≡ 0 = omega arith in
    let z1 : get_or b (suc at) 0 ≡ 0 = ap (λ (k : ℕ). get_or b k 0) (let n : suc at ≡ at + 1 = omega arith in n) ∙ omega arith in
    let z2 : get_or b (suc (suc at)) 0 ≡ 0 = ap (λ (k : ℕ). get_or b k 0) (let n : suc (suc at) ≡ at + 2 = omega arith in n) ∙ omega arith in
    let z3 : get_or b (suc (suc (suc at))) 0 ≡ 0 = ap (λ (k : ℕ). get_or b k 0) (let n : suc (suc (suc at)) ≡ at + 3 = omega arith in n) ∙ omega arith in
    rw (drop-cons b at 0 (omega arith), drop-cons b (suc at) 0 (omega arith), drop-cons b (suc (suc at)) 0 (omega arith), drop-cons b (suc (suc (suc at))) 0 (omega arith), z0, z1, z2, z3)

-- what both sizes have, read from a longer record
pub common-front : (b : List ℕ) (i : ℕ) (p q : List ℕ) → length p ≡ 16 → take 20 (drop (20 * i) b) ≡ p ++ q → common 20 b i ≡ p
unfolding common
common-front b i p q l e = sym (take-take 16 20 (drop (20 * i) b) (omega arith)) ∙ ap (take 16) e ∙ take_at p q 16 l

-- a table of 16-byte records is what they all have
common-all : (b : List ℕ) → length b % 16 ≡ 0 → joined (common 16 b) (length b / 16) ≡ b
unfolding common
common-all b e =
    records-joined 16 (length b / 16) b ∙ ap (λ (k : ℕ). take k b) (whole 16 b (omega arith) e) ∙ take_all (length b) b (omega arith)

-- forward, then backward
pub there_and_back : (b : List ℕ) → length b % 16 ≡ 0 → shortened (lengthened b) ≡ b
unfolding lengthened shortened
there_and_back b e =
    let n = length b / 16 in
    let row : ℕ → List ℕ = λ i. common 16 b i ++ word 0 in
    let count : length (joined row n) / 20 ≡ n = omega (arith, rows_long row 20 n (row-long b)) in
    ap (joined (common 20 (joined row n))) count
    ∙ joined_same (common 20 (joined row n)) (common 16 b) n
    (λ i l. common-front (joined row n) i (common 16 b i) (word 0) (common-long 16 b i (omega arith) l) (row_at row 20 n i (row-long b) l))
    ∙ common-all b e

-- a record of 20 bytes whose trip is 0
trip-none : (b : List ℕ) (i : ℕ) → i < length b / 20 → trip b i ≡ 0 → common 20 b i ++ word 0 ≡ take 20 (drop (20 * i) b)
unfolding common trip
trip-none b i l e =
    let fits = start_fits 20 i (length b) (omega arith) l in
    ap (λ (w : List ℕ). take 16 (drop (20 * i) b) ++ w) (sym (zero_word b (20 * i + 16) (omega arith) e) ∙ ap (take 4) (sym (drop-drop 16 (20 * i) b)))
    ∙ sym (take-add 16 4 (drop (20 * i) b))

-- backward, then forward
pub back-and-there : (b : List ℕ) → length b % 20 ≡ 0 → ((i : ℕ) → i < length b / 20 → trip b i ≡ 0) → lengthened (shortened b) ≡ b
unfolding lengthened shortened
back-and-there b e none =
    let n = length b / 20 in
    let long = rows_long (common 20 b) 16 n (λ i l. common-long 20 b i (omega arith) l) in
    let count : length (joined (common 20 b) n) / 16 ≡ n = omega (arith, long) in
    ap (joined (λ i. common 16 (joined (common 20 b) n) i ++ word 0)) count
    ∙ joined_same _ (λ i. take 20 (drop (20 * i) b)) n
    (λ i l. ap (λ (p : List ℕ). p ++ word 0) (own i l) ∙ trip-none b i l (none i l))
    ∙ records-joined 20 n b
    ∙ ap (λ (k : ℕ). take k b) (whole 20 b (omega arith) e)
    ∙ take_all (length b) b (omega arith)
  where
    own : (i : ℕ) → i < length b / 20 → common 16 (joined (common 20 b) (length b / 20)) i ≡ common 20 b i
    own i l = common-at (common 20 b) (length b / 20) i (λ j k. common-long 20 b j (omega arith) k) l
