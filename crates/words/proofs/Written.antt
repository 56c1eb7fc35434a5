-- Bytes written into a buffer: stores one by one, numbers one behind the other, at the front of the unfilled rest; and what reads back.
-- Assumes nothing.
use mathlib.Core.Path.{◌≡◌, refl, sym, ap, ◌∙◌}
use mathlib.Core.List.{List, [], ◌∷◌, ◌++◌, append_assoc, append-nil}
use Prim.Native.Nat.{ℕ, zero, suc, ◌+◌, ◌-◌, ◌*◌, ◌/◌, ◌%◌, ◌≤◌, ◌<◌}
use native.Mathlib.Omega.{arith}
use native.Mathlib.Nat.{zero-add, div-div-eq-div-mul, div-add-mod'}
use lib.ListN.{length, get_or, take, drop, set, length-append, length-drop, drop_of_length-le, get_or-append}
use lib.Seq.{sets-eq, take_at, drop-append-add, drop-drop, length-take-le, take_all, get_or-append-add, get_or-take, get_or-drop}
use borrow.Rule.Slice.PartMut.{put_mid}
use Rattle.journeys.specs.Bytes.{be32, word}
use Rattle.words.specs.Written.{written}

-- four stores, as the code numbers their places
pub four : (l : List ℕ) (i a b c d : ℕ) → i + 4 ≤ length l
    → set (set (set (set l i a) (i + 1) b) (i + 2) c) (i + 3) d ≡ written l i (a ∷ b ∷ c ∷ d ∷ [])
unfolding written
four l i a b c d h =
    let e1 : i + 1 ≡ suc i = omega arith in
    let e2 : i + 2 ≡ suc (suc i) = omega arith in
    let e3 : i + 3 ≡ suc (suc (suc i)) = omega arith in
    rw (e1, e2, e3) (sets-eq (a ∷ b ∷ c ∷ d ∷ []) l i h)

pub length-word : (x : ℕ) → length (word x) ≡ 4
unfolding word
length-word x = refl

module _ (d : List ℕ) (at : ℕ) (p : List ℕ) (fits : at + length p ≤ length d) where
  head : length (take at d ++ p) ≡ at + length p
  head = simp (length-append) (omega (arith, length-take-le at d (omega arith)))

  pub length-written : length (written d at p) ≡ length d
  unfolding written
  length-written = simp (length-append, length-drop) (omega (arith, length-take-le at d (omega arith)))

  -- what is written behind is one run with what stands before it
  pub written_next : (q : List ℕ) → written (written d at p) (at + length p) q ≡ written d at (p ++ q)
  unfolding written
  written_next q =
      let rest = drop (at + length p) d in
      let e1 : take (at + length p) ((take at d ++ p) ++ rest) ≡ take at d ++ p = take_at (take at d ++ p) rest (at + length p) head in
      let n : at + length p + length q ≡ at + length (p ++ q) = simp length-append (omega arith) in
      let e2 : drop (at + length p + length q) ((take at d ++ p) ++ rest) ≡ drop (at + length (p ++ q)) d =
      ap (λ (k : ℕ). drop (k + length q) ((take at d ++ p) ++ rest)) (sym head)
      ∙ drop-append-add (take at d ++ p) rest (length q)
      ∙ drop-drop (length q) (at + length p) d
      ∙ ap (λ (k : ℕ). drop k d) n in
      rw (e1, e2) (ap (λ (l : List ℕ). l ++ drop (at + length (p ++ q)) d) (append_assoc (take at d) p q))

  -- what a callee writes at the front of the rest that it is lent
  pub rest-written : (k : ℕ) → k ≡ length d - at → put_mid at k d (p ++ drop (length p) (take k (drop at d))) ≡ written d at p
  unfolding written
  rest-written k e =
      let whole : take k (drop at d) ≡ drop at d = take_all k (drop at d) (simp length-drop (omega arith)) in
      let none : drop k (drop at d) ≡ [] = drop_of_length-le (drop at d) {i = k} (simp length-drop (omega arith)) in
      rw (whole, none, append-nil, drop-drop, ← append_assoc)

  -- the bytes before, in and behind what was written
  front_long : length (take at d) ≡ at
  front_long = length-take-le at d (omega arith)

  pub before-kept : (j : ℕ) → j < at → get_or (written d at p) j 0 ≡ get_or d j 0
  unfolding written
  before-kept j h =
      rw append_assoc (get_or-append (take at d) (p ++ drop (at + length p) d) 0 j (omega (arith, front_long)) ∙ get_or-take at d j 0 h)

  pub reads-back : (k : ℕ) → k < length p → get_or (written d at p) (at + k) 0 ≡ get_or p k 0
  unfolding written
  reads-back k h =
      ap (λ (n : ℕ). get_or ((take at d ++ p) ++ drop (at + length p) d) (n + k) 0) (sym front_long)
      ∙ rw append_assoc (get_or-append-add (take at d) (p ++ drop (at + length p) d) k 0 ∙ get_or-append p (drop (at + length p) d) 0 k h)

  pub behind-kept : (j : ℕ) → at + length p ≤ j → get_or (written d at p) j 0 ≡ get_or d j 0
  unfolding written
  behind-kept j h =
      let e : j ≡ length (take at d ++ p) + (j - (at + length p)) = omega (arith, head) in
      let f : at + length p + (j - (at + length p)) ≡ j = omega arith in
      ap (λ (n : ℕ). get_or ((take at d ++ p) ++ drop (at + length p) d) n 0) e
      ∙ get_or-append-add (take at d ++ p) (drop (at + length p) d) (j - (at + length p)) 0
      ∙ get_or-drop (at + length p) d (j - (at + length p)) 0
      ∙ ap (λ (n : ℕ). get_or d n 0) f

-- what is written at the front
pub front : (d p : List ℕ) → written d 0 p ≡ p ++ drop (length p) d
unfolding written
front d p = rw zero-add

-- two, three and four numbers at the front, one behind the other
module _ (d : List ℕ) (a b : ℕ) where
  pub two-words : 8 ≤ length d → written (written d 0 (word a)) 4 (word b) ≡ written d 0 (word a ++ word b)
  unfolding word
  two-words h = written_next d 0 (word a) (omega arith) (word b)

  pub three-words : (c : ℕ) → 12 ≤ length d → written (written (written d 0 (word a)) 4 (word b)) 8 (word c) ≡ written d 0 (word a ++ word b ++ word c)
  unfolding word
  three-words c h = ap (λ (l : List ℕ). written l 8 (word c)) (two-words (omega arith)) ∙ written_next d 0 (word a ++ word b) (omega arith) (word c)

  pub four-words : (c e : ℕ) → 16 ≤ length d
      → written (written (written (written d 0 (word a)) 4 (word b)) 8 (word c)) 12 (word e) ≡ written d 0 (word a ++ word b ++ word c ++ word e)
  unfolding word
  four-words c e h =
      ap (λ (l : List ℕ). written l 12 (word e)) (three-words c (omega arith)) ∙ written_next d 0 (word a ++ word b ++ word c) (omega arith) (word e)

-- ---- a number's bytes joined again
parted : (n : ℕ) → n / 256 * 256 + n % 256 ≡ n
parted n = div-add-mod' n 256

put-together : (x q1 q2 q3 r0 r1 r2 : ℕ) → q1 * 256 + r0 ≡ x → q2 * 256 + r1 ≡ q1 → q3 * 256 + r2 ≡ q2
    → q3 * 16777216 + r2 * 65536 + r1 * 256 + r0 ≡ x
put-together x q1 q2 q3 r0 r1 r2 a b c = omega arith

-- whatever stands before and behind it
pub word_back : (x : ℕ) → x / 16777216 * 16777216 + x / 65536 % 256 * 65536 + x / 256 % 256 * 256 + x % 256 ≡ x
word_back x =
    let e : x / 65536 ≡ x / 256 / 256 = sym (div-div-eq-div-mul x 256 256) in
    let f : x / 16777216 ≡ x / 256 / 256 / 256 = sym (div-div-eq-div-mul (x / 256) 256 256 ∙ div-div-eq-div-mul x 256 65536) in
    rw (e, f)
    (put-together x (x / 256) (x / 256 / 256) (x / 256 / 256 / 256) (x % 256) (x / 256 % 256) (x / 256 / 256 % 256) (parted x) (parted (x / 256)) (parted (x / 256 / 256)))

pub be32-word : (a b : List ℕ) (x : ℕ) → be32 (a ++ word x ++ b) (length a) ≡ x
unfolding be32 word
be32-word a b x =
    let l = word x ++ b in
    let z : length a + 0 ≡ length a = omega arith in
    let first = rw z at (get_or-append-add a l 0 0) in
    rw append_assoc (rw (first, get_or-append-add a l 1 0, get_or-append-add a l 2 0, get_or-append-add a l 3 0) (word_back x))

-- bytes copied to a place, and the four of a number
pub copied : (d p : List ℕ) (at k : ℕ) → k ≡ length p → put_mid at k d p ≡ written d at p
unfolding written
copied d p at k e = rw (e, drop-drop) (sym (append_assoc (take at d) p (drop (at + length p) d)))

pub word-copied : (d p : List ℕ) (at k x : ℕ) → k ≡ 4 → x < 4294967296 → p ≡ x / 16777216 % 256 ∷ x / 65536 % 256 ∷ x / 256 % 256 ∷ x % 256 ∷ [] → put_mid at k d p ≡ written d at (word x)
unfolding word
word-copied d p at k x e h f =
    let top : x / 16777216 % 256 ≡ x / 16777216 = omega arith in
    copied d p at k (e ∙ ap length (sym f)) ∙ ap (written d at) (f ∙ rw top refl)

-- what stands behind is as it was
pub rest-kept : (p l : List ℕ) (k : ℕ) → get_or (p ++ drop (length p) l) (length p + k) 0 ≡ get_or l (length p + k) 0
rest-kept p l k = get_or-append-add p (drop (length p) l) k 0 ∙ get_or-drop (length p) l k 0

-- the bytes of a number of 32 bits are bytes
pub word_bytes : (x k : ℕ) → x < 4294967296 → get_or (word x) k 0 < 256
unfolding word
word_bytes x zero h = omega arith
word_bytes x (suc zero) h = omega arith
word_bytes x (suc (suc zero)) h = omega arith
word_bytes x (suc (suc (suc zero))) h = omega arith
word_bytes x (suc (suc (suc (suc k)))) h = omega arith
