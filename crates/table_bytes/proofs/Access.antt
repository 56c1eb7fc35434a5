-- Reads and writes of a column: one law on bytes by position gives every read, every write and what each leaves alone.
use mathlib.Core.Path.{◌≡◌, refl, sym, ap, ap₂, subst, ◌∙◌}
use mathlib.Core.Logic.{◌≢◌}
use mathlib.Core.List.{List, ◌++◌, append-nil}
use Prim.Native.Nat.{ℕ, zero, suc, ◌-◌, ◌+◌, ◌*◌, ◌/◌, ◌<◌, ◌≤◌, ◌^◌}
use native.Mathlib.Nat.{suc-mul, le_of_suc-le-suc, not-suc-le-zero, zero-mul, add-zero, mul-le-mul_right}
use native.Mathlib.Omega.{arith}
use native.Mathlib.Decide.{dec_lt, ℕ_discrete}
use lib.ListN.{length, get_or, set, take, drop, length-append, length-take, length-drop, length-set, get_or-append}
use lib.Seq.{sets, sets-eq, drop-length, length-take-le, get_or-take, get_or-drop, get_or-append-add, ext_get_or, get_or-set_same, get_or-set_other}
use borrow.Rule.Slice.PartMut.{put_mid}
use Rattle.table_bytes.specs.Columns.{dec, enc, col, cols, set_w, set_t, set_h, set_n, put, Sized}

pub dec-ext : (w : ℕ) (b c : List ℕ) (o p : ℕ) → ((j : ℕ) → j < w → get_or b (o + j) 0 ≡ get_or c (p + j) 0) → dec w b o ≡ dec w c p
dec-ext zero b c o p f = refl
dec-ext (suc w) b c o p f =
    ap₂ (λ (x y : ℕ). x + 256 * y)
    (simp (add-zero) at (f 0 (omega arith)))
    (dec-ext w b c (o + 1) (p + 1) (λ j h.
    let e : (o + 1) + j ≡ o + (j + 1) = omega arith in
    let e' : (p + 1) + j ≡ p + (j + 1) = omega arith in
    rw (e, e') (f (j + 1) (omega arith))))

-- a part's number
pub dec-part : (w n : ℕ) (b : List ℕ) (o : ℕ) → w ≤ n → dec w (take n (drop o b)) 0 ≡ dec w b o
dec-part w n b o h = dec-ext w _ b 0 o (λ j l.
    let e : 0 + j ≡ j = omega arith in
    let k : j < n = omega arith in
    rw e (get_or-take n (drop o b) j 0 k ∙ get_or-drop o b j 0))

put_in : (b : List ℕ) (o : ℕ) (l : List ℕ) (j : ℕ) → o ≤ length b → j < length l → get_or (put b o l) (o + j) 0 ≡ get_or l j 0
put_in b o l j h k =
    let e : length (take o b) ≡ o = length-take-le o b h in
    ap (λ (m : ℕ). get_or (put b o l) (m + j) 0) (sym e)
    ∙ get_or-append-add (take o b) _ j 0 ∙ get_or-append l _ 0 j k

put_low : (b : List ℕ) (o : ℕ) (l : List ℕ) (j : ℕ) → o ≤ length b → j < o → get_or (put b o l) j 0 ≡ get_or b j 0
put_low b o l j h k =
    get_or-append (take o b) _ 0 j (rw (length-take-le o b h) k) ∙ get_or-take o b j 0 k

put-high : (b : List ℕ) (o : ℕ) (l : List ℕ) (j : ℕ) → o ≤ length b → get_or (put b o l) (o + (length l + j)) 0 ≡ get_or b (o + (length l + j)) 0
put-high b o l j h =
    let e : length (take o b) ≡ o = length-take-le o b h in
    ap (λ (m : ℕ). get_or (put b o l) (m + (length l + j)) 0) (sym e)
    ∙ get_or-append-add (take o b) _ (length l + j) 0 ∙ get_or-append-add l _ j 0
    ∙ get_or-drop (length l) (drop o b) j 0 ∙ get_or-drop o b (length l + j) 0

pub dec-low : (w : ℕ) (b : List ℕ) (o : ℕ) (l : List ℕ) (p : ℕ) → o ≤ length b → p + w ≤ o → dec w (put b o l) p ≡ dec w b p
dec-low w b o l p h k = dec-ext w _ _ p p (λ j m. put_low b o l (p + j) h (omega arith))

pub dec-high : (w : ℕ) (b : List ℕ) (o : ℕ) (l : List ℕ) (p : ℕ) → o ≤ length b → o + length l ≤ p → dec w (put b o l) p ≡ dec w b p
dec-high w b o l p h k = dec-ext w _ _ p p (λ j m.
    let e : p + j ≡ o + (length l + ((p + j) - (o + length l))) = omega arith in
    rw e (put-high b o l ((p + j) - (o + length l)) h))

pub dec-same : (w : ℕ) (b : List ℕ) (o : ℕ) (l : List ℕ) → o ≤ length b → length l ≡ w → dec w (put b o l) o ≡ dec w l 0
dec-same w b o l h e = dec-ext w _ l o 0 (λ j m.
    let z : 0 + j ≡ j = omega arith in
    rw z (put_in b o l j h (omega arith)))

pub col-length : (w n : ℕ) (b : List ℕ) (o : ℕ) → length (col w n b o) ≡ n
unfolding col
col-length w zero b o = refl
col-length w (suc n) b o = ap suc (col-length w n b (o + w))

pub col-get : (w n : ℕ) (b : List ℕ) (o i : ℕ) → i < n → get_or (col w n b o) i 0 ≡ dec w b (o + i * w)
unfolding col
col-get w zero b o i h = absurd (not-suc-le-zero h)
col-get w (suc n) b o zero h = rw (zero-mul, add-zero)
col-get w (suc n) b o (suc i) h =
    let e : o + suc i * w ≡ (o + w) + i * w = omega (arith, suc-mul i w) in
    rw e (col-get w n b (o + w) i (le_of_suc-le-suc h))

pub col-same : (w n : ℕ) (b c : List ℕ) (o : ℕ) → ((i : ℕ) → i < n → dec w c (o + i * w) ≡ dec w b (o + i * w)) → col w n c o ≡ col w n b o
col-same w n b c o f = ext_get_or 0 _ _ (col-length w n c o ∙ sym (col-length w n b o)) (λ i h.
    let k : i < n = rw (col-length w n c o) at h in
    col-get w n c o i k ∙ f i k ∙ sym (col-get w n b o i k))

pub col-set : (w n : ℕ) (b c : List ℕ) (o i x : ℕ) → i < n → dec w c (o + i * w) ≡ x → ((j : ℕ) → j < n → j ≢ i → dec w c (o + j * w) ≡ dec w b (o + j * w)) → col w n c o ≡ set (col w n b o) i x
col-set w n b c o i x l e f = ext_get_or 0 _ _ (col-length w n c o ∙ sym (length-set (col w n b o) i x ∙ col-length w n b o)) (λ j h.
    let k : j < n = rw (col-length w n c o) at h in
    col-get w n c o j k ∙ go j k (ℕ_discrete j i))
  where
    go : (j : ℕ) → j < n → Dec (j ≡ i) → dec w c (o + j * w) ≡ get_or (set (col w n b o) i x) j 0
    go j k (yes q) = rw q (e ∙ sym (get_or-set_same (col w n b o) i x 0 (rw (col-length w n b o) l)))
    go j k (no q) = f j k q ∙ sym (get_or-set_other (col w n b o) i j x 0 q ∙ col-get w n b o j k)

-- stores of a part
pub stores : (vs p : List ℕ) → length p ≡ length vs → sets p 0 vs ≡ vs
stores vs p e =
    let z : 0 + length vs ≡ length p = omega arith in
    sets-eq vs p 0 (omega arith) ∙ ap (λ (n : ℕ). vs ++ drop n p) z ∙ ap (λ (l : List ℕ). vs ++ l) (drop-length p) ∙ append-nil vs

pub round8 : (x : ℕ) → x < 2 ^ 64 → dec 8 (enc 8 x) 0 ≡ x
unfolding enc
round8 x h = omega arith

pub round4 : (x : ℕ) → x < 2 ^ 32 → dec 4 (enc 4 x) 0 ≡ x
unfolding enc
round4 x h = omega arith

pub round2 : (x : ℕ) → x < 65536 → dec 2 (enc 2 x) 0 ≡ x
unfolding enc
round2 x h = omega arith

pub enc-length : (w x : ℕ) → length (enc w x) ≡ w
unfolding enc
enc-length zero x = refl
enc-length (suc w) x = ap suc (enc-length w (x / 256))

-- a part that is read, and the buffer after a part of it was written
span : (o w : ℕ) → o + w - o ≡ w
span o w = omega arith

pub get : (w : ℕ) (b : List ℕ) (o : ℕ) → dec w (take (o + w - o) (drop o b)) 0 ≡ dec w b o
get w b o = rw (span o w) (dec-part w w b o (omega arith))

pub put-between : (w : ℕ) (b y : List ℕ) (o e x : ℕ) → e ≡ o + w → y ≡ enc w x → put_mid o (e - o) b y ≡ put b o (enc w x)
put-between w b y o e x q f = let z : e - o ≡ w = omega arith in rw (f, z, enc-length w x)

pub put_back : (w : ℕ) (b y : List ℕ) (o x : ℕ) → y ≡ enc w x → put_mid o (o + w - o) b y ≡ put b o (enc w x)
put_back w b y o x e = put-between w b y o (o + w) x refl e

pub put-length : (b : List ℕ) (o : ℕ) (l : List ℕ) → o + length l ≤ length b → length (put b o l) ≡ length b
put-length b o l h = simp (length-append, length-take, length-drop) (omega arith)

-- a read of the words
pub word_at : (r : ℕ) (b : List ℕ) (i : ℕ) → i < r → dec 8 b (i * 8) ≡ get_or (cols r b).w i 0
word_at r b i h = let e : 0 + i * 8 ≡ i * 8 = omega arith in sym (rw e at (col-get 8 r b 0 i h))

-- stores to a column
module _ (r : ℕ) (b : List ℕ) (i x : ℕ) (len : length b ≡ 16 * r) where
  pub word_set : i < r → x < 2 ^ 64 → cols r (put b (i * 8) (enc 8 x)) ≡ set_w (cols r b) i x
  word_set h f k = record {
    w = col-set 8 r b c 0 i x h (rw z (dec-same 8 b (i * 8) (enc 8 x) lb (enc-length 8 x) ∙ round8 x f))
        (λ j l ne. away j l ne (dec_lt j i)) k;
    t = col-same 2 (2 * r) b c (8 * r) (λ j l. dec-high 2 b (i * 8) (enc 8 x) _ lb (rw (enc-length 8 x) (omega arith))) k;
    h = col-same 2 r b c (12 * r) (λ j l. dec-high 2 b (i * 8) (enc 8 x) _ lb (rw (enc-length 8 x) (omega arith))) k;
    n = col-same 2 r b c (14 * r) (λ j l. dec-high 2 b (i * 8) (enc 8 x) _ lb (rw (enc-length 8 x) (omega arith))) k;
  }
    where
      c : List ℕ
      c = put b (i * 8) (enc 8 x)

      lb : i * 8 ≤ length b
      lb = omega arith

      z : 0 + i * 8 ≡ i * 8
      z = omega arith

      away : (j : ℕ) → j < r → j ≢ i → Dec (j < i) → dec 8 c (0 + j * 8) ≡ dec 8 b (0 + j * 8)
      away j l ne (yes q) = dec-low 8 b (i * 8) (enc 8 x) _ lb (omega arith)
      away j l ne (no q) = dec-high 8 b (i * 8) (enc 8 x) _ lb (rw (enc-length 8 x) (omega arith))

  -- a 2-byte store in the column of n numbers at o; the columns before and behind it
  same_low : (v n p o : ℕ) → p + n * v ≤ o → o ≤ length b → col v n (put b o (enc 2 x)) p ≡ col v n b p
  same_low v n p o h l = col-same v n b (put b o (enc 2 x)) p (λ j q. dec-low v b o (enc 2 x) (p + j * v) l (omega (arith, fit j q)))
    where
      fit : (j : ℕ) → j < n → j * v + v ≤ n * v
      fit j q = subst (λ (z : ℕ). z ≤ n * v) (suc-mul j v) (mul-le-mul_right v q)

  same-high : (v n p o : ℕ) → o + 2 ≤ p → o ≤ length b → col v n (put b o (enc 2 x)) p ≡ col v n b p
  same-high v n p o h l = col-same v n b (put b o (enc 2 x)) p (λ j q. dec-high v b o (enc 2 x) (p + j * v) l (rw (enc-length 2 x) (omega arith)))

  set-two : (n p : ℕ) → i < n → x < 65536 → p + n * 2 ≤ length b → col 2 n (put b (p + i * 2) (enc 2 x)) p ≡ set (col 2 n b p) i x
  set-two n p h f l = col-set 2 n b (put b (p + i * 2) (enc 2 x)) p i x h (dec-same 2 b (p + i * 2) (enc 2 x) lb (enc-length 2 x) ∙ round2 x f) (λ j q ne. away j q ne (dec_lt j i))
    where
      lb : p + i * 2 ≤ length b
      lb = omega arith

      away : (j : ℕ) → j < n → j ≢ i → Dec (j < i) → dec 2 (put b (p + i * 2) (enc 2 x)) (p + j * 2) ≡ dec 2 b (p + j * 2)
      away j l ne (yes q) = dec-low 2 b (p + i * 2) (enc 2 x) _ lb (omega arith)
      away j l ne (no q) = dec-high 2 b (p + i * 2) (enc 2 x) _ lb (rw (enc-length 2 x) (omega arith))

  pub tree_set : i < 2 * r → x < 65536 → cols r (put b (8 * r + i * 2) (enc 2 x)) ≡ set_t (cols r b) i x
  tree_set h f k = record {
    w = same_low 8 r 0 (8 * r + i * 2) (omega arith) (omega arith) k;
    t = set-two (2 * r) (8 * r) h f (omega arith) k;
    h = same-high 2 r (12 * r) (8 * r + i * 2) (omega arith) (omega arith) k;
    n = same-high 2 r (14 * r) (8 * r + i * 2) (omega arith) (omega arith) k;
  }

  pub head-set : i < r → x < 65536 → cols r (put b (12 * r + i * 2) (enc 2 x)) ≡ set_h (cols r b) i x
  head-set h f k = record {
    w = same_low 8 r 0 (12 * r + i * 2) (omega arith) (omega arith) k;
    t = same_low 2 (2 * r) (8 * r) (12 * r + i * 2) (omega arith) (omega arith) k;
    h = set-two r (12 * r) h f (omega arith) k;
    n = same-high 2 r (14 * r) (12 * r + i * 2) (omega arith) (omega arith) k;
  }

  pub next-set : i < r → x < 65536 → cols r (put b (14 * r + i * 2) (enc 2 x)) ≡ set_n (cols r b) i x
  next-set h f k = record {
    w = same_low 8 r 0 (14 * r + i * 2) (omega arith) (omega arith) k;
    t = same_low 2 (2 * r) (8 * r) (14 * r + i * 2) (omega arith) (omega arith) k;
    h = same_low 2 r (12 * r) (14 * r + i * 2) (omega arith) (omega arith) k;
    n = set-two r (14 * r) h f (omega arith) k;
  }

pub sized : (r : ℕ) (b : List ℕ) → Sized r (cols r b)
sized r b = record { w = col-length 8 r b 0; t = col-length 2 (2 * r) b (8 * r); h = col-length 2 r b (12 * r); n = col-length 2 r b (14 * r) }
