-- Four bytes are the word that they make. Assumes nothing.
use mathlib.Core.Path.{◌≡◌, sym, ap, ◌∙◌}
use mathlib.Core.List.{List, ◌∷◌, []}
use Prim.Native.Nat.{ℕ, suc, ◌+◌, ◌*◌, ◌/◌, ◌%◌, ◌≤◌, ◌<◌}
use native.Mathlib.Omega.{arith}
use lib.ListN.{length, get_or, take, drop}
use lib.Seq.{drop-cons}
use Rattle.journeys.specs.Bytes.{be32, word}

four_bytes : (l : List ℕ) (i : ℕ) → i + 4 ≤ length l → take 4 (drop i l) ≡ get_or l i 0 ∷ get_or l (suc i) 0 ∷ get_or l (suc (suc i)) 0 ∷ get_or l (suc (suc (suc i))) 0 ∷ []
four_bytes l i fits =
    rw (drop-cons l i 0 (omega arith), drop-cons l (suc i) 0 (omega arith), drop-cons l (suc (suc i)) 0 (omega arith), drop-cons l (suc (suc (suc i))) 0 (omega arith))

word_of : (a b c d x : ℕ) → a < 256 → b < 256 → c < 256 → d < 256 → x ≡ a * 16777216 + b * 65536 + c * 256 + d → word x ≡ a ∷ b ∷ c ∷ d ∷ []
unfolding word
word_of a b c d x la lb lc ld e =
    let p0 : x / 16777216 ≡ a = omega arith in
    let p1 : x / 65536 % 256 ≡ b = omega arith in
    let p2 : x / 256 % 256 ≡ c = omega arith in
    let p3 : x % 256 ≡ d = omega arith in
    rw (p0, p1, p2, p3)

pub word-be32 : (l : List ℕ) (i : ℕ) → ((k : ℕ) → get_or l k 0 < 256) → i + 4 ≤ length l → word (be32 l i) ≡ take 4 (drop i l)
unfolding be32
word-be32 l i low fits =
    let n1 : i + 1 ≡ suc i = omega arith in
    let n2 : i + 2 ≡ suc (suc i) = omega arith in
    let n3 : i + 3 ≡ suc (suc (suc i)) = omega arith in
    word_of (get_or l i 0) (get_or l (suc i) 0) (get_or l (suc (suc i)) 0) (get_or l (suc (suc (suc i))) 0) (be32 l i) (low _) (low _) (low _) (low _) (rw (n1, n2, n3))
    ∙ sym (four_bytes l i fits)
