-- Slots of four bytes, one behind the other, as they stand in their bytes: one read, one written. Assumes nothing.
use Prim.Native.Nat.{ℕ, ◌+◌, ◌*◌, ◌≤◌, ◌<◌, ◌^◌}
use native.Mathlib.Omega.{arith}
use native.Mathlib.Decide.{dec_lt}
use mathlib.Core.Path.{◌≡◌, sym, ◌∙◌}
use mathlib.Core.Logic.{◌≢◌}
use mathlib.Core.List.{List}
use lib.ListN.{length, set}
use Rattle.table_bytes.specs.Columns.{at, dec, enc, col, put}
use Rattle.table_bytes.proofs.Access.{col-get, col-set, dec-low, dec-high, dec-same, enc-length, round4}

abbrev pub slots : ℕ → List ℕ → List ℕ
slots n b = col 4 n b 0

pub slot_at : (n : ℕ) (b : List ℕ) (i : ℕ) → i < n → dec 4 b (i * 4) ≡ at (slots n b) i
slot_at n b i h = let e : 0 + i * 4 ≡ i * 4 = omega arith in sym (rw e at (col-get 4 n b 0 i h))

pub slot-set : (n : ℕ) (b : List ℕ) (i x : ℕ) → length b ≡ 4 * n → i < n → x < 2 ^ 32 → slots n (put b (i * 4) (enc 4 x)) ≡ set (slots n b) i x
slot-set n b i x len h f = col-set 4 n b c 0 i x h (rw z (dec-same 4 b (i * 4) (enc 4 x) lb (enc-length 4 x) ∙ round4 x f)) (λ j l ne. away j l ne (dec_lt j i))
  where
    c : List ℕ
    c = put b (i * 4) (enc 4 x)

    lb : i * 4 ≤ length b
    lb = omega arith

    z : 0 + i * 4 ≡ i * 4
    z = omega arith

    away : (j : ℕ) → j < n → j ≢ i → Dec (j < i) → dec 4 c (0 + j * 4) ≡ dec 4 b (0 + j * 4)
    away j l ne (yes q) = dec-low 4 b (i * 4) (enc 4 x) _ lb (omega arith)
    away j l ne (no q) = dec-high 4 b (i * 4) (enc 4 x) _ lb (rw (enc-length 4 x) (omega arith))
