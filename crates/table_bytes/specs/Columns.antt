-- The buffer as four columns of numbers.
use Rattle.std.specs.Prelude.{◌≡◌, List, [], ◌∷◌, ◌++◌, ℕ, zero, suc, ◌+◌, ◌*◌, ◌/◌, ◌%◌, length, get_or, set, take, drop}

-- w bytes from o on, the lowest first
abbrev pub dec : ℕ → List ℕ → ℕ → ℕ
dec zero b o = 0
dec (suc w) b o = get_or b o 0 + 256 * dec w b (o + 1)

unfoldable pub enc : ℕ → ℕ → List ℕ
enc zero x = []
enc (suc w) x = x % 256 ∷ enc w (x / 256)

-- n numbers of w bytes from o on
unfoldable pub col : ℕ → ℕ → List ℕ → ℕ → List ℕ
col w zero b o = []
col w (suc n) b o = dec w b o ∷ col w n b (o + w)

-- words, tree, heads, nexts
pub record Cols : Type 0 where
  pub w : List ℕ
  pub t : List ℕ
  pub h : List ℕ
  pub n : List ℕ

abbrev pub cols : ℕ → List ℕ → Cols
cols r b = record { w = col 8 r b 0; t = col 2 (2 * r) b (8 * r); h = col 2 r b (12 * r); n = col 2 r b (14 * r) }

abbrev pub at : List ℕ → ℕ → ℕ
at l i = get_or l i 0

abbrev pub set_w : Cols → ℕ → ℕ → Cols
set_w c i x = record { w = set c.w i x; t = c.t; h = c.h; n = c.n }

abbrev pub set_t : Cols → ℕ → ℕ → Cols
set_t c i x = record { w = c.w; t = set c.t i x; h = c.h; n = c.n }

abbrev pub set_h : Cols → ℕ → ℕ → Cols
set_h c i x = record { w = c.w; t = c.t; h = set c.h i x; n = c.n }

abbrev pub set_n : Cols → ℕ → ℕ → Cols
set_n c i x = record { w = c.w; t = c.t; h = c.h; n = set c.n i x }

-- b with the bytes l from o on
abbrev pub put : List ℕ → ℕ → List ℕ → List ℕ
put b o l = take o b ++ (l ++ drop (length l) (drop o b))

pub record Sized (r : ℕ) (c : Cols) : Type 0 where
  pub w : length c.w ≡ r
  pub t : length c.t ≡ 2 * r
  pub h : length c.h ≡ r
  pub n : length c.n ≡ r
