-- A table of frames, from the definitions: both zeros, a denormal, the largest finite number, an infinity, a NaN, and the order of refusals. Assumes nothing.
use mathlib.Core.List.{List, [], ◌∷◌, ◌++◌, flat_map}
use Rattle.std.specs.Prelude.{ℕ, ◌*◌, replicate}
use Rattle.journeys.specs.Bytes.{word}
use Rattle.frame.specs.Frames.{frame_refusal, frame_bounds}

-- how many vertices; the vertices of the list; the words of the coordinate table; what is answered: refusal, place and four patterns of bits
pub record Row : Type 0 where
  pub vertices : ℕ
  pub listed : List ℕ
  pub points : List ℕ
  pub answer : List ℕ

-- the contents of the vertex table and the distances are not looked at
unfoldable pub answered : Row → List ℕ
answered r =
    let v = replicate {A = ℕ} (12 * r.vertices) 165 in
    let l = flat_map (λ (u : ℕ). word u ++ word 7) r.listed in
    let c = flat_map word r.points in
    let x = frame_refusal v l c in
    let b = frame_bounds v l c in
    x.number ∷ x.place ∷ b.least_x ∷ b.greatest_x ∷ b.least_y ∷ b.greatest_y ∷ []

abbrev row : ℕ → List ℕ → List ℕ → List ℕ → Row
row n l p a = record { vertices = n; listed = l; points = p; answer = a }

-- the patterns by name: -0.0, the smallest denormal and its negative, 1.0, -1.0, the largest finite number, infinity, a NaN
abbrev minus_zero : ℕ
minus_zero = 0x8000_0000

abbrev denormal : ℕ
denormal = 1

abbrev minus_denormal : ℕ
minus_denormal = 0x8000_0001

abbrev one : ℕ
one = 0x3f80_0000

abbrev minus_one : ℕ
minus_one = 0xbf80_0000

abbrev largest_finite : ℕ
largest_finite = 0x7f7f_ffff

abbrev infinity : ℕ
infinity = 0x7f80_0000

abbrev not_a_number : ℕ
not_a_number = 0x7fc0_0000

unfoldable pub rows : List Row
rows =
    -- between equals the earliest in the list stays
    row 2 (0 ∷ 1 ∷ []) (minus_zero ∷ 0 ∷ 0 ∷ minus_zero ∷ []) (0 ∷ 0 ∷ minus_zero ∷ minus_zero ∷ 0 ∷ 0 ∷ [])
    ∷ row 2 (1 ∷ 0 ∷ []) (minus_zero ∷ 0 ∷ 0 ∷ minus_zero ∷ []) (0 ∷ 0 ∷ 0 ∷ 0 ∷ minus_zero ∷ minus_zero ∷ [])
    -- by value, not by bits
    ∷ row 3 (0 ∷ 1 ∷ 2 ∷ []) (denormal ∷ one ∷ minus_denormal ∷ minus_one ∷ 0 ∷ largest_finite ∷ []) (0 ∷ 0 ∷ minus_denormal ∷ denormal ∷ minus_one ∷ largest_finite ∷ [])
    -- a list of one
    ∷ row 2 (1 ∷ []) (0 ∷ 0 ∷ minus_one ∷ one ∷ []) (0 ∷ 0 ∷ minus_one ∷ minus_one ∷ one ∷ one ∷ [])
    -- 23 looks at the whole table
    ∷ row 2 (0 ∷ []) (0 ∷ 0 ∷ 0 ∷ infinity ∷ []) (23 ∷ 1 ∷ 0 ∷ 0 ∷ 0 ∷ 0 ∷ [])
    ∷ row 2 (1 ∷ []) (not_a_number ∷ 0 ∷ 0 ∷ 0 ∷ []) (23 ∷ 0 ∷ 0 ∷ 0 ∷ 0 ∷ 0 ∷ [])
    -- 24 comes after 23, and 21 before both; of equal vertices the later
    ∷ row 2 [] (0 ∷ 0 ∷ 0 ∷ infinity ∷ []) (23 ∷ 1 ∷ 0 ∷ 0 ∷ 0 ∷ 0 ∷ [])
    ∷ row 2 [] (0 ∷ 0 ∷ 0 ∷ 0 ∷ []) (24 ∷ 0 ∷ 0 ∷ 0 ∷ 0 ∷ 0 ∷ [])
    ∷ row 2 (1 ∷ 0 ∷ 1 ∷ []) (0 ∷ 0 ∷ 0 ∷ infinity ∷ []) (21 ∷ 2 ∷ 0 ∷ 0 ∷ 0 ∷ 0 ∷ [])
    ∷ row 2 (2 ∷ []) (0 ∷ 0 ∷ 0 ∷ 0 ∷ []) (21 ∷ 0 ∷ 0 ∷ 0 ∷ 0 ∷ 0 ∷ [])
    -- lengths
    ∷ row 0 [] [] (1 ∷ 0 ∷ 0 ∷ 0 ∷ 0 ∷ 0 ∷ [])
    ∷ row 2 (2 ∷ []) (0 ∷ 0 ∷ 0 ∷ []) (1 ∷ 6 ∷ 0 ∷ 0 ∷ 0 ∷ 0 ∷ [])
    ∷ []
