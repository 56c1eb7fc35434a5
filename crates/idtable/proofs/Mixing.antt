-- The number that is mixed from an id, and the slot that it tells. Assumes nothing.
use Prim.Native.Nat.{ℕ, ◌+◌, ◌*◌, ◌/◌, ◌%◌, ◌≤◌, ◌<◌}
use native.Mathlib.Omega.{arith}
use native.Mathlib.Numerals.{add-one}
use native.Mathlib.Nat.{mod-lt, mul-lt-mul_of_pos_right}
use mathlib.Core.Path.{◌≡◌, refl}
use mathlib.Core.List.{List, [], ◌∷◌}
use lib.ListN.{length, get_or, drop, drop_of_length-le}
use lib.Seq.{drop-cons}
use Rattle.idtable.specs.Table.{mixed, start_of}

pub mixed-on : (y : List ℕ) (h i : ℕ) → i < length y → mixed h (drop i y) ≡ mixed ((h + get_or y i 0) * 2654435761 % 4294967296) (drop (i + 1) y)
unfolding mixed
mixed-on y h i l = rw (drop-cons y i 0 l, add-one i) refl

pub mixed-over : (y : List ℕ) (h i : ℕ) → length y ≤ i → mixed h (drop i y) ≡ h
unfolding mixed
mixed-over y h i l = rw (drop_of_length-le y l) refl

pub mixed-low : (h : ℕ) (y : List ℕ) → h < 4294967296 → mixed h y < 4294967296
unfolding mixed
mixed-low h [] l = l
mixed-low h (b ∷ y) l = mixed-low ((h + b) * 2654435761 % 4294967296) y (mod-lt _ (omega arith))

-- a number below 2^32 times n
pub part_low : (h n : ℕ) → h < 4294967296 → 0 < n → h * n < 4294967296 * n
part_low h n l p = mul-lt-mul_of_pos_right l p

part_of : (x n : ℕ) → x < 4294967296 * n → x / 4294967296 < n
part_of x n l = omega arith

pub start-within : (n : ℕ) (y : List ℕ) → 0 < n → start_of n y < n
unfolding start_of
start-within n y p = part_of (mixed 1 y * n) n (part_low (mixed 1 y) n (mixed-low 1 y (omega arith)) p)

pub start_is : (n : ℕ) (y : List ℕ) (h : ℕ) → h ≡ mixed 1 y → h * n / 4294967296 ≡ start_of n y
unfolding start_of
start_is n y h e = rw e refl

pub part-fits : (n : ℕ) (y : List ℕ) {h : ℕ} → h ≡ mixed 1 y → 0 < n → n < 4294967296 → h * n < 18446744073709551616
part-fits n y {h} e p l = let q : h < 4294967296 = rw e (mixed-low 1 y (omega arith)) in omega (arith, part_low h n q p)
