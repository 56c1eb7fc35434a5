-- Records of any one size at the front of a filled buffer: record i of the bytes is one of the list, and each of the list is a record of the bytes.
-- Assumes nothing.
use mathlib.Core.Path.{◌≡◌, refl, sym, ap, subst, ◌∙◌}
use mathlib.Core.Logic.{inl, inr}
use mathlib.Core.List.{List, [], ◌∷◌, ◌++◌, flat_map, append_assoc}
use Prim.Native.Nat.{ℕ, zero, suc, ◌+◌, ◌-◌, ◌*◌, ◌≤◌, ◌<◌}
use native.Mathlib.Omega.{arith}
use native.Mathlib.Nat.{mul-suc, mul-zero, zero-add}
use lib.ListN.{length, replicate, get_or-append}
use lib.Seq.{get_or-append-add}
use Rattle.journeys.specs.Counting.{In}
use Rattle.journeys.specs.Bytes.{be32, filled}

-- 32 bits behind other bytes, and before them
pub be32-behind : (p l : List ℕ) (j : ℕ) → be32 (p ++ l) (length p + j) ≡ be32 l j
unfolding be32
be32-behind p l j =
    let e1 : length p + j + 1 ≡ length p + (j + 1) = omega arith in
    let e2 : length p + j + 2 ≡ length p + (j + 2) = omega arith in
    let e3 : length p + j + 3 ≡ length p + (j + 3) = omega arith in
    rw (e1, e2, e3, get_or-append-add p l j 0, get_or-append-add p l (j + 1) 0, get_or-append-add p l (j + 2) 0, get_or-append-add p l (j + 3) 0)

be32-before : (p l : List ℕ) (j : ℕ) → j + 4 ≤ length p → be32 (p ++ l) j ≡ be32 p j
unfolding be32
be32-before p l j h =
    rw (
      get_or-append p l 0 j (omega arith),
      get_or-append p l 0 (j + 1) (omega arith),
      get_or-append p l 0 (j + 2) (omega arith),
      get_or-append p l 0 (j + 3) (omega arith),
    )

-- x is written in `size` bytes
module _ {A : Type 0} (written : A → List ℕ) (size : ℕ) (long : (x : A) → length (written x) ≡ size) where
  -- every 32 bits of record i are those of x, whatever stands behind it
  abbrev pub Stands : List ℕ → ℕ → A → Type 0
  Stands bytes i x = (j : ℕ) → j + 4 ≤ size → (l : List ℕ) → be32 bytes (size * i + j) ≡ be32 (written x ++ l) j

  -- its first 32 bits
  pub stands-front : (bytes : List ℕ) (i : ℕ) (x : A) → 4 ≤ size → Stands bytes i x → (l : List ℕ) → be32 bytes (size * i) ≡ be32 (written x ++ l) 0
  stands-front bytes i x h s l = let z : size * i ≡ size * i + 0 = omega arith in ap (be32 bytes) z ∙ s 0 (omega arith) l

  first : (x : A) (xs : List A) (rest : List ℕ) → Stands (flat_map written (x ∷ xs) ++ rest) 0 x
  unfolding flat_map
  first x xs rest j h l =
      let z : size * 0 + j ≡ j = simp (mul-zero, zero-add) in
      ap (be32 ((written x ++ flat_map written xs) ++ rest)) z
      ∙ ap (λ (m : List ℕ). be32 m j) (append_assoc (written x) (flat_map written xs) rest)
      ∙ be32-before (written x) (flat_map written xs ++ rest) j (omega (arith, long x))
      ∙ sym (be32-before (written x) l j (omega (arith, long x)))

  later : (y x : A) (xs : List A) (rest : List ℕ) (i : ℕ) → Stands (flat_map written xs ++ rest) i x → Stands (flat_map written (y ∷ xs) ++ rest) (suc i) x
  unfolding flat_map
  later y x xs rest i s j h l =
      let n : size * suc i + j ≡ length (written y) + (size * i + j) = omega (arith, mul-suc size i, long y) in
      ap (be32 ((written y ++ flat_map written xs) ++ rest)) n
      ∙ ap (λ (m : List ℕ). be32 m (length (written y) + (size * i + j))) (append_assoc (written y) (flat_map written xs) rest)
      ∙ be32-behind (written y) (flat_map written xs ++ rest) (size * i + j)
      ∙ s j h l

  pub one_of : (xs : List A) (rest : List ℕ) (i : ℕ) → i < length xs → (x : A) × In x xs × Stands (flat_map written xs ++ rest) i x
  one_of [] rest i h = absurd (omega arith)
  one_of (y ∷ ys) rest zero h = (y, inl refl, first y ys rest)
  one_of (y ∷ ys) rest (suc i) h = let z = one_of ys rest i (omega arith) in (z.0, inr z.1, later y z.0 ys rest i z.2)

  each_of : (xs : List A) (rest : List ℕ) (x : A) → In x xs → (i : ℕ) × (i < length xs) × Stands (flat_map written xs ++ rest) i x
  each_of [] rest x z = absurd z
  each_of (y ∷ ys) rest x (inl p) = (0, omega arith, subst (Stands (flat_map written (y ∷ ys) ++ rest) 0) (sym p) (first y ys rest))
  each_of (y ∷ ys) rest x (inr q) = let z = each_of ys rest x q in (suc z.0, omega (arith, z.1), later y x ys rest z.0 z.2)

  module _ (bytes buffer : List ℕ) (xs : List A) (count : ℕ) (all : count ≡ length xs) (e : bytes ≡ filled buffer (flat_map written xs)) where
    -- Each counted record of the bytes is one of the list.
    pub record-listed : (i : ℕ) → i < count → (x : A) × In x xs × Stands bytes i x
    unfolding filled
    record-listed i h =
        let rest : List ℕ = replicate (length buffer - length (flat_map written xs)) 0 in
        let z = one_of xs rest i (omega arith) in
        (z.0, z.1, λ j k l. ap (λ (m : List ℕ). be32 m (size * i + j)) e ∙ z.2 j k l)

    -- Each of the list is a counted record of the bytes.
    pub listed-record : (x : A) → In x xs → (i : ℕ) × (i < count) × Stands bytes i x
    unfolding filled
    listed-record x q =
        let rest : List ℕ = replicate (length buffer - length (flat_map written xs)) 0 in
        let z = each_of xs rest x q in
        (z.0, omega (arith, z.1), λ j k l. ap (λ (m : List ℕ). be32 m (size * z.0 + j)) e ∙ z.2 j k l)
