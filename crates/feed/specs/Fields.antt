-- A line as fields between commas: plain, or quoted with doubled quotes. Assumes nothing.
use Rattle.std.specs.Prelude.{Bool, true, false, cond, ◌&&◌, List, [], ◌∷◌, ℕ, eqb, get_or}

-- the fields of a line up to the first stray or open quote, and whether there is none
pub record Row : Type 0 where
  pub fields : List (List ℕ)
  pub sound : Bool

-- where the reading stands: a field begins; inside a plain field; inside a quoted one; behind a quote inside it, which ends it unless another follows
pub data Mode : Type 0 where
  begins : Mode
  plain : Mode
  quoted : Mode
  closed : Mode

-- a field ends, and others follow; the last one ends; a quote is stray, or was never closed
abbrev pub before : Row → Row
before t = record { fields = [] ∷ t.fields; sound = t.sound }

abbrev pub last : Row
last = record { fields = [] ∷ []; sound = true }

abbrev pub broken : Row
broken = record { fields = []; sound = false }

-- a byte in front of the first field; a field that is broken is none
unfoldable pub onto_first : ℕ → List (List ℕ) → List (List ℕ)
onto_first b [] = []
onto_first b (f ∷ fs) = (b ∷ f) ∷ fs

abbrev pub onto : ℕ → Row → Row
onto b t = record { fields = onto_first b t.fields; sound = t.sound }

-- 34 is a quote, 44 a comma
unfoldable pub row : Mode → List ℕ → Row
row begins [] = last
row plain [] = last
row quoted [] = broken
row closed [] = last
row begins (b ∷ r) = cond (eqb b 34) (row quoted r) (cond (eqb b 44) (before (row begins r)) (onto b (row plain r)))
row plain (b ∷ r) = cond (eqb b 44) (before (row begins r)) (cond (eqb b 34) broken (onto b (row plain r)))
row quoted (b ∷ r) = cond (eqb b 34) (row closed r) (onto b (row quoted r))
row closed (b ∷ r) = cond (eqb b 44) (before (row begins r)) (cond (eqb b 34) (onto 34 (row quoted r)) broken)

unfoldable pub row_of : List ℕ → Row
row_of line = row begins line

abbrev pub field : Row → ℕ → List ℕ
field t k = get_or t.fields k []

-- two fields, or a field and a name, byte for byte
unfoldable pub same : List ℕ → List ℕ → Bool
same [] [] = true
same [] (b ∷ g) = false
same (a ∷ f) [] = false
same (a ∷ f) (b ∷ g) = eqb a b && same f g
