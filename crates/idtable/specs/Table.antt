-- A table of ids in numbered slots: an id is looked for from one slot on, each free or of a line. Assumes nothing.
use Rattle.std.specs.Prelude.{◌≡◌, Bool, true, false, cond, List, [], ◌∷◌, ℕ, zero, suc, ◌+◌, ◌-◌, ◌*◌, ◌/◌, ◌%◌, ◌<◌, ◌≤◌, eqb, length, get_or, Option, Some, None}
use Rattle.feed.specs.Fields.{same}
use Rattle.naming.specs.Named.{line_at, next_at, first_bytes, found_from}
use Rattle.idtable.specs.declared.End.{End}
use Rattle.idtable.specs.declared.End.TheVariants.{Found, Free, Full}

-- ---- where an id is looked for: from a slot that a number mixed from it tells, round and round
unfoldable pub mixed : ℕ → List ℕ → ℕ
mixed h [] = h
mixed h (b ∷ r) = mixed ((h + b) * 2654435761 % 4294967296) r

unfoldable pub start_of : ℕ → List ℕ → ℕ
start_of n y = mixed 1 y * n / 4294967296

unfoldable pub next_of : ℕ → ℕ → ℕ
next_of n k = cond (eqb (k + 1) n) 0 (k + 1)

-- ---- a slot: 0 where it is free, else the place of a line, counted from 1
abbrev pub at : List ℕ → ℕ → ℕ
at l k = get_or l k 0

abbrev pub Cleared : ℕ → List ℕ → Type 0
Cleared n l = (k : ℕ) → k < n → at l k ≡ 0

-- every slot that is not free is of a line of the text
abbrev pub Lying : List ℕ → ℕ → List ℕ → Type 0
Lying text n l = (k : ℕ) → k < n → at l k ≤ length text

module _ (text : List ℕ) (n : ℕ) (l : List ℕ) (y : List ℕ) where
  -- what a slot holds is of a line with the id
  unfoldable pub has_id : ℕ → Bool
  has_id x = same y (first_bytes (line_at text (x - 1)))

  -- what so many slots from one on hold for the id; 0 where a free one comes first
  unfoldable pub look : ℕ → ℕ → ℕ
  look zero k = 0
  look (suc f) k = cond (eqb (at l k) 0) 0 (cond (has_id (at l k)) (at l k) (look f (next_of n k)))

  -- what the table holds for the id
  unfoldable pub in_table : ℕ
  in_table = look n (start_of n y)

  -- the search comes to a slot, with so many left
  pub data Way : ℕ → ℕ → Type 0 where
    start : Way n (start_of n y)
    on : {f k : ℕ} → Way (suc f) k → (at l k ≡ 0 → ⊥) → has_id (at l k) ≡ false → Way f (next_of n k)

  -- the search has come to a free slot
  pub record Vacant (k : ℕ) : Type 0 where
    pub none : in_table ≡ 0
    pub within : k < n
    pub vacant : at l k ≡ 0
    pub left : ℕ
    pub way : Way (suc left) k

  -- it ends with what the table holds
  abbrev pub Ended : End → Type 0
  Ended (Found x) = (in_table ≡ x) × (x ≡ 0 → ⊥)
  Ended (Free k) = Vacant k
  Ended Full = in_table ≡ 0

-- it holds the lines before a place: what it does not hold, the lines from there on decide
pub record Holds (text : List ℕ) (place n : ℕ) (l : List ℕ) : Type 0 where
  pub lies : Lying text n l
  pub owns : (y : List ℕ) (k : ℕ) → k < n → (at l k ≡ 0 → ⊥) → has_id text n l y (at l k) ≡ true → in_table text n l y ≡ at l k
  pub found : (y : List ℕ) → found_from text 0 y ≡ cond (eqb (in_table text n l y) 0) (found_from text place y) (in_table text n l y)

-- what becomes of a table that holds the lines before a place, as the line there takes at most one slot, or finds none free
abbrev pub Grafted : List ℕ → ℕ → List ℕ → Option ℕ → Type 0
Grafted text place l (Some taken) = (taken ≤ 1) × Holds text (next_at text place) (length l) l
Grafted text place l None = Holds text place (length l) l

-- so many slots are the table of the lines of a list before place m: from there on the lines decide
pub record Grown (text : List ℕ) (m : ℕ) (l : List ℕ) : Type 0 where
  pub some : 0 < length l
  pub few : length l < 4294967296
  pub within : m ≤ length text
  pub holds : Holds text m (length l) l
