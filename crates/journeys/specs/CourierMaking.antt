-- Making the list of records by where they leave, RULES 27.2: it judges the tables like the check, and a refusal leaves the target as it was. Assumes nothing.
use Rattle.std.specs.Prelude.{cond, List, [], ◌∷◌, ℕ, eqb}
use Rattle.journeys.specs.Tables.{tables_of}
use Rattle.journeys.specs.Refusals.{Refusal, chain, table_lengths, contents}
use Rattle.journeys.specs.CourierList.{list_bytes, list_length}

-- the two answers, and the target afterwards
pub record Made : Type 0 where
  pub refusal : ℕ
  pub place : ℕ
  pub list : List ℕ

-- 1 with the places 0, 1, 2 and 6, then 2 to 6
unfoldable pub making_refusal : ℕ → List ℕ → List ℕ → List ℕ → List ℕ → Refusal
making_refusal size v w h target = chain (table_lengths size v w h ∷ list_length (tables_of size v w h) target ∷ contents (tables_of size v w h) ∷ [])

unfoldable pub made : ℕ → List ℕ → List ℕ → List ℕ → List ℕ → Made
made size v w h target =
    let r = making_refusal size v w h target in
    record { refusal = r.number; place = r.place; list = cond (eqb r.number 0) (list_bytes (tables_of size v w h)) target }
