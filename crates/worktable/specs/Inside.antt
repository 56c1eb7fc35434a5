-- How the table lies in the buffer. No contract of a public function speaks of this, and no caller needs it.
use Rattle.std.specs.Prelude.{◌≡◌, ◌≢◌, cond, List, [], ◌∷◌, ℕ, zero, suc, ◌+◌, ◌*◌, ◌<◌, min, length}
use Rattle.std.proofs.Math.Decide.{ℕ_discrete}
use Rattle.table_bytes.specs.Columns.{Cols, at}
use Rattle.table_tree.specs.Words.{vacant, vertex_in}
use Rattle.table_tree.specs.Tree.{Win}
use Rattle.table_tree.specs.Chains.{Chained}
use Rattle.table_records.specs.Fields.{distance_in, state_in, remaining_in}
use Rattle.worktable.specs.Map.{Entry, absent, known, choose, spent}
use Rattle.worktable.specs.declared.Table.{Table}
use Rattle.worktable.specs.declared.Passed.{Passed}

-- the word of an unsettled vertex: state 0, distance (134217727 stands for none), vertex, remaining.
unfoldable pub word_of : ℕ → ℕ → ℕ → ℕ
word_of u d n = min d 134217727 * 68719476736 + u * 1048576 + n

-- what a word tells of its vertex
unfoldable pub entry_in : ℕ → Entry
entry_in w = choose (ℕ_discrete w vacant) absent (known (distance_in w) (state_in w) (remaining_in w))

-- what is told of an entry at the slot s, where D is allowed
unfoldable pub told_of : ℕ → ℕ → Entry → Passed
told_of D s e = cond (spent D e) (Passed.Spent s) Passed.Kept

unfoldable pub select : {A : Type 0} → Dec A → ℕ → ℕ → ℕ
select (yes p) x y = x
select (no p) x y = y

-- the word of the vertex u in the first n slots, or the vacant word
unfoldable pub lookup : ℕ → List ℕ → ℕ → ℕ
lookup zero W u = vacant
lookup (suc n) W u = select (ℕ_discrete (at W n) vacant) (lookup n W u) (select (ℕ_discrete (vertex_in (at W n)) u) (at W n) (lookup n W u))

-- no vertex has two slots
abbrev pub Single : ℕ → List ℕ → Type 0
Single cap W = (s t : ℕ) → s < cap → t < cap → at W s ≢ vacant → at W t ≢ vacant → vertex_in (at W s) ≡ vertex_in (at W t) → s ≡ t

-- the vacant slots, linked from the top on
unfoldable pub Outside : ℕ → List ℕ → Type 0
Outside s [] = Unit {0}
Outside s (x ∷ l) = (x ≢ s) × Outside s l

unfoldable pub Vacancies : ℕ → List ℕ → List ℕ → List ℕ → ℕ → Type 0
Vacancies cap W N [] top = Unit {0}
Vacancies cap W N (s ∷ l) top = (top ≡ s) × (s < cap) × (at W s ≡ vacant) × Outside s l × Vacancies cap W N l (at N s)

-- the tree, the chains and the vacant slots of a table that has slots
pub record Layout (t : Table) (c : Cols) : Type 0 where
  pub win : Win t.capacity c.w c.t
  pub chained : Chained t.capacity t.mask c.w c.h c.n
  pub single : Single t.capacity c.w
  pub list : List ℕ
  pub count : length list ≡ t.free
  pub top16 : t.top < 65536
  pub linked : Vacancies t.capacity c.w c.n list t.top
