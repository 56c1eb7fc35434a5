-- An array that notes the vertices of the entries read so far, and what is refused where the first wrong entry is known. Assumes nothing.
use Rattle.std.specs.Prelude.{◌≡◌, ◌≢◌, Bool, true, List, [], ◌∷◌, ℕ, ◌<◌, length, get_or}
use Rattle.journeys.specs.Counting.{none}
use Rattle.journeys.specs.Refusals.{Refusal, chain, first_bad}
use Rattle.journeys.specs.Lists.{vertex_in, entry_ok}
use Rattle.journeys.specs.VendorLists.{size, in_time}

-- the distance that an array lists for a vertex
abbrev pub heard : List ℕ → ℕ → ℕ
heard far u = get_or far u 0

-- an array with a place for each vertex, that has a distance at each vertex of the first n entries, and at no other
pub record Noted (list far : List ℕ) (n : ℕ) : Type 0 where
  pub long : length far ≡ 65536
  pub here : (j : ℕ) → j < n → heard far (vertex_in 12 list j) ≢ none
  pub old : (u : ℕ) → u < 65536 → heard far u ≢ none → (j : ℕ) × (j < n) × (vertex_in 12 list j ≡ u)

-- the first n numbers pass a test
abbrev pub Before : (ℕ → Bool) → ℕ → Type 0
Before test n = (k : ℕ) → k < n → test k ≡ true

-- what is refused where entry i is the first with which anything is wrong
unfoldable pub entry_refusal : ℕ → ℕ → List ℕ → ℕ → Refusal
entry_refusal vertices D list i =
    chain (first_bad 25 (entry_ok 12 vertices none list) (size list) ∷ first_bad 26 (in_time D list) (size list) ∷ record { number = 27; place = i } ∷ [])
