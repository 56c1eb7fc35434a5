-- Two durations over the base job, and which of the three lists begins the other: the settled one, and neither the held table nor the parts. Assumes nothing.
use Rattle.std.specs.Prelude.{Bool, true, false, ◌&&◌, List, [], ◌∷◌, ℕ, ◌*◌, eqb, replicate}
use Rattle.journeys.specs.Query.{Query}
use Rattle.journeys.specs.Answers.{Lent, Answer}
use Rattle.journeys.specs.PartAnswers.{PartsAnswer}
use Rattle.journeys.specs.Marked.{base, ask, settled_of, held_of, parts_of}

-- the first list is the beginning of the second
abbrev pub starts : List ℕ → List ℕ → Bool
starts [] ys = true
starts (x ∷ xs) [] = false
starts (x ∷ xs) (y ∷ ys) = eqb x y && starts xs ys

-- two runs without a limit, with the parts of their own lists: what is looked at, and whether the shorter one's begins the longer one's
pub record Slide : Type 0 where
  pub shorter : ℕ
  pub longer : ℕ
  pub view : Answer → PartsAnswer → List ℕ
  pub begins : Bool

abbrev pub asks : ℕ → Query
asks seconds = ask 1 1500 seconds

abbrev pub parts : List ℕ
parts = replicate (12 * 20) 7

-- a second more settles vertex 2, lets go of vertex 1 and lengthens the part of walk 2
unfoldable pub slides : List Slide
slides =
    record { shorter = 299; longer = 300; view = λ a p. settled_of a; begins = true }
    ∷ record { shorter = 299; longer = 300; view = λ a p. held_of a; begins = false }
    ∷ record { shorter = 299; longer = 300; view = λ a p. parts_of p; begins = false }
    ∷ []
