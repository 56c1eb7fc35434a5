-- The rows of `Slides`, computed from the definitions. Assumes nothing.
use mathlib.Core.Path.{◌≡◌, refl, sym, ap₂, ◌∙◌}
use mathlib.Core.Bool.{Bool, true, false, not}
use mathlib.Core.List.{List, []}
use Prim.Native.Nat.{ℕ}
use Rattle.journeys.specs.Counting.{In, none}
use Rattle.journeys.specs.Answers.{Answer, Allowed}
use Rattle.journeys.specs.PartAnswers.{parts_answer}
use Rattle.journeys.specs.OneRun.{own_list}
use Rattle.journeys.specs.Marked.{base, parts_over}
use Rattle.journeys.proofs.Determined.{computed, answer-is}
use Rattle.journeys.proofs.Cases.{every, tested, each-passes}
use Rattle.slider.specs.Slides.{Slide, starts, asks, parts, slides}

-- what a slide looks at in the answer a
abbrev pub seen : Slide → ℕ → Answer → List ℕ
seen s seconds a = s.view a (parts_answer (parts_over base (own_list a) parts) (asks seconds))

abbrev agree : Bool → Bool → Bool
agree true b = b
agree false b = not b

agree-is : (a b : Bool) → agree a b ≡ true → b ≡ a
agree-is true b e = e
agree-is false true e = sym e
agree-is false false e = refl

abbrev passes : Slide → Bool
passes s = agree s.begins (starts (seen s s.shorter (computed base (asks s.shorter) none)) (seen s s.longer (computed base (asks s.longer) none)))

unfoldable slides_tested : List Slide → Bool
unfolding tested
slides_tested = every passes

table : slides_tested slides ≡ true
unfolding slides_tested slides
table = refl

-- Whatever two answers the definitions allow, the shorter run's list begins the longer one's exactly where the row says so: the settled list, not the held table, not the parts.
pub slides-hold : (s : Slide) → In s slides → (a a' : Answer) → Allowed base (asks s.shorter) none a → Allowed base (asks s.longer) none a'
    → starts (seen s s.shorter a) (seen s s.longer a') ≡ s.begins
unfolding slides_tested
slides-hold s i a a' A A' =
    ap₂ (λ (x y : Answer). starts (seen s s.shorter x) (seen s s.longer y)) (answer-is base (asks s.shorter) none a A) (answer-is base (asks s.longer) none a' A')
    ∙ agree-is s.begins _ (each-passes passes slides table s i)
