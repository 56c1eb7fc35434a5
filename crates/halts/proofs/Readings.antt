-- What is read of a good line. Assumes nothing.
use Prim.Native.Nat.{ℕ, ◌-◌, ◌<◌}
use native.Mathlib.Omega.{arith}
use borrow.Author.Rules.{rules}
use mathlib.Core.Path.{◌≡◌, refl, sym, ap₂, ◌∙◌}
use mathlib.Core.Logic.{⊎_elim}
use mathlib.Core.Bool.{Bool, true, false, not, cond, ◌||◌}
use mathlib.Core.List.{List, [], ◌∷◌}
use lib.ListN.{length, take, drop}
use Rattle.journeys.specs.Counting.{none}
use Rattle.journeys.proofs.Tests.{split, never, or_cases}
use Rattle.feed.specs.Lines.{empty}
use Rattle.feed.specs.Fields.{row_of, field, same}
use Rattle.feed.specs.Values.{number, value_from, value_of, time, time_or_blank, seconds_of}
use Rattle.feed.specs.Stops.{or_other}
use Rattle.lines.specs.declared.Span.{Span}
use Rattle.lines.specs.Spans.{bytes_in}
use Rattle.lines.proofs.Spans.{same_bytes}
use Rattle.rows.specs.Placed.{field_span}
use Rattle.rows.proofs.Fields.{value, pairs}
use Rattle.std.specs.Prelude.{Option, Some, None, IsSome}
use Rattle.std.specs.Option.{is_some, option_or, unwrap_or}
use Rattle.values.specs.Readings.{number_read, time_read}
use Rattle.values.proofs.Times.{read-value, read-bad}
use Rattle.halts.specs.Halts.{timed_in, moment}

pub number-told : (f : List ℕ) (v : ℕ) → number_read none f ≡ Some v → v ≡ value_of f
number-told f v e = sym (read-value none v f e).1

pub number-there : (o : Option ℕ) (f : List ℕ) → number_read none f ≡ o → number none f ≡ true → IsSome o
number-there (Some v) f e g = search rules
number-there None f e g = never g (read-bad none f e)

-- blank is read as no time, and its seconds are none
blank-seconds : (f : List ℕ) → empty f ≡ true → seconds_of f ≡ 0
unfolding empty seconds_of value_of value_from
blank-seconds [] e = refl
blank-seconds (b ∷ r) e = never e refl

seconds-told : (f : List ℕ) (s : ℕ) → time_read f ≡ Some s → s ≡ seconds_of f
unfolding time_read
seconds-told f s e =
    ⊎_elim (λ (t : time f ≡ true). let z : seconds_of f ≡ s = cc in sym z)
    (λ (t : time f ≡ false). absurd (let z : ◌≡◌ {A = ℕ} 0 1 = cc in omega arith))
    (split (time f))

read-none : (f : List ℕ) → time_read f ≡ None → time f ≡ false
unfolding time_read
read-none f e = ⊎_elim (λ (t : time f ≡ true). absurd (let z : ◌≡◌ {A = ℕ} 0 1 = cc in omega arith)) (λ (t : time f ≡ false). t) (split (time f))

-- a time is not blank
given : (f : List ℕ) (s : ℕ) → time_read f ≡ Some s → empty f ≡ false
unfolding time_read time empty
given [] s e = absurd (let z : ◌≡◌ {A = ℕ} 0 1 = cc in omega arith)
given (b ∷ r) s e = refl

timely : (f : List ℕ) → time_or_blank f ≡ true → empty f ≡ false → time f ≡ true
unfolding time_or_blank
timely f g e = ⊎_elim (λ (t : empty f ≡ true). never t e) (λ (t : time f ≡ true). t) (or_cases (empty f) (time f) g)

-- what is read of a field that is a time or blank
pub moment-read : (o : Option ℕ) (f : List ℕ) → time_read f ≡ o → time_or_blank f ≡ true → o ≡ moment f
unfolding moment
moment-read (Some s) f e g = sym (rw (given f s e, seconds-told f s e) refl)
moment-read None f e g = ⊎_elim (λ (t : empty f ≡ true). sym (rw t refl)) (λ (t : empty f ≡ false). never (timely f g t) (read-none f e)) (split (empty f))

-- one time that is given stands for both
module _ (f g : List ℕ) where
  pub either_is : unwrap_or (option_or (moment f) (moment g)) 0 ≡ or_other f g
  unfolding moment or_other
  either_is =
      ⊎_elim
      (λ (p : empty f ≡ true). ⊎_elim (λ (q : empty g ≡ true). rw (p, q) (sym (blank-seconds g q))) (λ (q : empty g ≡ false). rw (p, q) refl) (split (empty g)))
      (λ (p : empty f ≡ false). rw p refl)
      (split (empty f))

  pub some_given : (is_some (moment f) || is_some (moment g)) ≡ (not (empty f) || not (empty g))
  unfolding moment
  some_given = ap₂ (λ (x y : Bool). x || y) (some (empty f) (seconds_of f)) (some (empty g) (seconds_of g))
    where
      some : (b : Bool) (x : ℕ) → is_some (cond b None (Some x)) ≡ not b
      some true x = refl
      some false x = refl

pub timed-told : (l : List ℕ) (arrival departure : ℕ) → (is_some (moment (field (row_of l) arrival)) || is_some (moment (field (row_of l) departure))) ≡ timed_in l arrival departure
unfolding timed_in
timed-told l arrival departure = some_given (field (row_of l) arrival) (field (row_of l) departure)

-- two fields by the bytes between their ends
pub same-fields : (l own : List ℕ) (k : ℕ) (p q : Span) → k < length (row_of l).fields → k < length (row_of own).fields → p ≡ field_span l k → q ≡ field_span own k
    → same (take (p.stop - p.start) (drop p.start l)) (take (q.stop - q.start) (drop q.start own)) ≡ same (field (row_of l) k) (field (row_of own) k)
unfolding bytes_in
same-fields l own k p q h i e f =
    ap₂ (λ (a b : Span). same (bytes_in l a) (bytes_in own b)) e f
    ∙ sym (same_bytes (bytes_in l (field_span l k)) (bytes_in own (field_span own k)) (pairs l k h) (pairs own k i))
    ∙ sym (ap₂ (λ (a b : List ℕ). same a b) (value l k h) (value own k i))
