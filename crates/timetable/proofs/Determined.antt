-- The contracts settle the answer and every lent byte. Assumes nothing.
use mathlib.Core.Path.{◌≡◌, sym, ◌∙◌}
use mathlib.Core.List.{List}
use Prim.Native.Nat.{ℕ}
use native.Mathlib.Decide.{ℕ_discrete}
use lib.ListN.{length}
use Rattle.feed.specs.Answers.{Feed}
use Rattle.std.specs.Prelude.{Result}
use Rattle.words.specs.Refusal.{Refusal}
use Rattle.departures.proofs.Determined as departures
use Rattle.timetable.specs.Lent.{Answers, Called}
use Rattle.timetable.proofs.read.Reads as read
use Rattle.timetable.proofs.call.Reads as call

one_answer : {F : Feed} {x y : Result ℕ Refusal} {b c : List ℕ} → Answers F x b → Answers F y c → (x ≡ y) × (b ≡ c)
one_answer {x = x} {y = y} p q = (departures.one_answer x y (p.refusal ∙ sym q.refusal) (p.hops ∙ sym q.hops), p.target ∙ sym q.target)

pub one-read : (κs : _) (a : _) (z z' : _) (e e' : _) → read.Post κs a z e → read.Post κs a z' e' → (z ≡ z') × (e.1.1.1.0.now ≡ e'.1.1.1.0.now)
one-read κs a z z' e e' p q = one_answer p q

-- what a call returns, and both slices after it
pub called-one : {F : Feed} {slice t s t' s' : List ℕ} {r r' : ℕ} → Called F slice t s r → Called F slice t' s' r' → (r ≡ r') × (t ≡ t') × (s ≡ s')
called-one {slice = slice} {t = t} {s = s} {t' = t'} {s' = s'} {r = r} {r' = r'} p q = go (ℕ_discrete (length slice) 12)
  where
    go : Dec (length slice ≡ 12) → (r ≡ r') × (t ≡ t') × (s ≡ s')
    go (yes h) = let x = p.answered h in let y = q.answered h in (x.0 ∙ sym y.0, x.1 ∙ sym y.1, x.2 ∙ sym y.2)
    go (no h) = let x = p.untouched h in let y = q.untouched h in (x.0 ∙ sym y.0, x.1 ∙ sym y.1, x.2 ∙ sym y.2)

pub one-call : (κs : _) (a : _) (z z' : _) (e e' : _) → call.Post κs a z e → call.Post κs a z' e'
    → (z ≡ z') × (e.1.1.1.0.now ≡ e'.1.1.1.0.now) × (e.1.1.1.1.0.now ≡ e'.1.1.1.1.0.now)
one-call κs a z z' e e' p q = called-one p q
