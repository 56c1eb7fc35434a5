-- Two outcomes of the same runs in turn are the same in every byte. Assumes nothing.
use mathlib.Core.Path.{◌≡◌, sym, ap, ap₂, subst, ◌∙◌}
use mathlib.Core.List.{List, [], ◌∷◌, ◌++◌}
use Prim.Native.Nat.{ℕ}
use lib.ListN.{take, drop}
use Rattle.journeys.specs.Query.{Query}
use Rattle.journeys.specs.Answers.{Lent, Answer}
use Rattle.journeys.proofs.Determined.{answer-unique}
use Rattle.calls.specs.CallBytes.{answer_bytes}
use Rattle.queries.specs.InTurn.{Ask, InTurn}
use Rattle.queries.specs.Single.{Left, Single}
use Rattle.queries.proofs.answer_all.Reads as answer-all

abbrev Runs : Type 1
Runs = List ℕ → List ℕ → Ask → List ℕ → List ℕ → List ℕ → Type 0

-- Where each single run is determined, so are the runs in turn.
module _ (One : Runs) (size : ℕ) (one : (held share : List ℕ) (q : Ask) (h s a h' s' a' : List ℕ) → One held share q h s a → One held share q h' s' a' → (h ≡ h') × (s ≡ s') × (a ≡ a')) where
  pub in-turn-one : (asks : List Ask) (held settled h s a h' s' a' : List ℕ) → InTurn One size asks held settled h s a → InTurn One size asks held settled h' s' a'
      → (h ≡ h') × (s ≡ s') × (a ≡ a')
  unfolding InTurn
  in-turn-one [] held settled h s a h' s' a' x y = (x.0 ∙ sym y.0, x.1 ∙ sym y.1, x.2 ∙ sym y.2)
  in-turn-one (q ∷ asks) held settled h s a h' s' a' x y =
      let e = one held (take size settled) q x.0 x.1 x.2 y.0 y.1 y.2 x.5 y.5 in
      let w = subst (λ (g : List ℕ). InTurn One size asks g (drop size settled) h x.3 x.4) e.0 x.6 in
      let f = in-turn-one asks y.0 (drop size settled) h x.3 x.4 h' y.3 y.4 w y.6 in
      (f.0, x.7 ∙ ap₂ (λ (m n : List ℕ). m ++ n) e.1 f.1 ∙ sym y.7, x.8 ∙ ap₂ (λ (m n : List ℕ). m ++ n) e.2 f.2 ∙ sym y.8)

-- What follows from a single run follows for each of the runs in turn.
module _ (One Two : Runs) (size : ℕ) (to : (held share : List ℕ) (q : Ask) (h s a : List ℕ) → One held share q h s a → Two held share q h s a) where
  pub in-turn-each : (asks : List Ask) (held settled h s a : List ℕ) → InTurn One size asks held settled h s a → InTurn Two size asks held settled h s a
  unfolding InTurn
  in-turn-each [] held settled h s a x = x
  in-turn-each (q ∷ asks) held settled h s a x =
      (x.0, x.1, x.2, x.3, x.4, to held (take size settled) q x.0 x.1 x.2 x.5, in-turn-each asks x.0 (drop size settled) h x.3 x.4 x.6, x.7, x.8)

pub left_one : (b : Lent) (Q : Query) (limit : ℕ) (h s a h' s' a' : List ℕ) → Left b Q limit h s a → Left b Q limit h' s' a' → (h ≡ h') × (s ≡ s') × (a ≡ a')
left_one b Q limit h s a h' s' a' x y =
    let e = answer-unique b Q limit x.0 y.0 x.1 y.1 in
    (x.2 ∙ ap (λ (z : Answer). z.held) e ∙ sym y.2, x.3 ∙ ap (λ (z : Answer). z.settled) e ∙ sym y.3, x.4 ∙ ap answer_bytes e ∙ sym y.4)

pub one-answer-all : (κs : _) (a : _) (z z' : _) (e e' : _) → answer-all.Post κs a z e → answer-all.Post κs a z' e'
    → (e.1.1.1.1.1.0.now ≡ e'.1.1.1.1.1.0.now) × (e.1.1.1.1.1.1.0.now ≡ e'.1.1.1.1.1.1.0.now) × (e.1.1.1.1.1.1.1.0.now ≡ e'.1.1.1.1.1.1.1.0.now)
one-answer-all κs a z z' e e' p q =
    in-turn-one (Single _ _ _ _) _ (λ held share q. left_one _ _ _) _ _ _ _ _ _ _ _ _ p q
