-- Two calls for many queries with the same arguments return the same and leave the same bytes. Assumes nothing.
use mathlib.Core.Path.{◌≡◌, sym, ◌∙◌}
use mathlib.Core.Logic.{inl, inr}
use mathlib.Core.List.{List}
use Prim.Native.Nat.{ℕ, ◌%◌}
use native.Mathlib.Decide.{ℕ_discrete}
use lib.ListN.{length, replicate, length-replicate}
use Rattle.intake.specs.Lending.{lent}
use Rattle.queries.specs.InTurn.{Ask}
use Rattle.queries.proofs.Determined.{in-turn-one}
use Rattle.siltbrow.specs.ManyCalls.{Alone, ManyRan}
use Rattle.siltbrow.proofs.Determined.{ran-one}
use Rattle.siltbrow.proofs.asking.siltbrow_runs.Reads as siltbrow-runs

alone-one : (v w h : List ℕ) (hop : ℕ) (held share : List ℕ) (q : Ask) (x s a x' s' a' : List ℕ) → Alone v w h hop held share q x s a → Alone v w h hop held share q x' s' a'
    → (x ≡ x') × (s ≡ s') × (a ≡ a')
alone-one v w h hop held share q x s a x' s' a' p r =
    let slice : List ℕ = replicate 24 0 in
    let long : length slice ≡ 24 = length-replicate {A = ℕ} 24 0 in
    let e = ran-one (lent v w h hop held share) q.query q.limit slice x s a x' s' a' 0 0 (p slice long) (r slice long) in
    (e.1, e.2, e.3)

module _ (v w h : List ℕ) (hop : ℕ) (queries held settled answers : List ℕ) where
  pub many-one : (x s a x' s' a' : List ℕ) (r r' : ℕ) → ManyRan v w h hop queries held settled answers x s a r → ManyRan v w h hop queries held settled answers x' s' a' r'
      → (r ≡ r') × (x ≡ x') × (s ≡ s') × (a ≡ a')
  many-one x s a x' s' a' r r' p q = go (ℕ_discrete (length queries % 24) 0) (ℕ_discrete (length answers) (length queries))
    where
      go : Dec (length queries % 24 ≡ 0) → Dec (length answers ≡ length queries) → (r ≡ r') × (x ≡ x') × (s ≡ s') × (a ≡ a')
      go (yes e) (yes f) =
          let m = p.answered e f in
          let n = q.answered e f in
          let z = in-turn-one (Alone v w h hop) _ (alone-one v w h hop) _ held settled x s a x' s' a' m.1 n.1 in
          (m.0 ∙ sym n.0, z.0, z.1, z.2)
      go (yes e) (no f) =
          let m = p.untouched (inr f) in
          let n = q.untouched (inr f) in
          (m.0 ∙ sym n.0, m.1 ∙ sym n.1, m.2 ∙ sym n.2, m.3 ∙ sym n.3)
      go (no e) f =
          let m = p.untouched (inl e) in
          let n = q.untouched (inl e) in
          (m.0 ∙ sym n.0, m.1 ∙ sym n.1, m.2 ∙ sym n.2, m.3 ∙ sym n.3)

pub one-siltbrow-runs : (κs : _) (a : _) (z z' : _) (e e' : _) → siltbrow-runs.Post κs a z e → siltbrow-runs.Post κs a z' e'
    → (z ≡ z') × (e.1.1.1.1.1.0.now ≡ e'.1.1.1.1.1.0.now) × (e.1.1.1.1.1.1.0.now ≡ e'.1.1.1.1.1.1.0.now) × (e.1.1.1.1.1.1.1.0.now ≡ e'.1.1.1.1.1.1.1.0.now)
one-siltbrow-runs κs a z z' e e' p q = many-one _ _ _ _ _ _ _ _ _ _ _ _ _ _ z z' p q
