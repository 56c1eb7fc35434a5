-- Any two answers that a contract allows are equal, and so are the counters that it speaks of. Assumes nothing.
use mathlib.Core.Path.{◌≡◌, sym, ◌∙◌}
use mathlib.Core.Logic.{⊎_elim}
use mathlib.Core.List.{List}
use Prim.Native.Nat.{ℕ, ◌≤◌, ◌<◌}
use native.Mathlib.Omega.{arith}
use lib.ListN.{get_or}
use Rattle.journeys.proofs.Tests.{le-or-lt}
use Rattle.departing.specs.Scratch.{Counted}
use Rattle.departing.proofs.clear.Reads as clear
use Rattle.departing.proofs.count_departing.Reads as count-departing

-- the first counter that has passed 65,535 is one
not-before : {len low low' : ℕ} {s s' : List ℕ} {all : ℕ → ℕ} → Counted len low s all → Counted len low' s' all → low' ≤ low
not-before {len} {low} {low'} c d =
    ⊎_elim (λ (l : low' ≤ low). l) (λ (l : low < low'). absurd (let z : ⊥ = omega (arith, c.passed (omega (arith, d.within)), d.exact low l) in z)) (le-or-lt low' low)

pub one-low : {len low low' : ℕ} {s s' : List ℕ} {all : ℕ → ℕ} → Counted len low s all → Counted len low' s' all → low ≡ low'
one-low c d = omega (arith, not-before c d, not-before d c)

pub one-counter : {len low low' : ℕ} {s s' : List ℕ} {all : ℕ → ℕ} → Counted len low s all → Counted len low' s' all → (k : ℕ) → k < len → get_or s k 0 ≡ get_or s' k 0
one-counter c d k l = c.stopped k l ∙ sym (d.stopped k l)

pub one-count-departing : (κs : _) (a : _) (z z' : _) (e e' : _) → count-departing.Post κs a z e → count-departing.Post κs a z' e' → z ≡ z'
one-count-departing κs a z z' e e' p q = one-low p.0 q.0

pub one-clear : (κs : _) (a : _) (z z' : _) (e e' : _) → clear.Post κs a z e → clear.Post κs a z' e' → e.0.now ≡ e'.0.now
one-clear κs a z z' e e' p q = p ∙ sym q
