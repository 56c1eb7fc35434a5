-- Links of a network: a walk takes its ticks; a gate, where it is open, lets who is in time pass for a figure of its own. Assumes nothing.
use mathlib.Core.Path.{◌≡◌}
use mathlib.Core.Logic.{◌↔◌}
use mathlib.Core.Bool.{Bool, true, cond, ◌&&◌}
use Prim.Native.Nat.{ℕ, ◌+◌, ◌≤◌, ◌<◌}
use native.Mathlib.Omega.{arith}
use lib.Dec.{leb}
use borrow.Author.Tests.{leb-true, le-leb}
use Rattle.journeys.specs.Counting.{none}
use Rattle.journeys.specs.Tables.{Walk}
use Rattle.journeys.specs.Query.{Query, walk_ticks}
use Rattle.journeys.proofs.Tests.{and_both, and-true}
use Rattle.journeys.proofs.Gates.{gate-is, is-gate}

pub data Link : Type 0 where
  foot : Walk → Link
  gate : Bool → ℕ → ℕ → Link

unfoldable pub pass : Query → Link → ℕ → ℕ
pass Q (foot w) d = d + walk_ticks Q w
pass Q (gate ok by figure) d = cond (ok && leb d by) figure none

abbrev pub Passes : Query → Link → ℕ → ℕ → Type 0
Passes Q (foot w) d b = d + walk_ticks Q w ≤ b
Passes Q (gate ok by figure) d b = (ok ≡ true) × (d ≤ by) × (figure ≤ b)

-- no gate leads back in time
abbrev pub Forward : Link → Type 0
Forward (foot w) = Unit {0}
Forward (gate ok by figure) = by ≤ figure

pub pass_up : (Q : Query) (x : Link) (d b b' : ℕ) → b ≤ b' → Passes Q x d b → Passes Q x d b'
pass_up Q (foot w) d b b' h o = omega arith
pass_up Q (gate t x y) d b b' h o = (o.0, o.1, omega (arith, o.2))

pub pass-down : (Q : Query) (x : Link) (d d' b : ℕ) → d' ≤ d → Passes Q x d b → Passes Q x d' b
pass-down Q (foot w) d d' b h o = omega arith
pass-down Q (gate t x y) d d' b h o = (o.0, omega (arith, o.1), o.2)

pub pass_le : (Q : Query) (x : Link) (d b : ℕ) → Forward x → Passes Q x d b → d ≤ b
pass_le Q (foot w) d b f o = omega arith
pass_le Q (gate t x y) d b f o = omega (arith, o.1, o.2)

pub pass-is : (Q : Query) (x : Link) (d b : ℕ) → b < none → Passes Q x d b ↔ (pass Q x d ≤ b)
unfolding pass
pass-is Q (foot w) d b l = (λ o. o, λ o. o)
pass-is Q (gate t x y) d b l = (
  λ p. is-gate y b (and-true p.0 (le-leb d x p.1)) p.2,
  λ h. let p = gate-is (t && leb d x) y b l h in let q = and_both t _ p.0 in (q.0, leb-true d x q.1, p.1),
)
