-- The tally of a list, entry by entry and as figures. Assumes nothing.
use mathlib.Core.Path.{◌≡◌, sym, ap, ap₂, ◌∙◌}
use mathlib.Core.Logic.{◌⊎◌, inl, inr}
use mathlib.Core.Bool.{true, false, cond}
use mathlib.Core.List.{List}
use Prim.Native.Nat.{ℕ, zero, suc, ◌+◌, ◌*◌, ◌<◌}
use native.Mathlib.Omega.{arith}
use lib.Dec.{eqb}
use borrow.Author.Tests.{eqb-true, eqb-false, eq-eqb, ne_eqb}
use Rattle.journeys.specs.Counting.{one, count}
use Rattle.journeys.specs.Bytes.{be32, word}
use Rattle.journeys.specs.Lists.{vertex_in}
use Rattle.journeys.proofs.Tests.{split}
use Rattle.words.specs.Written.{written}
use Rattle.evening.specs.Patients.{figures}
use Rattle.evening.specs.Tallied.{tallied}
use Rattle.evening.proofs.Figures.{figures-same, figure-read, figure-written, anew}

tallied-next : (report list : List ℕ) (i : ℕ)
    → tallied report list (i + 1) ≡ written (tallied report list i) (4 * vertex_in 8 list i) (word (be32 (tallied report list i) (4 * vertex_in 8 list i) + 1))
unfolding tallied
tallied-next report list i = let e : i + 1 ≡ suc i = omega arith in ap (tallied report list) e

pub tally-turn : (report₀ list report : List ℕ) (i v times : ℕ) (report' : List ℕ) → report ≡ tallied report₀ list i → v ≡ vertex_in 8 list i → times ≡ be32 report (4 * v)
    → report' ≡ written report (4 * v) (word (times + 1)) → report' ≡ tallied report₀ list (i + 1)
tally-turn report₀ list report i v times report' e f g h =
    h
    ∙ ap (λ (t : ℕ). written report (4 * v) (word (t + 1))) g
    ∙ ap₂ (λ (r : List ℕ) (x : ℕ). written r (4 * x) (word (be32 r (4 * x) + 1))) e f
    ∙ sym (tallied-next report₀ list i)

-- how many of the first i entries name x
abbrev pub names : List ℕ → ℕ → ℕ → ℕ
names list i x = count (λ k. eqb (vertex_in 8 list k) x) i

-- Over figures the tally adds to each as often as its vertex is named.
pub tally-figures : (f : ℕ → ℕ) (m : ℕ) (list : List ℕ) (i : ℕ) → ((k : ℕ) → k < i → vertex_in 8 list k < m)
    → tallied (figures f m) list i ≡ figures (λ x. f x + names list i x) m
unfolding tallied count
tally-figures f m list zero h = figures-same f (λ x. f x + 0) m (λ x l. omega arith)
tally-figures f m list (suc i) h =
    let g : ℕ → ℕ = λ x. f x + names list i x in
    let v = vertex_in 8 list i in
    let e = tally-figures f m list i (λ k l. h k (omega arith)) in
    let low : v < m = h i (omega arith) in
    ap (λ (r : List ℕ). written r (4 * v) (word (be32 r (4 * v) + 1))) e
    ∙ ap (λ (x : ℕ). written (figures g m) (4 * v) (word (x + 1))) (figure-read g m v low)
    ∙ figure-written g m v (g v + 1) low
    ∙ figures-same (anew g v (g v + 1)) (λ x. f x + (names list i x + one (eqb v x))) m (λ x l. here x (split (eqb x v)))
  where
    here : (x : ℕ) → (eqb x (vertex_in 8 list i) ≡ true) ⊎ (eqb x (vertex_in 8 list i) ≡ false)
        → cond (eqb x (vertex_in 8 list i)) (f (vertex_in 8 list i) + names list i (vertex_in 8 list i) + 1) (f x + names list i x) ≡ f x + (names list i x + one (eqb (vertex_in 8 list i) x))
    here x (inl t) =
        let e = eqb-true x (vertex_in 8 list i) t in
        rw (t, eq-eqb (vertex_in 8 list i) x (sym e), ← e) (omega arith)
    here x (inr t) = rw (t, ne_eqb (vertex_in 8 list i) x (λ z. eqb-false x (vertex_in 8 list i) t (sym z))) (omega arith)
