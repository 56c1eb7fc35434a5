-- A text in the front of a buffer, and none. Assumes nothing.
use mathlib.Core.Path.{◌≡◌, sym, ap, ◌∙◌}
use mathlib.Core.List.{List, []}
use Prim.Native.Nat.{ℕ}
use native.Mathlib.Nat.{zero-add}
use native.Mathlib.Omega.{arith}
use lib.ListN.{length, drop, length-append}
use lib.Seq.{take-append_seam}
use Rattle.io.specs.Counts.{IsPrefixLen}
use Rattle.copying.specs.Write.{over, Wrote}
use Rattle.copying.proofs.Copied.{in-front, over_none}

abbrev pub Shown : List ℕ → List ℕ → List ℕ → ℕ → Type 0
Shown u d d' r = (d' ≡ over u d) × ((r ≡ length u) × IsPrefixLen r d')

counted : (u d d' : List ℕ) (r : ℕ) → d' ≡ over u d → r ≡ length u → IsPrefixLen r d'
unfolding over
counted u d d' r e q =
    (rw (e, q, length-append) (omega arith), rw (e, q) (ap length (sym (take-append_seam u (drop (length u) d)))))

pub text-shown : {d t d' : List ℕ} {r : ℕ} (u : List ℕ) → u ≡ t → Wrote d 0 t d' r → Shown u d d' r
text-shown {d} {t} {d'} {r} u e a =
    let x = in-front a ∙ ap (λ (l : List ℕ). over l d) (sym e) in
    let n = a.next ∙ zero-add (length t) ∙ ap length (sym e) in
    (x, (n, counted u d d' r x n))

pub none-shown : (d u : List ℕ) → u ≡ [] → Shown u d d 0
none-shown d u e =
    let x = over_none d ∙ ap (λ (l : List ℕ). over l d) (sym e) in
    (x, (ap length (sym e), counted u d d 0 x (ap length (sym e))))
