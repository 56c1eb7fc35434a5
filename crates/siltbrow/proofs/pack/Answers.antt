-- `siltbrow::pack` meets its contract: an Ok is 0, and an Err its number above its place. Assumes nothing.
use mathlib.Core.Path.{sym, ap, ◌∙◌}
use Prim.Native.Nat.{ℕ, ◌+◌, ◌*◌}
use Rattle.std.specs.Prelude.{⊤, Result}
use Rattle.words.specs.Told.{told}
use Rattle.words.specs.Refusal.{Refusal}
use Rattle.siltbrow.specs.Packed.{packed}
use Rattle.siltbrow.proofs.pack.Goals as goal

pub returns-in-Ok : goal.returns-in-Ok
unfolding packed
returns-in-Ok c = ap (λ (r : Result ⊤ Refusal). packed (told r)) (sym c.in-Ok.is)

pub returns-in-Err : goal.returns-in-Err
unfolding packed
returns-in-Err c =
    ap (λ (n : ℕ). n * 4294967296 + c.in-Err.e.place) c.from.ensures
    ∙ ap (λ (r : Result ⊤ Refusal). packed (told r)) (sym c.in-Err.is)
