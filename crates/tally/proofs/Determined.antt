-- Any two answers that a contract allows are equal: of `drain`, for counters that are laid. Assumes nothing.
use mathlib.Core.Path.{◌≡◌, sym, ◌∙◌}
use mathlib.Core.Bool.{Bool, true}
use mathlib.Core.List.{List}
use Prim.Native.Nat.{ℕ, ◌*◌, ◌<◌}
use native.Mathlib.Omega.{arith}
use Rattle.journeys.proofs.Tests.{same_test}
use Rattle.tally.specs.Laid.{Laid, Drained, listed}
use Rattle.tally.proofs.lay.Reads as lay
use Rattle.tally.proofs.drain.Reads as drain
use Rattle.tally.proofs.empty.Reads as empty

pub one-lay : (κs : _) (a : _) (z z' : _) (e e' : _) → lay.Post κs a z e → lay.Post κs a z' e' → z ≡ z'
one-lay κs a z z' e e' p q = p.1.0.2 ∙ sym q.1.0.2

pub one-empty : (κs : _) (a : _) (z z' : _) (e e' : _) → empty.Post κs a z e → empty.Post κs a z' e' → z ≡ z'
one-empty κs a z z' e e' p q = p.1 ∙ sym q.1

-- where one drain finds enough, so does the other
module _ {groups words : ℕ} {claims taken : ℕ → ℕ} (n : ℕ) (s : List ℕ) (laid : Laid groups words claims taken s) (inside : (i : ℕ) → i < n → listed s i < 64 * groups) where
  enough : (r r' : Bool) (t t' : List ℕ) → Drained n r s t → Drained n r' s t' → r ≡ true → r' ≡ true
  enough r r' t t' p q e =
      (q groups words claims taken laid inside).1 (λ k l. omega (arith, ((p groups words claims taken laid inside).0 e).counted k l))

pub one-drain : (κs : _) (a : _) (z z' : _) (e e' : _) → drain.Post κs a z e → drain.Post κs a z' e'
    → {groups words : ℕ} {claims taken : ℕ → ℕ} → Laid groups words claims taken a.0.now → ((i : ℕ) → i < a.1.0 → listed a.0.now i < 64 * groups) → z ≡ z'
one-drain κs a z z' e e' p q laid inside =
    let s = a.0.now in
    same_test z z' (enough a.1.0 s laid inside z z' _ _ p.0 q.0) (enough a.1.0 s laid inside z' z _ _ q.0 p.0)
