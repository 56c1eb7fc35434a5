-- Lists drained one after the other. Assumes nothing.
use Rattle.std.proofs.Common.{◌≡◌, ℕ, ◌+◌, ◌*◌, ◌/◌, ◌<◌, Bool, true, List, sym, subst, arith}
use Rattle.tally.specs.Laid.{Width, entry, nibbles, place, Same, Placed, Drained}
use Rattle.tally.proofs.Groups.{laid_same, laid_kept}
use Rattle.quick.specs.Lists.{Takes, Waiting}
use Rattle.quick.proofs.Sifted.{listed-none}

-- where a counter stands is told by its entry
pub placed-kept : {s s' : List ℕ} → Same 1856 1972 s s' → {k : ℕ} → Placed s k → Placed s' k
placed-kept {s} {s'} same {k} p =
    let e : entry s' (k / 64) ≡ entry s (k / 64) = same (1856 + k / 64) (omega arith) (omega (arith, p.inside)) in
    record {
      inside = p.inside;
      width = subst (λ (x : ℕ). Width (nibbles x)) (sym e) p.width;
      room = subst (λ (x : ℕ). place x k < 1856) (sym e) p.room;
    }

pub takes_none : (groups : ℕ) (more : ℕ → ℕ) (s : List ℕ) → ((k : ℕ) → more k ≡ 0) → Takes groups more s s
takes_none groups more s e words claims taken h = laid_same (λ k l. omega (arith, e k)) h

pub takes-kept : (groups : ℕ) (more : ℕ → ℕ) (s₀ s s₁ : List ℕ) → Same 0 1984 s s₁ → Takes groups more s₀ s → Takes groups more s₀ s₁
takes-kept groups more s₀ s s₁ same t words claims taken h = laid_kept (λ k p q. same k p (omega arith)) (t words claims taken h)

-- the list is drained: nothing waits
pub takes-list : (groups n : ℕ) (all : ℕ → ℕ) (s₀ s s₁ : List ℕ) (r : Bool) → Waiting groups n all s₀ s → Drained n r s s₁ → r ≡ true → Takes groups all s₀ s₁
takes-list groups n all s₀ s s₁ r w d e words claims taken h =
    laid_same (λ k m. omega (arith, w.list.sum k m)) ((d groups words claims _ (w.takes words claims taken h) w.list.inside).0 e)

pub none-wait : (groups : ℕ) (all : ℕ → ℕ) (s₀ s : List ℕ) → Takes groups all s₀ s → Waiting groups 0 all s₀ s
none-wait groups all s₀ s t = record { before = all; takes = t; list = listed-none (64 * groups) s all }
