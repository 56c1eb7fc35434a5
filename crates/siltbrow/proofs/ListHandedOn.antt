-- A run's own list, handed on: the counted records of the settled bytes read back as what was settled. Assumes nothing.
use mathlib.Core.Path.{◌≡◌, sym, ap, ap₂, ◌∙◌}
use mathlib.Core.List.{List, flat_map}
use Prim.Native.Nat.{ℕ, ◌-◌, ◌*◌}
use lib.ListN.{length, take, replicate}
use lib.Seq.{take-append_seam}
use Rattle.journeys.specs.Bytes.{filled}
use Rattle.journeys.specs.Order.{Settled}
use Rattle.journeys.specs.Answers.{settled_bytes}
use Rattle.journeys.specs.Lists.{settled_in}
use Rattle.covering.proofs.OwnList.{own-length, settled_back}

pub handed-on : (bytes buffer : List ℕ) (count : ℕ) (l : List Settled) → count ≡ length l → bytes ≡ filled buffer (flat_map settled_bytes l) → settled_in (take (8 * count) bytes) ≡ l
unfolding filled
handed-on bytes buffer count l counted e =
    let long : 8 * count ≡ length (flat_map settled_bytes l) = ap (λ (n : ℕ). 8 * n) counted ∙ sym (own-length l) in
    ap settled_in
    (ap₂ (λ (n : ℕ) (b : List ℕ). take n b) long e ∙ take-append_seam (flat_map settled_bytes l) (replicate (length buffer - length (flat_map settled_bytes l)) 0))
    ∙ settled_back l
