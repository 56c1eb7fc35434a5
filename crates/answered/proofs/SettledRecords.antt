-- The counted records of the settled bytes are the settled list that was written there. Assumes nothing.
use mathlib.Core.Path.{◌≡◌, refl, sym, ap₂, subst, ◌∙◌}
use mathlib.Core.Logic.{◌↔◌}
use mathlib.Core.List.{List, [], flat_map}
use Prim.Native.Nat.{ℕ, ◌+◌, ◌*◌, ◌<◌}
use native.Mathlib.Omega.{arith}
use lib.ListN.{length}
use Rattle.journeys.specs.Counting.{In}
use Rattle.journeys.specs.Bytes.{be32, filled}
use Rattle.journeys.specs.Order.{Settled, settled}
use Rattle.journeys.specs.Answers.{settled_bytes}
use Rattle.records.proofs.RecordBytes.{length-settled, settled_back}
use Rattle.answered.proofs.RecordsInBytes.{Stands, stands-front, record-listed, listed-record}

-- the two words of a settled record
words : (bytes : List ℕ) (i : ℕ) (x : Settled) → Stands settled_bytes 8 length-settled bytes i x → (be32 bytes (8 * i) ≡ x.vertex) × (be32 bytes (8 * i + 4) ≡ x.distance)
words bytes i x s = (stands-front settled_bytes 8 length-settled bytes i x (omega arith) s [] ∙ (settled_back x []).0, s 4 (omega arith) [] ∙ (settled_back x []).1)

module _ (bytes buffer : List ℕ) (S : List Settled) (count : ℕ) (all : count ≡ length S) (e : bytes ≡ filled buffer (flat_map settled_bytes S)) where
  -- A vertex and a distance stand in a counted record exactly if they are in the list.
  pub stands-exactly : (v d : ℕ) → ((i : ℕ) × (i < count) × (be32 bytes (8 * i) ≡ v) × (be32 bytes (8 * i + 4) ≡ d)) ↔ In (settled v d) S
  stands-exactly v d = (
    λ p.
        let z = record-listed settled_bytes 8 length-settled bytes buffer S count all e p.0 p.1 in
        let w = words bytes p.0 z.0 z.2 in
        let named : z.0 ≡ settled v d = ap₂ settled (sym w.0 ∙ p.2) (sym w.1 ∙ p.3) in
        subst (λ (x : Settled). In x S) named z.1,
    λ m.
        let z = listed-record settled_bytes 8 length-settled bytes buffer S count all e (settled v d) m in
        let w = words bytes z.0 (settled v d) z.2 in
        (z.0, z.1, w.0, w.1),
  )

  -- A counted record names a vertex exactly if the list has it.
  pub names-exactly : (v : ℕ) → ((i : ℕ) × (i < count) × (be32 bytes (8 * i) ≡ v)) ↔ ((d : ℕ) × In (settled v d) S)
  names-exactly v = (
    λ p. let d = be32 bytes (8 * p.0 + 4) in (d, (stands-exactly v d).0 (p.0, p.1, p.2, refl)),
    λ x. let z = (stands-exactly v x.0).1 x.1 in (z.0, z.1, z.2),
  )
