-- The second demand, of the part bytes: which places inside a road they cover, where an accepted run's own list was handed to an accepted call for parts.
-- Assumes nothing.
use mathlib.Core.Path.{◌≡◌, sym, subst, ◌∙◌}
use mathlib.Core.Logic.{◌⊎◌, inl, inr, ⊎_elim, ◌↔◌, ◌≢◌}
use mathlib.Core.List.{List, [], flat_map}
use Prim.Native.Nat.{ℕ, ◌+◌, ◌-◌, ◌*◌, ◌≤◌, ◌<◌}
use native.Mathlib.Omega.{arith}
use Rattle.journeys.specs.Counting.{none, In}
use lib.ListN.{length}
use Rattle.journeys.specs.Bytes.{be32, filled}
use Rattle.journeys.specs.Tables.{walk, walk_count}
use Rattle.journeys.specs.Query.{Query, allowed}
use Rattle.journeys.specs.Journeys.{Inside}
use Rattle.journeys.specs.Order.{Settled}
use Rattle.journeys.specs.Parts.{Part, part_list, part_bytes, Covered}
use Rattle.journeys.proofs.Demands.{place-exactly, point-exactly}
use Rattle.records.proofs.RecordBytes.{length_part, part-back}
use Rattle.siltbrow.specs.Call.{Call, Completed, refusal, finished, read, Orders, S}
use Rattle.siltbrow.specs.PartsCall.{PartsCall, PartsCompleted, parts_refusal, parts_count}
use Rattle.siltbrow.specs.Pair.{Follows}
use Rattle.answered.proofs.RecordsInBytes.{Stands, stands-front, record-listed, listed-record}
use Rattle.siltbrow.proofs.Demands.{valid, the_order, is_order, finished-whole}
use Rattle.siltbrow.proofs.Pair.{parts_are}

-- the place x of the walk record i lies between the start and the end, both inclusive, of a counted part record that names i
abbrev pub LiesIn : List ℕ → ℕ → ℕ → ℕ → Type 0
LiesIn bytes count i x = (k : ℕ) × (k < count) × (be32 bytes (12 * k) ≡ i) × (be32 bytes (12 * k + 4) ≤ x) × (x ≤ be32 bytes (12 * k + 8))

abbrev pub Lies : PartsCall → ℕ → ℕ → Type 0
Lies p = LiesIn p.parts (parts_count p)

-- the three words of a part record
words : (bytes : List ℕ) (k : ℕ) (p : Part) → Stands part_bytes 12 length_part bytes k p
    → (be32 bytes (12 * k) ≡ p.walk) × (be32 bytes (12 * k + 4) ≡ p.start) × (be32 bytes (12 * k + 8) ≡ p.end)
words bytes k p s = (stands-front part_bytes 12 length_part bytes k p (omega arith) s [] ∙ (part-back p []).0, s 4 (omega arith) [] ∙ (part-back p []).1, s 8 (omega arith) [] ∙ (part-back p []).2)

covered-by : (ps : List Part) (p : Part) (i x : ℕ) → In p ps → p.walk ≡ i → p.start ≤ x → x ≤ p.end → Covered ps i x
covered-by ps p i x m e low high = subst (λ (j : ℕ). Covered ps j x) e (record { start = p.start; end = p.end; listed = m; low = low; high = high })

-- The counted part records are the listed parts: a place lies in one of them exactly if these cover it.
pub lies-are : (bytes buffer : List ℕ) (count : ℕ) (ps : List Part) → count ≡ length ps → bytes ≡ filled buffer (flat_map part_bytes ps) → (i x : ℕ) → LiesIn bytes count i x ↔ Covered ps i x
lies-are bytes buffer count ps n e i x = (
  λ y.
      let z = record-listed part_bytes 12 length_part bytes buffer ps count n e y.0 y.1 in
      let w = words bytes y.0 z.0 z.2 in
      covered-by ps z.0 i x z.1 (sym w.0 ∙ y.2) (omega (arith, w.1, y.3)) (omega (arith, w.2, y.4)),
  λ y.
      let q : Part = record { walk = i; start = y.start; end = y.end } in
      let z = listed-record part_bytes 12 length_part bytes buffer ps count n e q y.listed in
      let w = words bytes z.0 q z.2 in
      (z.0, z.1, w.0, omega (arith, w.1, y.low), omega (arith, w.2, y.high)),
)

-- an accepted run, and an accepted call for the parts of its list
module _ (c : Call) (E : Completed c) (accepted : refusal c ≡ 0) (p : PartsCall) (F : PartsCompleted p) (own : Follows c p) (fine : parts_refusal p ≡ 0) where
  abbrev Q : Query
  Q = c.query

  module _ (l : List Settled) (O : Orders c l) where
    abbrev listed : List Part
    listed = part_list (read c) Q (S c l)

    -- The counted part records are the parts of step 0 and of S.
    pub lies-covered : (i x : ℕ) → Lies p i x ↔ Covered listed i x
    lies-covered = let are = parts_are c E accepted p F own l O fine in lies-are p.parts p.lent.parts (parts_count p) listed are.0 are.1

  module _ (f : finished c ≡ 1) where
    abbrev l : List Settled
    l = the_order c E accepted

    lies : (i x : ℕ) → Lies p i x ↔ Covered (part_list (read c) Q l) i x
    lies i x =
        let O = is_order c E accepted in
        subst (λ (m : List Settled). Lies p i x ↔ Covered (part_list (read c) Q m) i x) (finished-whole c E accepted l O f) (lies-covered l O i x)

    -- After a finished run a whole-decimetre place inside a road record lies in a counted part record exactly if a journey starts there within the allowed time.
    pub place-covered : (i x : ℕ) → i < walk_count (read c) → 0 < x → x < (walk (read c) i).len → Lies p i x ↔ ((d : ℕ) × (d ≤ allowed Q) × Inside (read c) Q i x d)
    place-covered i x il x0 xl =
        let e = place-exactly (read c) Q (valid c E accepted) (is_order c E accepted) i x il x0 xl in
        (λ y. e.0 ((lies i x).0 y), λ y. (lies i x).1 (e.1 y))

    -- A physical point of a road with a twin lies in a counted part record of either record exactly if a journey starts there along either.
    pub point-covered : (i x : ℕ) → i < walk_count (read c) → (walk (read c) i).twin ≢ none → 0 < x → x < (walk (read c) i).len
        → (Lies p i x ⊎ Lies p (walk (read c) i).twin ((walk (read c) i).len - x))
        ↔ (((d : ℕ) × (d ≤ allowed Q) × Inside (read c) Q i x d) ⊎ ((d : ℕ) × (d ≤ allowed Q) × Inside (read c) Q (walk (read c) i).twin ((walk (read c) i).len - x) d))
    point-covered i x il n x0 xl =
        let e = point-exactly (read c) Q (valid c E accepted) (is_order c E accepted) i x il n x0 xl in
        let here = lies i x in
        let there = lies (walk (read c) i).twin ((walk (read c) i).len - x) in
        (λ y. e.0 (⊎_elim (λ z. inl (here.0 z)) (λ z. inr (there.0 z)) y), λ y. ⊎_elim (λ z. inl (here.1 z)) (λ z. inr (there.1 z)) (e.1 y))
