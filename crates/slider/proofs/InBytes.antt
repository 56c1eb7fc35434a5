-- More time, same beginning, in the settled bytes that two finished runs leave, stated once over the direction. Assumes nothing.
use mathlib.Core.Path.{◌≡◌, sym, ap, ap₂, subst, ◌∙◌}
use mathlib.Core.Logic.{⊎_elim, ◌↔◌}
use mathlib.Core.List.{List, [], ◌++◌, flat_map, append_assoc}
use Prim.Native.Nat.{ℕ, ◌+◌, ◌-◌, ◌*◌, ◌≤◌, ◌<◌}
use native.Mathlib.Omega.{arith}
use lib.ListN.{length, take, replicate, length-append}
use lib.Seq.{take-append_seam}
use Rattle.journeys.specs.Bytes.{be32, filled}
use Rattle.journeys.specs.Tables.{Tables}
use Rattle.journeys.specs.Query.{Query, allowed}
use Rattle.journeys.specs.Order.{Settled}
use Rattle.journeys.specs.Answers.{settled_bytes}
use Rattle.journeys.specs.Valid.{Valid}
use Rattle.journeys.proofs.Tests.{le-or-lt}
use Rattle.journeys.proofs.Counting.{flat_append}
use Rattle.journeys.proofs.Firsts.{follows-each}
use Rattle.records.proofs.RecordBytes.{length-settled, settled_back}
use Rattle.covering.proofs.OwnList.{own-length}
use Rattle.answered.proofs.RecordsInBytes.{Stands, be32-behind, one_of}
use Rattle.slider.specs.Longer.{Longer}
use Rattle.slider.specs.Directions.{Direction, Finished}
use Rattle.slider.proofs.Lawful.{Lawful}
use Rattle.slider.proofs.Beginning.{same-beginning, beyond}

module _ (N : Tables) (R : Direction) (law : Lawful N R) (Q Q' : Query) (longer : Longer Q Q') {count count' : ℕ} {buffer buffer' bytes bytes' : List ℕ}
    (F : Finished R Q count buffer bytes) (F' : Finished R Q' count' buffer' bytes') where
  abbrev l : List Settled
  l = F.order

  zs : List Settled
  zs = (same-beginning N R law Q Q' longer F.is_order F'.is_order).0

  joins : F'.order ≡ l ++ zs
  unfolding zs
  joins = (same-beginning N R law Q Q' longer F.is_order F'.is_order).1

  rest : List ℕ
  rest = replicate (length buffer' - length (flat_map settled_bytes F'.order)) 0

  -- the bytes of the longer run: those of the shorter one's list, and what comes behind
  longer-bytes : bytes' ≡ flat_map settled_bytes l ++ (flat_map settled_bytes zs ++ rest)
  unfolding filled rest
  longer-bytes =
      F'.listed
      ∙ ap (λ (x : List ℕ). x ++ rest) (ap (flat_map settled_bytes) joins ∙ flat_append settled_bytes l zs)
      ∙ append_assoc (flat_map settled_bytes l) (flat_map settled_bytes zs) rest

  bytes-long : length (flat_map settled_bytes l) ≡ 8 * count
  bytes-long = own-length l ∙ ap (λ (n : ℕ). 8 * n) (sym F.counted)

  pub counts-grow : count ≤ count'
  counts-grow = omega (arith, F.counted, F'.counted, ap length joins ∙ length-append l zs)

  -- The counted settled bytes of the shorter run are the beginning of the longer one's.
  pub bytes-begin : take (8 * count) bytes ≡ take (8 * count) bytes'
  unfolding filled
  bytes-begin =
      let shorter : take (8 * count) bytes ≡ flat_map settled_bytes l =
      ap₂ (λ (n : ℕ) (b : List ℕ). take n b) (sym bytes-long) F.listed ∙ take-append_seam (flat_map settled_bytes l) (replicate (length buffer - length (flat_map settled_bytes l)) 0) in
      shorter ∙ sym (ap₂ (λ (n : ℕ) (b : List ℕ). take n b) (sym bytes-long) longer-bytes ∙ take-append_seam (flat_map settled_bytes l) (flat_map settled_bytes zs ++ rest))

  distance-of : (b : List ℕ) (i : ℕ) (x : Settled) → Stands settled_bytes 8 length-settled b i x → be32 b (8 * i + 4) ≡ x.distance
  distance-of b i x s = s 4 (omega arith) [] ∙ (settled_back x []).1

  -- The longer list is cut for the shorter time at the first distance above it: a counted record is one of the shorter list exactly if its distance is within that time.
  pub cut-exactly : Valid N Q → (j : ℕ) → j < count' → (j < count) ↔ (be32 bytes' (8 * j + 4) ≤ allowed Q)
  unfolding zs
  cut-exactly ok j h = (within, λ d. ⊎_elim (λ (k : count ≤ j). absurd (let q : ⊥ = omega (arith, behind k, d) in q)) (λ (k : j < count). k) (le-or-lt count j))
    where
      within : j < count → be32 bytes' (8 * j + 4) ≤ allowed Q
      within k =
          let x = one_of settled_bytes 8 length-settled l (flat_map settled_bytes zs ++ rest) j (omega (arith, F.counted)) in
          let d = ap (λ (b : List ℕ). be32 b (8 * j + 4)) longer-bytes ∙ distance-of (flat_map settled_bytes l ++ (flat_map settled_bytes zs ++ rest)) j x.0 x.2 in
          omega (arith, d, (follows-each (R.network Q) (R.distance Q) (allowed Q) [] l F.is_order.steps x.0 x.1).1)

      behind : count ≤ j → allowed Q < be32 bytes' (8 * j + 4)
      behind k =
          let x = one_of settled_bytes 8 length-settled zs rest (j - count) (omega (arith, F.counted, F'.counted, ap length joins ∙ length-append l zs)) in
          let at : 8 * j + 4 ≡ length (flat_map settled_bytes l) + (8 * (j - count) + 4) = omega (arith, bytes-long) in
          let d = ap₂ be32 longer-bytes at ∙ be32-behind (flat_map settled_bytes l) (flat_map settled_bytes zs ++ rest) (8 * (j - count) + 4) ∙ distance-of (flat_map settled_bytes zs ++ rest) (j - count) x.0 x.2 in
          omega (arith, d, beyond N R law Q Q' longer F.is_order F'.is_order ok x.0 x.1)
