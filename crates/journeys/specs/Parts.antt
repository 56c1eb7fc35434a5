-- The covered parts of walk records, in the order in which they are written: RULES 10. Assumes nothing.
use Rattle.std.specs.Prelude.{cond, ℕ, ◌-◌, max, ◌≤◌, eqb}
use mathlib.Core.List.{List, [], ◌∷◌, ◌++◌, flat_map}
use Rattle.journeys.specs.Counting.{none, joined, In}
use Rattle.journeys.specs.Bytes.{word}
use Rattle.journeys.specs.Tables.{Tables, walk, walk_count}
use Rattle.journeys.specs.Query.{Query, allowed, asked, wait_ticks, past_ticks}
use Rattle.journeys.specs.Order.{Settled}

-- both ends belong to a part
pub record Part : Type 0 where
  pub walk : ℕ
  pub start : ℕ
  pub end : ℕ

abbrev pub part_bytes : Part → List ℕ
part_bytes x = word x.walk ++ word x.start ++ word x.end

-- a part with start equal to end is left out
unfoldable pub part : ℕ → ℕ → ℕ → List Part
part i a b = cond (eqb a b) [] (record { walk = i; start = a; end = b } ∷ [])

module _ (N : Tables) (Q : Query) where
  -- the offset of the query place on record i: on e, on its twin; 0 on any other, where it does not lie
  unfoldable pub near : ℕ → ℕ
  near i = cond (eqb i Q.walk) Q.offset (cond (eqb i (asked N Q).twin) ((asked N Q).len - Q.offset) 0)

  -- Up to the query place: at most D long, or as long as D less the wait that the place is past. Where D does not reach the wait that is 0 long.
  unfoldable pub first_part : ℕ → List Part
  first_part i = part i (near i - (allowed Q - past_ticks Q (walk N i) (near i))) (near i)

  -- step 0: on e, then on the twin, if any
  unfoldable pub first_parts : List Part
  first_parts = first_part Q.walk ++ cond (eqb (asked N Q).twin none) [] (first_part (asked N Q).twin)

  -- Up to "to", which has the distance d: what is left of D less the wait, and on e and its twin not beyond the query place. Where what is left does not reach the wait that is 0 long.
  unfoldable pub part_at : ℕ → ℕ → List Part
  part_at d i = part i (max ((walk N i).len - (allowed Q - d - wait_ticks Q (walk N i))) (near i)) (walk N i).len

  -- at a settled vertex: its arriving walks, ascending
  unfoldable pub parts_at : Settled → List Part
  parts_at x = joined (λ i. cond (eqb (walk N i).to x.vertex) (part_at x.distance i) []) (walk_count N)

  unfoldable pub part_list : List Settled → List Part
  part_list S = first_parts ++ flat_map parts_at S

-- the place x of record i lies in a listed part
pub record Covered (ps : List Part) (i x : ℕ) : Type 0 where
  pub start : ℕ
  pub end : ℕ
  pub listed : In (record { walk = i; start = start; end = end }) ps
  pub low : start ≤ x
  pub high : x ≤ end
