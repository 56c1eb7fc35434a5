-- What the judge of bought lists accepts: good tables, a good query, and exactly the settled set with its distances. Assumes nothing.
use mathlib.Core.Path.{◌≡◌, sym, ap, ◌∙◌}
use mathlib.Core.Logic.{◌↔◌, ◌≢◌}
use mathlib.Core.Bool.{true}
use Prim.Native.Nat.{ℕ, ◌≤◌, ◌<◌}
use Rattle.journeys.specs.Counting.{none}
use Rattle.journeys.specs.Query.{Query, allowed}
use Rattle.journeys.specs.Journeys.{Distance}
use Rattle.journeys.specs.Order.{Settled, settled}
use Rattle.journeys.specs.Records.{network}
use Rattle.journeys.specs.Refusals.{Refusal, fine, unless, whole_of, table_lengths, contents, query_refusal}
use Rattle.journeys.specs.Valid.{Valid}
use Rattle.journeys.specs.Lists.{vertex_in, distance_at}
use Rattle.journeys.specs.VendorLists.{size, record_in, Right, vendor_refusal, JudgeLent, judge_tables, judge_refusal}
use Rattle.journeys.proofs.Refusals.{or-fine, or-next, unless-good}
use Rattle.journeys.proofs.Valid.{lengths-valid, query-valid}
use Rattle.journeys.proofs.VendorLists.{entry_in_lem, in_entry, no-circle, right-is-settled}
use Rattle.vendors.proofs.Exactly.{passes-right}

module _ (b : JudgeLent) (Q : Query) where
  -- where the five links of the chain are fine, nothing is refused
  pub nothing-refused : (table_lengths b.hop_size b.vertices b.walks b.hops).number ≡ 0 → whole_of 12 b.list ≡ true → (contents (judge_tables b)).number ≡ 0
      → (query_refusal (judge_tables b) Q).number ≡ 0 → vendor_refusal (judge_tables b) Q b.list ≡ fine → judge_refusal b Q ≡ fine
  unfolding judge_refusal
  nothing-refused lengths whole good query right =
      or-next (table_lengths b.hop_size b.vertices b.walks b.hops) _ lengths
      ∙ or-next (unless (whole_of 12 b.list) 1 4) _ (ap (λ (r : Refusal). r.number) (unless-good (whole_of 12 b.list) 1 4 whole))
      ∙ or-next (contents (judge_tables b)) _ good
      ∙ or-next (query_refusal (judge_tables b) Q) _ query
      ∙ right

  module _ (accepted : (judge_refusal b Q).number ≡ 0) where
    abbrev Both : Type 0
    Both = Valid (judge_tables b) Q × ((vendor_refusal (judge_tables b) Q b.list).number ≡ 0)

    both : Both
    unfolding judge_refusal
    both =
        let x = or-fine (table_lengths b.hop_size b.vertices b.walks b.hops) _ accepted in
        let y = or-fine (unless (whole_of 12 b.list) 1 4) _ x.1 in
        let z = or-fine (contents (judge_tables b)) _ y.1 in
        let q = or-fine (query_refusal (judge_tables b) Q) _ z.1 in
        (record { tables = lengths-valid b.hop_size b.vertices b.walks b.hops x.0 z.0; query = query-valid (judge_tables b) Q q.0 }, q.1)

    pub accepted-valid : Valid (judge_tables b) Q
    accepted-valid = both.0

    -- An accepted list is right.
    pub accepted-right : Right (network (judge_tables b) Q) (allowed Q) b.list
    accepted-right = passes-right (judge_tables b) Q accepted-valid b.list both.1

    -- Its entries are our settled set with our distances.
    pub accepted-settled : (v d : ℕ)
        → ((i : ℕ) × (i < size b.list) × (vertex_in 12 b.list i ≡ v) × (distance_at 12 b.list i ≡ d)) ↔ (Distance (judge_tables b) Q v d × (d ≤ allowed Q))
    accepted-settled v d =
        let exactly = right-is-settled (judge_tables b) Q accepted-valid b.list accepted-right v d in (
          λ (i, h, e, f). exactly.0 (rw (sym e, sym f) (entry_in_lem b.list (size b.list) i h)),
          λ p. let r = in_entry b.list (size b.list) (settled v d) (exactly.1 p) in
              (r.0, r.1, sym (ap (λ (x : Settled). x.vertex) r.2), sym (ap (λ (x : Settled). x.distance) r.2)),
        )

    -- No two of them are each the other's reason.
    pub accepted-no-circle : (i j : ℕ) → i < size b.list → j < size b.list → record_in b.list i ≢ none → record_in b.list j ≢ none
        → (network (judge_tables b) Q).to (record_in b.list i) ≡ vertex_in 12 b.list j → (network (judge_tables b) Q).to (record_in b.list j) ≡ vertex_in 12 b.list i → ⊥
    accepted-no-circle = no-circle (network (judge_tables b) Q) (allowed Q) b.list accepted-right
