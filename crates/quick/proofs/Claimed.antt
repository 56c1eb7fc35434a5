-- The cases of a claim. Assumes nothing.
use Rattle.std.proofs.Common.{◌≡◌, ℕ, ◌+◌, ◌-◌, ◌<◌, ◌≤◌, Bool, List, length, set, ◌∙◌, add-one, arith, le-ltb, lt-ltb, le-leb}
use borrow.Author.Tests.{lt-leb}
use Rattle.journeys.specs.Tables.{vertex_at}
use Rattle.journeys.proofs.Tests.{cond-true, cond-false}
use Rattle.journeys.proofs.Counting.{below_suc}
use Rattle.tally.specs.Laid.{listed}
use Rattle.quick.specs.Claims.{arriving, claim_of}
use Rattle.quick.specs.Lists.{Claims}
use Rattle.quick.proofs.Sifted.{kept, written}

module _ (pairs : Bool) (vertices walks : List ℕ) (limit v : ℕ) where
  abbrev departing : ℕ
  departing = (vertex_at vertices v).departing

  pub claim-behind : limit ≤ v → claim_of pairs vertices walks limit v ≡ 0
  unfolding claim_of
  claim-behind l = cond-false _ _ (le-ltb v limit l)

  pub claim-short : v < limit → departing < arriving pairs walks v → claim_of pairs vertices walks limit v ≡ 65536
  unfolding claim_of
  claim-short w l = cond-true _ _ (lt-ltb v limit w) ∙ cond-false _ _ (lt-leb (arriving pairs walks v) departing l)

  pub claim-good : v < limit → arriving pairs walks v ≤ departing → claim_of pairs vertices walks limit v ≡ departing - arriving pairs walks v
  unfolding claim_of
  claim-good w l = cond-true _ _ (lt-ltb v limit w) ∙ cond-true _ _ (le-leb (arriving pairs walks v) departing l)

-- one claim more in the list
pub claims-more : (claim : ℕ → ℕ) (n : ℕ) (s : List ℕ) (x : ℕ) → 1984 + n < length s → Claims claim n s → x ≡ claim n → x < 65536 → Claims claim (n + 1) (set s (1984 + n) x)
claims-more claim n s x room h e l =
    rw add-one (below_suc {P = λ j. (listed (set s (1984 + n) x) j ≡ claim j) × (claim j < 65536)} n (λ j k. (kept s n x j k ∙ (h j k).0, (h j k).1)) (written s n x room ∙ e, omega arith))
