-- All records of both tables as one row, the seeds of a query, and the array of listed distances, as the code has them. Assumes nothing.
use Rattle.std.specs.Prelude.{◌≡◌, ◌≢◌, Bool, not, cond, ◌&&◌, ◌||◌, List, [], ◌∷◌, ℕ, ◌≤◌, ◌<◌, eqb, leb, ltb, length}
use Rattle.journeys.specs.Bytes.{clocked}
use Rattle.journeys.specs.Counting.{none}
use Rattle.journeys.specs.Network.{Network, within}
use Rattle.journeys.specs.Records as records
use Rattle.journeys.specs.Refusals.{Refusal, unless, chain, first_bad}
use Rattle.journeys.specs.VendorLists.{no_better, backs, is_new, in_time, backed, from_place, to_place}
use Rattle.entries.specs.Noted.{heard}
use Rattle.passing.specs.Row.{asking, passes, record_of, from_of}
use Rattle.passing.specs.declared.Arriving.{Arriving}
use Rattle.reasons.specs.declared.Seeds.{Seeds}

-- what the seeds of a query give a vertex
unfoldable pub seed_of : Seeds → ℕ → ℕ
seed_of e v = cond (eqb e.from v) e.near.0 (cond (eqb e.to v) e.back.0 none)

-- the same row of records, with another distance at the far end
abbrev pub farther : Arriving → ℕ → Arriving
farther a d =
    record { walks = a.walks; hops = a.hops; size = a.size; distance = record { 0 = d }; arrival = a.arrival; speed = a.speed; allowed = a.allowed }

abbrev pub to_of : List ℕ → List ℕ → Arriving → ℕ → ℕ
to_of w h a r = records.to (record_of w h a r)

-- the network of n vertices, of the records of a row and of seeds
abbrev pub net_of : ℕ → List ℕ → List ℕ → Arriving → Seeds → Network
net_of n w h a e =
    record {
      vertices = n;
      records = passes a;
      allowed = a.allowed.0;
      from = from_of w h a;
      to = to_of w h a;
      seed = seed_of e;
      offer = λ r d. records.offer (asking (clocked a.arrival.0) a.speed) (record_of w h a r) d;
    }

-- every record leads between two numbers below 65,536
abbrev pub Led : List ℕ → List ℕ → Arriving → Type 0
Led w h a = (r : ℕ) → r < passes a → (from_of w h a r < 65536) × (to_of w h a r < 65536)

-- an array with a place for each vertex, whose distances are at most 8,640,000; it lists what f does
pub record Figures (far : List ℕ) : Type 0 where
  pub long : length far ≡ 65536
  pub small : (u : ℕ) → u < 65536 → heard far u ≢ none → heard far u ≤ 8640000

abbrev pub Gives : List ℕ → (ℕ → ℕ) → Type 0
Gives far f = (u : ℕ) → u < 65536 → heard far u ≡ f u

-- 25, 26 and 27 of an entry at once: nothing is wrong with it. The same of its three words, by what `far` lists of the entries before it.
unfoldable pub entry_good : Network → ℕ → List ℕ → ℕ → Bool
entry_good G D list i = is_new G list i && in_time D list i && backed G list i

unfoldable pub good_by : Network → ℕ → (ℕ → ℕ) → ℕ → ℕ → ℕ → Bool
good_by G D far v d r = ltb v G.vertices && eqb (far v) none && leb d D && backs G far v d r

-- a record offers no better than what is listed, by what `far` lists
unfoldable pub fair_by : Network → ℕ → (ℕ → ℕ) → ℕ → Bool
fair_by G D far r = not (within far (G.to r)) || no_better D (far (G.from r)) (G.offer r (far (G.to r)))

-- 28 by what `far` lists, `from` and `to` being the query ends
unfoldable pub offer_refusal : Network → ℕ → (ℕ → ℕ) → ℕ → ℕ → Refusal
offer_refusal G D far from to =
    chain
    (unless (no_better D (far from) (G.seed from)) 28 from_place
    ∷ unless (no_better D (far to) (G.seed to)) 28 to_place
    ∷ first_bad 28 (fair_by G D far) G.records
    ∷ [])
