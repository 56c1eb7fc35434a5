-- A bought list of vertices, distances and records, judged against the tables: refusals 25 to 28, and those that come before them. Assumes nothing.
use Rattle.std.specs.Prelude.{◌≡◌, ◌⊎◌, ◌≢◌, Bool, not, cond, ◌&&◌, ◌||◌, List, [], ◌∷◌, ◌++◌, ℕ, ◌+◌, ◌*◌, ◌≤◌, ◌<◌, eqb, leb, ltb, length, get_or}
use Rattle.journeys.specs.Counting.{none, joined, In}
use Rattle.journeys.specs.Bytes.{be32, word}
use Rattle.journeys.specs.Tables.{Tables, tables_of}
use Rattle.journeys.specs.Query.{Query, asked, allowed}
use Rattle.journeys.specs.Order.{Settled, settled}
use Rattle.journeys.specs.Network.{Network, distance_in, within, into}
use Rattle.journeys.specs.Records.{network}
use Rattle.journeys.specs.Refusals.{Refusal, unless, chain, first_bad, whole_of, table_lengths, contents, query_refusal}
use Rattle.journeys.specs.Lists.{entries, vertex_in, distance_at, entry_ok}
use Rattle.journeys.specs.Answers.{settled_bytes}

-- An entry has 12 bytes: a vertex, its distance, and the record with which a journey starts there. Walks are numbered first, then hops; FFFFFFFF stands for a seed.
module _ (list : List ℕ) where
  abbrev pub size : ℕ
  size = entries 12 list

  abbrev pub record_in : ℕ → ℕ
  record_in i = be32 list (12 * i + 8)

  -- the vertex and distance of an entry; those of the first n entries
  abbrev pub entry_in : ℕ → Settled
  entry_in i = settled (vertex_in 12 list i) (distance_at 12 list i)

  unfoldable pub listed : ℕ → List Settled
  listed n = joined (λ i. entry_in i ∷ []) n

  -- the distance that the first n entries list for a vertex, none if they do not
  abbrev pub far_before : ℕ → ℕ → ℕ
  far_before n = distance_in (listed n)

  -- the distance that the list gives a vertex
  abbrev pub far_listed : ℕ → ℕ
  far_listed = far_before size

-- r tells where the distance of entry i comes from, `at` being the vertex and distance of each entry: where r is FFFFFFFF its vertex is a seed of that distance;
-- else the record r runs from its vertex to that of an earlier entry, and offers its distance from the one listed there.
abbrev pub Reason : Network → (ℕ → Settled) → ℕ → ℕ → Type 0
Reason G at i r =
    ((r ≡ none) × (G.seed (at i).vertex ≡ (at i).distance))
    ⊎ ((r < G.records) × (G.from r ≡ (at i).vertex) × ((j : ℕ) × (j < i) × (G.to r ≡ (at j).vertex) × (G.offer r (at j).distance ≡ (at i).distance)))

-- THE RIGHT LIST, in words: what the numbers below accept exactly (`accepted-exactly`). D is the greatest distance.
module _ (G : Network) (D : ℕ) (list : List ℕ) where
  -- to be offered x is no better for v than what is listed: not less than the distance listed for v, and above D where v is not listed
  pub record Fair (v x : ℕ) : Type 0 where
    pub no_less : (d : ℕ) → In (settled v d) (listed list (size list)) → d ≤ x
    pub beyond : ((d : ℕ) → ¬ In (settled v d) (listed list (size list))) → D < x

  pub record Right : Type 0 where
    -- its vertices exist and differ, and all distances are at most D
    pub exists : (i : ℕ) → i < size list → vertex_in 12 list i < G.vertices
    pub differ : (i j : ℕ) → i < size list → j < i → vertex_in 12 list j ≢ vertex_in 12 list i
    pub near : (i : ℕ) → i < size list → distance_at 12 list i ≤ D
    pub reason : (i : ℕ) → i < size list → Reason G (entry_in list) i (record_in list i)
    -- no seed, and no record into a listed vertex, offers better
    pub seeds : (v : ℕ) → v < G.vertices → Fair v (G.seed v)
    pub records : (r d : ℕ) → r < G.records → In (settled (G.to r) d) (listed list (size list)) → Fair (G.from r) (G.offer r d)

-- ---- the same as tests of numbers
-- What is offered is no better than what is listed: not less than the listed distance; above D where none is listed.
unfoldable pub no_better : ℕ → ℕ → ℕ → Bool
no_better D far offered = cond (ltb far none) (leb far offered) (ltb D offered)

-- r tells where the distance d of v comes from: v is a seed of that distance, where r is FFFFFFFF; else the record r runs from v to a vertex that `far` lists,
-- and offers d from the distance listed there.
unfoldable pub backs : Network → (ℕ → ℕ) → ℕ → ℕ → ℕ → Bool
backs G far v d r = cond (eqb r none) (eqb (G.seed v) d) (ltb r G.records && into G far v r && eqb (G.offer r (far (G.to r))) d)

module _ (G : Network) (list : List ℕ) where
  -- 25: the vertex exists, and no earlier entry has it; distances are not looked at
  abbrev pub is_new : ℕ → Bool
  is_new = entry_ok 12 G.vertices none list

  -- 27: by the entries before it, and their listed distances
  unfoldable pub backed : ℕ → Bool
  backed i = backs G (far_before list i) (vertex_in 12 list i) (distance_at 12 list i) (record_in list i)

  -- 28, by the whole list: of a seed by its vertex, of a record by its number
  module _ (D : ℕ) where
    unfoldable pub seed_fair : ℕ → Bool
    seed_fair v = no_better D (far_listed list v) (G.seed v)

    unfoldable pub record_fair : ℕ → Bool
    record_fair r = not (within (far_listed list) (G.to r)) || no_better D (far_listed list (G.from r)) (G.offer r (far_listed list (G.to r)))

-- 26
unfoldable pub in_time : ℕ → List ℕ → ℕ → Bool
in_time D list i = leb (distance_at 12 list i) D

-- the places of the two seeds of the query, "from" of e and "to" of e
abbrev pub from_place : ℕ
from_place = 4294967294

abbrev pub to_place : ℕ
to_place = 4294967295

-- 25 to 28 over a network with these query ends: every 25 comes before any 26, and so on. A seed that offers better comes before every record that does.
module _ (G : Network) (D : ℕ) (list : List ℕ) (from to : ℕ) where
  unfoldable pub bought_refusal : Refusal
  bought_refusal =
      chain
      (first_bad 25 (is_new G list) (size list)
      ∷ first_bad 26 (in_time D list) (size list)
      ∷ first_bad 27 (backed G list) (size list)
      ∷ unless (seed_fair G list D from) 28 from_place
      ∷ unless (seed_fair G list D to) 28 to_place
      ∷ first_bad 28 (record_fair G list D) G.records
      ∷ [])

abbrev pub vendor_refusal : Tables → Query → List ℕ → Refusal
vendor_refusal N Q list = bought_refusal (network N Q) (allowed Q) list (asked N Q).from (asked N Q).to

-- what is lent: three tables, the size of a hop, and the list; nothing is written
pub record JudgeLent : Type 0 where
  pub vertices : List ℕ
  pub walks : List ℕ
  pub hops : List ℕ
  pub hop_size : ℕ
  pub list : List ℕ

abbrev pub judge_tables : JudgeLent → Tables
judge_tables b = tables_of b.hop_size b.vertices b.walks b.hops

-- THE ANSWER, for any bytes and query: 1 with the place 4 for the list's length, 2 to 7, 25 to 28
unfoldable pub judge_refusal : JudgeLent → Query → Refusal
judge_refusal b Q =
    chain
    (table_lengths b.hop_size b.vertices b.walks b.hops
    ∷ unless (whole_of 12 b.list) 1 4
    ∷ contents (judge_tables b)
    ∷ query_refusal (judge_tables b) Q
    ∷ vendor_refusal (judge_tables b) Q b.list
    ∷ [])

-- a settled list as such a list, with a record for each entry
unfoldable pub with_records : List Settled → (ℕ → ℕ) → List ℕ
with_records l records = joined (λ i. settled_bytes (get_or l i (settled 0 0)) ++ word (records i)) (length l)
