-- The parts of a list, entry by entry, by the numbers of the query's road. Assumes nothing.
use Rattle.std.specs.Prelude.{◌≡◌, Bool, true, false, cond, List, ◌++◌, ℕ, ◌+◌, ◌-◌, ◌*◌, ◌/◌, ◌<◌, ◌≤◌, length, Option, Result, Ok, Err, IfSome}
use Rattle.journeys.specs.Counting.{joined}
use Rattle.journeys.specs.Tables.{Tables, vertex_at, vertex_count, tables_of}
use Rattle.journeys.specs.Query.{Query, allowed}
use Rattle.journeys.specs.Order.{Settled}
use Rattle.journeys.specs.Records.{record_count}
use Rattle.journeys.specs.Parts as ordinary
use Rattle.journeys.specs.Parts.{Part}
use Rattle.journeys.specs.Valid.{Valid}
use Rattle.journeys.specs.Lists.{vertex_in, distance_at, entry_ok}
use Rattle.journeys.specs.CourierParts as courier
use Rattle.journeys.specs.CourierList.{list_refusal}
use Rattle.records.specs.Arriving.{first_of, end_of}
use Rattle.records.specs.declared.Kind.TheVariants.{Walks}
use Rattle.listing.specs.Places as listing
use Rattle.listing.specs.Places.{total, from_of}
use Rattle.stretches.specs.Stretch.{Right, walks_of}
use denote.Ref.{MutBor}
use Rattle.parts.specs.Listing.{first_on, parts_on, first_ahead, aheads_on, Behind, ListedIs}
use Rattle.parts.specs.declared.Road.{Road}

module _ (v w list : List ℕ) where
  -- where the walks begin and end that arrive at the vertex of entry i
  abbrev pub first_at : ℕ → ℕ
  first_at i = first_of Walks (vertex_at v (vertex_in 8 list i))

  abbrev pub end_at : ℕ → ℕ
  end_at i = end_of Walks v (length w / 16) (vertex_in 8 list i)

  -- what an entry has to be
  pub record Sound (allowed i : ℕ) : Type 0 where
    pub vertex : vertex_in 8 list i < length v / 12
    pub distance : distance_at 8 list i ≤ allowed
    pub order : first_at i ≤ end_at i
    pub fit : end_at i ≤ length w / 16

  -- the parts of entry i
  unfoldable pub entry_on : Road → ℕ → ℕ → List Part
  entry_on e allowed i = parts_on w e (allowed - distance_at 8 list i) (first_at i) (end_at i - first_at i)

-- the courier's parts of entry i: of the walks that leave its vertex, whose numbers stand in the list r of records by "from"
unfoldable pub entry_ahead : ℕ → List ℕ → List ℕ → List ℕ → List ℕ → Road → ℕ → ℕ → List Part
entry_ahead size w h r list e allowed i =
    let s = walks_of size w h (vertex_in 8 list i) in aheads_on w e (allowed - distance_at 8 list i) r s.first s.many

-- ---- in either direction
unfoldable pub first_in : Bool → Road → ℕ → List Part
first_in courier e allowed = cond courier (first_ahead e allowed) (first_on e allowed)

unfoldable pub entry_in : Bool → ℕ → List ℕ → List ℕ → List ℕ → List ℕ → List ℕ → Road → ℕ → ℕ → List Part
entry_in courier size v w h r list e allowed i = cond courier (entry_ahead size w h r list e allowed i) (entry_on v w list e allowed i)

-- those of step 0 and of the first k entries
unfoldable pub listed_in : List Part → (ℕ → List Part) → ℕ → List Part
listed_in first entry k = first ++ joined entry k

-- the same by the definitions
unfoldable pub part_list_in : Bool → Tables → Query → List Settled → List Part
part_list_in c N Q S = cond c (courier.part_list N Q S) (ordinary.part_list N Q S)

-- what the list of records has to be
pub record Leaving (size : ℕ) (v w h r : List ℕ) : Type 0 where
  pub sound : listing.Sound size v w h
  pub long : length r ≡ 4 * total size w h
  pub right : Right (from_of size w h) (total size w h) r

-- what listing the parts of a list asks for
pub record Ready (courier : Bool) (size : ℕ) (v w h r list : List ℕ) (e : Road) (allowed : ℕ) : Type 0 where
  pub few : length w / 16 ≤ 262144
  pub speed : e.speed ≤ 100
  pub road : e.near.0 + e.back.0 < 4294967296
  pub distance : (i : ℕ) → i < length list / 8 → distance_at 8 list i ≤ allowed
  pub here : courier ≡ false → (i : ℕ) → i < length list / 8 → Sound v w list allowed i
  pub there : courier ≡ true → Leaving size v w h r

-- what refusals 1 to 7, 21 and 22 leave
pub record Accepted (courier : Bool) (size : ℕ) (v w h r list : List ℕ) (Q : Query) : Type 0 where
  pub wide : 16 ≤ size
  pub valid : Valid (tables_of size v w h) Q
  pub good : (i : ℕ) → i < length list / 8 → entry_ok 8 (vertex_count (tables_of size v w h)) (allowed Q) list i ≡ true
  pub long : courier ≡ true → length r ≡ 4 * record_count (tables_of size v w h)
  pub matches : courier ≡ true → (list_refusal (tables_of size v w h) r).number ≡ 0

-- `f k` are the parts of step 0 and of the first k of n entries: all of them stand in the buffer, or k is the first for which they do not fit.
pub record FullAt (f : ℕ → List Part) (n : ℕ) (b b' : List ℕ) (k : ℕ) : Type 0 where
  pub made : k ≤ n
  pub over : length b / 12 < length (f k)
  pub before : (j : ℕ) → j < k → length (f j) ≤ length b / 12
  pub same : length b' ≡ length b

unfoldable pub CoveredIs : (ℕ → List Part) → ℕ → List ℕ → List ℕ → Result ℕ ℕ → Type 0
CoveredIs f n b b' (Ok c) = Behind 0 (f n) b b' c × ((j : ℕ) → j ≤ n → length (f j) ≤ length b / 12)
CoveredIs f n b b' (Err k) = FullAt f n b b' k

-- What listing step 0 is asked for, and what it does: `call` speaks of the buffer before and after, and the answer.
abbrev pub MayBegin : (MutBor (List ℕ) → Type 0) → Type 0
MayBegin call = (b : MutBor (List ℕ)) → call b

abbrev pub FindsRoom : (MutBor (List ℕ) → Option ℕ → MutBor (List ℕ) → Type 0) → Type 0
FindsRoom call = (b b' : MutBor (List ℕ)) (r : Option ℕ) → call b r b' → IfSome r (λ c. c ≤ length b'.now / 12)

-- it lists the parts `step`
abbrev pub Begins : List Part → (MutBor (List ℕ) → Option ℕ → MutBor (List ℕ) → Type 0) → Type 0
Begins step call = (b b' : MutBor (List ℕ)) (r : Option ℕ) → call b r b' → ListedIs 0 step b.now b'.now r

-- What listing an entry is asked for, and what it does: `call` speaks of the buffer before and after, the number of parts before, the entry, and the answer.
module _ (n : ℕ) where
  abbrev pub MayList : (MutBor (List ℕ) → ℕ → ℕ → Type 0) → Type 0
  MayList call = (b : MutBor (List ℕ)) (count i : ℕ) → count ≤ length b.now / 12 → i < n → call b count i

  abbrev pub KeepsRoom : (MutBor (List ℕ) → ℕ → ℕ → Option ℕ → MutBor (List ℕ) → Type 0) → Type 0
  KeepsRoom call = (b b' : MutBor (List ℕ)) (count i : ℕ) (r : Option ℕ) → count ≤ length b.now / 12 → i < n → call b count i r b' → IfSome r (λ c. c ≤ length b'.now / 12)

-- each call lists the parts f i of its entry
abbrev pub Lists : (ℕ → List Part) → ℕ → (MutBor (List ℕ) → ℕ → ℕ → Option ℕ → MutBor (List ℕ) → Type 0) → Type 0
Lists f n call = (b b' : MutBor (List ℕ)) (count i : ℕ) (r : Option ℕ) → i < n → call b count i r b' → ListedIs count (f i) b.now b'.now r
