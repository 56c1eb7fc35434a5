-- All figures fit their 4 bytes (RULES 7.4): within the limits of RULES 4 and 5.1 every seed, offer, known distance, offset and count is below none. Assumes nothing.
use mathlib.Core.Path.{◌≡◌, refl, subst}
use mathlib.Core.Logic.{◌⊎◌, inl, inr, ⊎_elim, ◌≢◌}
use mathlib.Core.Bool.{Bool, true, false, not, cond, ◌&&◌, ◌||◌}
use mathlib.Core.List.{List, [], ◌∷◌, ◌++◌, flat_map}
use Prim.Native.Nat.{ℕ, zero, suc, ◌+◌, ◌-◌, ◌*◌, ◌≤◌, ◌<◌, min}
use native.Mathlib.Nat.{mul-le-mul}
use native.Mathlib.Decide.{ℕ_discrete}
use native.Mathlib.Omega.{arith}
use lib.Dec.{eqb, leb, ltb}
use borrow.Author.Tests.{lt-ltb, le-ltb}
use lib.ListN.{length, take, drop, length-append, take-append-drop}
use lib.Seq.{take-nil}
use Rattle.journeys.specs.Counting.{none, count, joined, In, one}
use Rattle.journeys.specs.Bytes.{midnight}
use Rattle.journeys.specs.Tables.{Tables, Walk, walk, hop, walk_count}
use Rattle.journeys.specs.Query.{Query, before, asked, asked_twin, wait_ticks, past_ticks, from_ticks, to_ticks, allowed}
use Rattle.journeys.specs.Order.{Settled, settled, Follows}
use Rattle.journeys.specs.Network.{Network, distance_in, within, known, held, row, entry, held_list}
use Rattle.journeys.specs.Records.{Record, offer, record_count, record_at, seed, network}
use Rattle.journeys.specs.Parts.{Part, part, near, first_part, first_parts, part_at, parts_at, part_list}
use Rattle.journeys.proofs.Tests.{Test, same, other, test, le-or-lt}
use Rattle.journeys.proofs.Counting.{is_one, is_zero, count_most, count-join, in_left, in_right}
use Rattle.journeys.proofs.Known.{By, known_by, known-seed, known-record}
use Rattle.journeys.proofs.Firsts.{distance-in, follows-apart}
use Rattle.journeys.proofs.Valid.{good-walk, good-hop, paired, allowed-high, wait-most}
use Rattle.journeys.specs.Valid.{Valid}
use Rattle.journeys.proofs.Document.{Numbered, of-walk, of-hop, numbered, ways, no-twin}
use Rattle.journeys.proofs.Cover.{Piece, first, later}
use Rattle.journeys.proofs.Listing.{two_of, parts_by}
use Rattle.journeys.proofs.Coverage.{road, first_start, later_start, sound, listed-piece}

-- the largest figure: a start at -86,400 s for an arrival at 172,800 s, at 100 dm/s
abbrev pub largest : ℕ
largest = 25920000

-- none, or no more than a figure
abbrev pub Within : ℕ → ℕ → Type 0
Within most x = (x ≡ none) ⊎ (x ≤ most)

abbrev pub Fits : ℕ → Type 0
Fits x = Within largest x

pub gate-within : {most : ℕ} (b : Bool) (x : ℕ) → x ≤ most → Within most (cond b x none)
gate-within true x q = inr q
gate-within false x q = inl refl

-- the lesser of two seeds
pub seeds-within : {most x y : ℕ} (a b : Bool) → x ≤ most → y ≤ most → Within most (min (cond a x none) (cond b y none))
seeds-within true true p q = inr (omega arith)
seeds-within true false p q = inr (omega arith)
seeds-within false true p q = inr (omega arith)
seeds-within false false p q = inl (omega arith)

-- What is known comes from a seed or from an offer at a distance within D: where those fit, it does.
pub all_fit : (G : Network) (most : ℕ) → ((v : ℕ) → Within most (G.seed v)) → ((r d : ℕ) → r < G.records → d ≤ G.allowed → Within most (G.offer r d))
    → (far : ℕ → ℕ) → ((u : ℕ) → far u < none → far u ≤ G.allowed) → (v : ℕ) → known G far v < none → known G far v ≤ most
all_fit G most seeds offers far low v h = go (known_by G far v (known G far v) h (omega arith))
  where
    fits : (x : ℕ) → Within most x → x ≤ known G far v → known G far v ≤ x → known G far v ≤ most
    fits x (inl e) a b = absurd (omega arith)
    fits x (inr e) a b = omega arith

    go : By G far v (known G far v) → known G far v ≤ most
    go (inl s) = fits (G.seed v) (seeds v) s (known-seed G far v)
    go (inr x) =
        let i = x.1 in
        fits (G.offer x.0 (far (G.to x.0))) (offers x.0 (far (G.to x.0)) i.0 (low (G.to x.0) i.2)) x.2 (known-record G far v x.0 i)

module _ (N : Tables) (Q : Query) (ok : Valid N Q) where
  before-fits : (second : ℕ) → midnight - 86400 ≤ second → before Q second ≤ largest
  before-fits second h =
      let m : (Q.arrival - second) * Q.speed ≤ 259200 * 100 = mul-le-mul (let q : Q.arrival - second ≤ 259200 = omega (arith, ok.query.arrival_high) in q) ok.query.speed_high in
      omega arith

  -- Every offer at a distance within D.
  pub offer-fits : (r d : ℕ) → r < record_count N → d ≤ allowed Q → Fits (offer Q (record_at N r) d)
  unfolding offer
  offer-fits r d l h = go (numbered N r l)
    where
      go : {x : Record} → Numbered N r x → Fits (offer Q x d)
      go (of-walk i) = inr (omega (arith, (good-walk N ok.tables r i).len-high, wait-most ok.query (walk N r).wait (good-walk N ok.tables r i).wait-high, allowed-high ok.query))
      go (of-hop j i e) =
          gate-within (leb (hop N j).arrival Q.arrival && leb d (before Q (hop N j).arrival)) (before Q (hop N j).departure) (before-fits (hop N j).departure (good-hop N ok.tables j i).departure-low)

  -- The ticks of both seeds.
  long : (asked N Q).len ≤ 100000
  long = (good-walk N ok.tables Q.walk ok.query.walk_low).len-high

  past_fits : (w : Walk) (offset : ℕ) → w.wait ≤ 120 → past_ticks Q w offset ≤ 12000
  past_fits w offset h = go (eqb offset w.len)
    where
      go : (t : Bool) → cond t (wait_ticks Q w) 0 ≤ 12000
      go true = wait-most ok.query w.wait h
      go false = omega arith

  pub from-fits : from_ticks N Q ≤ 112000
  from-fits = omega (arith, long, ok.query.offset_low, past_fits (asked N Q) Q.offset (good-walk N ok.tables Q.walk ok.query.walk_low).wait-high)

  pub twin-wait : (asked_twin N Q).wait ≤ 120
  twin-wait = go (ℕ_discrete (asked N Q).twin none)
    where
      go : Dec ((asked N Q).twin ≡ none) → (asked_twin N Q).wait ≤ 120
      go (yes e) = rw (no-twin N Q ok e) (omega arith)
      go (no n) = (good-walk N ok.tables (asked N Q).twin (paired N ok.tables Q.walk ok.query.walk_low n).0).wait-high

  pub to-fits : to_ticks N Q ≤ 112000
  to-fits = omega (arith, long, past_fits (asked_twin N Q) ((asked N Q).len - Q.offset) twin-wait)

  -- Every seed.
  pub seed-fits : (v : ℕ) → Fits (seed N Q v)
  unfolding seed
  seed-fits v =
      seeds-within (eqb (asked N Q).from v) (eqb (asked N Q).to v && (not (eqb (asked N Q).twin none) || eqb Q.offset (asked N Q).len))
      (omega (arith, from-fits)) (omega (arith, to-fits))

  -- Every known distance, where all that is settled is within D.
  pub known-fits : (far : ℕ → ℕ) → ((u : ℕ) → far u < none → far u ≤ allowed Q) → (v : ℕ) → known (network N Q) far v < none → known (network N Q) far v ≤ largest
  known-fits = all_fit (network N Q) largest seed-fits (λ r d l h. offer-fits r d l h)

  -- Every part: a record of the table, and offsets on it.
  pub part-fits : (S : List Settled) (p : Part) → In p (part_list N Q S)
      → (p.walk < walk_count N) × (p.start ≤ p.end) × (p.end ≤ (walk N p.walk).len)
  part-fits S p j =
      let x = listed-piece N Q S p j in
      let l : p.walk < walk_count N = on-table x.0 in
      let q = piece-fits p.walk l x.1 in
      (l, q.0, q.1)
    where
      on-table : (p.walk ≡ Q.walk) ⊎ ((p.walk ≡ (asked N Q).twin) × ((asked N Q).twin ≢ none)) ⊎ (p.walk < walk_count N) → p.walk < walk_count N
      on-table (inl e) = rw e ok.query.walk_low
      on-table (inr (inl e)) = rw e.0 (paired N ok.tables Q.walk ok.query.walk_low e.1).0
      on-table (inr (inr l)) = l

      piece-fits : (i : ℕ) → i < walk_count N → {a z : ℕ} → Piece (network N Q) (ways N Q) (allowed Q) S (road N Q i) a z → (a ≤ z) × (z ≤ (walk N i).len)
      piece-fits i l (first q) = (omega arith, (sound N Q ok i l).on)
      piece-fits i l (later d k q) = (omega (arith, (sound N Q ok i l).on), omega arith)

-- ---- counts
at_most_one : {A : Type 0} (t : Bool) (x : A) → (length (cond t (x ∷ []) []) ≤ one t) × (length (cond t [] (x ∷ [])) ≤ 1)
at_most_one true x = (omega arith, omega arith)
at_most_one false x = (omega arith, omega arith)

pub part-most : (i a b : ℕ) → length (part i a b) ≤ 1
unfolding part
part-most i a b = let p : Part = record { walk = i; start = a; end = b } in (at_most_one (eqb a b) p).1

joined-most : {A : Type 0} (f : ℕ → List A) (p : ℕ → Bool) (n : ℕ) → ((i : ℕ) → i < n → length (f i) ≤ one (p i)) → length (joined f n) ≤ count p n
unfolding joined count
joined-most f p zero h = omega arith
joined-most f p (suc n) h = omega (arith, length-append (joined f n) (f n), joined-most f p n (λ i l. h i (omega arith)), h n (omega arith))

-- No more entries are held than there are vertices.
pub held-most : (G : Network) (far : ℕ → ℕ) → length (held_list G far) ≤ G.vertices
unfolding held_list entry
held-most G far =
    omega (arith, joined-most (entry G far) (held G far) G.vertices (λ v l. (at_most_one (held G far v) (row G far v)).0), count_most (held G far) G.vertices)

-- a list that gives each vertex one distance at most
abbrev pub Distinct : List Settled → Type 0
Distinct [] = Unit {0}
Distinct (x ∷ S) = (none ≤ distance_in S x.vertex) × (x.distance < none) × Distinct S

split_one : (S : List Settled) (x : Settled) → none ≤ distance_in S x.vertex → x.distance < none → (v : ℕ)
    → one (within (distance_in (x ∷ S)) v) ≡ one (eqb v x.vertex) + one (within (distance_in S) v)
unfolding within distance_in
split_one S x out some v = go (test v x.vertex)
  where
    go : {t : Bool} → Test v x.vertex t → one (ltb (cond t x.distance (distance_in S v)) none) ≡ one t + one (ltb (distance_in S v) none)
    go (same e) = omega (arith, is_one (lt-ltb x.distance none some), is_zero (le-ltb (distance_in S v) none (rw e out)))
    go (other q) = omega arith

-- At each settled vertex no more than one part of each walk with that end, so no more in all than there are walks.
parts-by-most : (n : ℕ) (end : ℕ → ℕ) (at : ℕ → ℕ → List Part) → ((d i : ℕ) → length (at d i) ≤ 1) → (S : List Settled) → Distinct S
    → length (flat_map (parts_by n end at) S) ≤ count (λ i. within (distance_in S) (end i)) n
unfolding flat_map
parts-by-most n end at one_each [] h = omega arith
parts-by-most n end at one_each (x ∷ S) h =
    omega (
      arith,
      length-append (parts_by n end at x) (flat_map (parts_by n end at) S),
      joined-most (λ i. cond (eqb (end i) x.vertex) (at x.distance i) []) (λ i. eqb (end i) x.vertex) n (λ i l. go (eqb (end i) x.vertex) i),
      parts-by-most n end at one_each S h.2,
      count-join (λ i. within (distance_in (x ∷ S)) (end i)) (λ i. eqb (end i) x.vertex) (λ i. within (distance_in S) (end i)) n
          (λ i l. split_one S x h.0 h.1 (end i)),
    )
  where
    go : (t : Bool) (i : ℕ) → length (cond t (at x.distance i) []) ≤ one t
    go true i = one_each x.distance i
    go false i = omega arith

-- And with those of step 0.
pub list-most : (n : ℕ) (end : ℕ → ℕ) (at : ℕ → ℕ → List Part) (start : ℕ → List Part) (e t : ℕ) → ((d i : ℕ) → length (at d i) ≤ 1) → ((i : ℕ) → length (start i) ≤ 1)
    → (S : List Settled) → Distinct S → length (two_of start e t ++ flat_map (parts_by n end at) S) ≤ n + 2
list-most n end at start e t one_each one-start S h =
    omega (
      arith,
      length-append (two_of start e t) (flat_map (parts_by n end at) S),
      length-append (start e) (cond (eqb t none) [] (start t)),
      one-start e,
      twin (eqb t none),
      parts-by-most n end at one_each S h,
      count_most (λ i. within (distance_in S) (end i)) n,
    )
  where
    twin : (b : Bool) → length (cond b [] (start t)) ≤ 1
    twin true = omega arith
    twin false = one-start t

-- No more parts are written than there are walks, and two for the query's road.
pub parts-most : (N : Tables) (Q : Query) (S : List Settled) → Distinct S → length (part_list N Q S) ≤ walk_count N + 2
unfolding part_list parts_at part_at first_parts first_part
parts-most N Q S h =
    list-most (walk_count N) (λ i. (walk N i).to) (part_at N Q) (first_part N Q) Q.walk (asked N Q).twin
    (λ d i. part-most i (later_start N Q d i) (walk N i).len) (λ i. part-most i (first_start N Q i) (near N Q i)) S h

-- The order, and each beginning of it, gives each vertex one distance.
pub distinct : (G : Network) (distance : ℕ → ℕ → Type 0) (D : ℕ) → D < none → (S l : List Settled) → Follows G distance D S l → (k : ℕ) → Distinct (take k l)
distinct G distance D Di S [] f k = rw take-nil tt
distinct G distance D Di S (x ∷ l) f zero = tt
distinct G distance D Di S (x ∷ l) f (suc k) = (
  ⊎_elim (λ (h : none ≤ distance_in (take k l) x.vertex). h)
      (λ (h : distance_in (take k l) x.vertex < none). absurd (twice (distance_in (take k l) x.vertex) (in_take k l _ (distance-in (take k l) x.vertex h))))
      (le-or-lt none (distance_in (take k l) x.vertex)),
  omega (arith, f.0.may.low),
  distinct G distance D Di (S ++ x ∷ []) l f.1 k,
)
  where
    in_take : (k : ℕ) (l : List Settled) (y : Settled) → In y (take k l) → In y l
    in_take k l y i = subst (In y) (take-append-drop k l) (in_left (take k l) (drop k l) y i)

    twice : (d : ℕ) → ¬ In (settled x.vertex d) l
    twice d i = follows-apart G distance D (S ++ x ∷ []) l f.1 (settled x.vertex d) i x.distance (in_right S (x ∷ []) x (inl refl))
