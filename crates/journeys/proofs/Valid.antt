-- What is not refused is valid, and what a valid record says. Assumes nothing.
use mathlib.Core.Path.{◌≡◌, sym, subst}
use mathlib.Core.Logic.{◌⊎◌, inl, inr, ⊎_elim, ◌↔◌, ◌≢◌}
use mathlib.Core.Bool.{true, ◌&&◌}
use mathlib.Core.List.{List}
use Prim.Native.Nat.{ℕ, ◌+◌, ◌-◌, ◌*◌, ◌/◌, ◌≤◌, ◌<◌}
use native.Mathlib.Nat.{mul-le-mul}
use native.Mathlib.Omega.{arith}
use lib.Dec.{eqb, leb, ltb}
use lib.ListN.{length}
use borrow.Author.Tests.{leb-true, ltb-true, eqb-true, eqb-false, not-true}
use Rattle.journeys.specs.Counting.{none, count}
use Rattle.journeys.specs.Bytes.{midnight}
use Rattle.journeys.specs.Tables.{Tables, tables_of, vertex_count, walk_count, hop_count, vertex, walk, hop}
use Rattle.journeys.specs.Query.{Query, ticks, asked, allowed}
use Rattle.journeys.specs.Refusals.{unless, first_bad, whole_of, hop_size_ok, table_of, table_lengths, buffer_lengths, ends_ok, length_ok, wait_ok, pair_ok, walk_ok, hop_ok, walk_ascends, hop_ascends, vertex_ok, contents, query_refusal, check}
use Rattle.journeys.specs.Valid.{ValidTables, ValidQuery, Valid}
use Rattle.journeys.specs.Answers.{Lent, tables, early}
use Rattle.journeys.proofs.Tests.{and_both, or_cases}
use Rattle.journeys.proofs.Refusals.{or-fine, unless-fine, bad-fine}
use Rattle.journeys.proofs.Decoding.{vertex-count, walk-count, hop-count}

pub contents-valid : (N : Tables) → 1 ≤ vertex_count N → vertex_count N ≤ 65536 → walk_count N ≤ 262144 → hop_count N ≤ 262144 → (contents N).number ≡ 0 → ValidTables N
unfolding contents
contents-valid N some few walks_few hops_few e =
    let a = or-fine (first_bad 2 (walk_ok N) (walk_count N)) _ e in
    let b = or-fine (first_bad 3 (hop_ok N) (hop_count N)) _ a.1 in
    let c = or-fine (first_bad 4 (walk_ascends N) (walk_count N)) _ b.1 in
    let d = or-fine (first_bad 5 (hop_ascends N) (hop_count N)) _ c.1 in
    record {
      vertices_some = some;
      vertices_few = few;
      walks_few = walks_few;
      hops_few = hops_few;
      walks = bad-fine 2 (walk_ok N) (walk_count N) (omega arith) a.0;
      hops = bad-fine 3 (hop_ok N) (hop_count N) (omega arith) b.0;
      walks_ascend = bad-fine 4 (walk_ascends N) (walk_count N) (omega arith) c.0;
      hops_ascend = bad-fine 5 (hop_ascends N) (hop_count N) (omega arith) d.0;
      vertices = bad-fine 6 (vertex_ok N) (vertex_count N) (omega arith) d.1;
    }

pub query-valid : (N : Tables) (Q : Query) → (query_refusal N Q).number ≡ 0 → ValidQuery N Q
unfolding query_refusal
query-valid N Q e =
    let a = or-fine (unless (ltb Q.walk (walk_count N)) 7 0) _ e in
    let b = or-fine (unless (leb Q.offset (asked N Q).len) 7 1) _ a.1 in
    let c = or-fine (unless (leb midnight Q.arrival && leb Q.arrival (midnight + 172800)) 7 2) _ b.1 in
    let d = or-fine (unless (leb 1 Q.duration && leb Q.duration 86400) 7 3) _ c.1 in
    let arrival = and_both (leb midnight Q.arrival) _ (unless-fine _ 7 2 (omega arith) c.0) in
    let duration = and_both (leb 1 Q.duration) _ (unless-fine _ 7 3 (omega arith) d.0) in
    let speed = and_both (leb 1 Q.speed) _ (unless-fine _ 7 4 (omega arith) d.1) in
    record {
      walk_low = ltb-true _ _ (unless-fine _ 7 0 (omega arith) a.0);
      offset_low = leb-true _ _ (unless-fine _ 7 1 (omega arith) b.0);
      arrival_low = leb-true _ _ arrival.0;
      arrival_high = leb-true _ _ arrival.1;
      duration_low = leb-true _ _ duration.0;
      duration_high = leb-true _ _ duration.1;
      speed_low = leb-true _ _ speed.0;
      speed_high = leb-true _ _ speed.1;
    }

pub table_fits : (size low high : ℕ) (b : List ℕ) → table_of size low high b ≡ true → (low ≤ length b / size) × (length b / size ≤ high)
unfolding table_of
table_fits size low high b e =
    let p = and_both (whole_of size b && leb low (length b / size)) _ e in
    (leb-true _ _ (and_both (whole_of size b) _ p.0).1, leb-true _ _ p.1)

-- What holds of hops of 16 bytes and of hops of 20 holds of every size that is not refused.
pub of-sizes : (P : ℕ → Type 0) → P 16 → P 20 → (size : ℕ) → hop_size_ok size ≡ true → P size
unfolding hop_size_ok
of-sizes P a b size e =
    ⊎_elim (λ (t : eqb size 16 ≡ true). subst P (sym (eqb-true size 16 t)) a)
    (λ (t : eqb size 20 ≡ true). subst P (sym (eqb-true size 20 t)) b)
    (or_cases (eqb size 16) (eqb size 20) e)

-- Such a record holds the four fields of a hop.
pub size_fits : (size : ℕ) (v w h : List ℕ) → (table_lengths size v w h).number ≡ 0 → 16 ≤ size
unfolding table_lengths
size_fits size v w h e =
    let b = or-fine (unless (table_of 16 0 262144 w) 1 1) _ (or-fine (unless (table_of 12 1 65536 v) 1 0) _ e).1 in
    of-sizes (λ s. 16 ≤ s) (omega arith) (omega arith) size (and_both (hop_size_ok size) _ (unless-fine _ 1 2 (omega arith) b.1)).0

-- Tables that the check passes are valid.
pub lengths-valid : (size : ℕ) (v w h : List ℕ) → (table_lengths size v w h).number ≡ 0 → (contents (tables_of size v w h)).number ≡ 0 → ValidTables (tables_of size v w h)
unfolding table_lengths
lengths-valid size v w h e f =
    let a = or-fine (unless (table_of 12 1 65536 v) 1 0) _ e in
    let b = or-fine (unless (table_of 16 0 262144 w) 1 1) _ a.1 in
    let p = table_fits 12 1 65536 v (unless-fine _ 1 0 (omega arith) a.0) in
    let q = table_fits 16 0 262144 w (unless-fine _ 1 1 (omega arith) b.0) in
    let r = table_fits size 0 262144 h (and_both (hop_size_ok size) _ (unless-fine _ 1 2 (omega arith) b.1)).1 in
    contents-valid (tables_of size v w h) (omega (arith, vertex-count size v w h)) (omega (arith, vertex-count size v w h)) (omega (arith, walk-count size v w h)) (omega (arith, hop-count size v w h)) f

pub check-valid : (size : ℕ) (v w h : List ℕ) → (check size v w h).number ≡ 0 → ValidTables (tables_of size v w h)
unfolding check
check-valid size v w h e = let a = or-fine (table_lengths size v w h) _ e in lengths-valid size v w h a.0 a.1

-- What the run does not refuse at once is valid.
pub early-valid : (b : Lent) (Q : Query) → (early b Q).number ≡ 0 → Valid (tables b) Q
unfolding early
early-valid b Q e =
    let x = or-fine (table_lengths b.hop_size b.vertices b.walks b.hops) _ e in
    let y = or-fine (buffer_lengths b.held b.settled) _ x.1 in
    let z = or-fine (contents (tables b)) _ y.1 in
    record { tables = lengths-valid b.hop_size b.vertices b.walks b.hops x.0 z.0; query = query-valid (tables b) Q z.1 }

-- ---- what a good record says
pub record GoodWalk (N : Tables) (i : ℕ) : Type 0 where
  pub from_low : (walk N i).from < vertex_count N
  pub to_low : (walk N i).to < vertex_count N
  pub apart : (walk N i).from ≢ (walk N i).to
  pub len-low : 1 ≤ (walk N i).len
  pub len-high : (walk N i).len ≤ 100000
  pub wait-high : (walk N i).wait ≤ 120
  pub twin : (walk N i).twin ≢ none → ((walk N i).twin < walk_count N) × (pair_ok i (walk N i) (walk N (walk N i).twin) ≡ true)

pub record GoodHop (N : Tables) (j : ℕ) : Type 0 where
  pub from_low : (hop N j).from < vertex_count N
  pub to_low : (hop N j).to < vertex_count N
  pub apart : (hop N j).from ≢ (hop N j).to
  pub departure-low : midnight - 86400 ≤ (hop N j).departure
  pub rides : (hop N j).departure ≤ (hop N j).arrival
  pub arrival_high : (hop N j).arrival ≤ midnight + 172800

pub ends-good : (n from to : ℕ) → ends_ok n from to ≡ true → (from < n) × (to < n) × (from ≢ to)
unfolding ends_ok
ends-good n from to e =
    let a = and_both (ltb from n && ltb to n) _ e in
    let b = and_both (ltb from n) _ a.0 in
    (ltb-true _ _ b.0, ltb-true _ _ b.1, eqb-false _ _ (not-true _ a.1))

module _ (N : Tables) where
  pub walk-says : (i : ℕ) → walk_ok N i ≡ true → GoodWalk N i
  unfolding walk_ok
  walk-says i ok =
      let a = and_both (ends_ok (vertex_count N) (walk N i).from (walk N i).to && length_ok (walk N i).len && wait_ok (walk N i).wait) _ ok in
      let w = and_both (ends_ok (vertex_count N) (walk N i).from (walk N i).to && length_ok (walk N i).len) _ a.0 in
      let b = and_both (ends_ok (vertex_count N) (walk N i).from (walk N i).to) _ w.0 in
      let c = and_both (leb 1 (walk N i).len) _ b.1 in
      let e = ends-good (vertex_count N) (walk N i).from (walk N i).to b.0 in
      record {
        from_low = e.0;
        to_low = e.1;
        apart = e.2;
        len-low = leb-true _ _ c.0;
        len-high = leb-true _ _ c.1;
        wait-high = leb-true _ _ w.1;
        twin = λ n.
            ⊎_elim (λ (t : eqb (walk N i).twin none ≡ true). absurd (n (eqb-true _ _ t)))
            (λ t. let p = and_both (ltb (walk N i).twin (walk_count N)) _ t in (ltb-true _ _ p.0, p.1))
            (or_cases (eqb (walk N i).twin none) _ a.1);
      }

  pub hop-says : (j : ℕ) → hop_ok N j ≡ true → GoodHop N j
  unfolding hop_ok
  hop-says j ok =
      let a = and_both (ends_ok (vertex_count N) (hop N j).from (hop N j).to) _ ok in
      let b = and_both (leb (midnight - 86400) (hop N j).departure && _) _ a.1 in
      let c = and_both (leb (midnight - 86400) (hop N j).departure) _ b.0 in
      let e = ends-good (vertex_count N) (hop N j).from (hop N j).to a.0 in
      record {
        from_low = e.0;
        to_low = e.1;
        apart = e.2;
        departure-low = leb-true _ _ c.0;
        rides = leb-true _ _ c.1;
        arrival_high = leb-true _ _ b.1;
      }

module _ (N : Tables) (ok : ValidTables N) where
  pub good-walk : (i : ℕ) → i < walk_count N → GoodWalk N i
  good-walk i l = walk-says N i (ok.walks i l)

  pub good-hop : (j : ℕ) → j < hop_count N → GoodHop N j
  good-hop j l = hop-says N j (ok.hops j l)

-- The firsts of a good vertex are the numbers of records with a smaller "to".
pub good-firsts : (N : Tables) → ValidTables N → (v : ℕ) → v < vertex_count N
    → ((vertex N v).first_walk ≡ count (λ i. ltb (walk N i).to v) (walk_count N)) × ((vertex N v).first_hop ≡ count (λ j. ltb (hop N j).to v) (hop_count N))
unfolding vertex_ok
good-firsts N ok v l =
    let a = and_both (eqb (vertex N v).first_walk (count (λ i. ltb (walk N i).to v) (walk_count N)) && eqb (vertex N v).first_hop (count (λ j. ltb (hop N j).to v) (hop_count N)) && _) _ (ok.vertices v l) in
    let b = and_both (eqb (vertex N v).first_walk (count (λ i. ltb (walk N i).to v) (walk_count N)) && eqb (vertex N v).first_hop (count (λ j. ltb (hop N j).to v) (hop_count N))) _ a.0 in
    let c = and_both (eqb (vertex N v).first_walk (count (λ i. ltb (walk N i).to v) (walk_count N))) _ b.0 in
    (eqb-true _ _ c.0, eqb-true _ _ c.1)

-- the twin of a record: the same road the other way
pub record Paired (N : Tables) (i j : ℕ) : Type 0 where
  pub back : (walk N j).twin ≡ i
  pub from : (walk N j).from ≡ (walk N i).to
  pub to : (walk N j).to ≡ (walk N i).from
  pub len : (walk N j).len ≡ (walk N i).len

pub twin-says : (N : Tables) (i : ℕ) → walk_ok N i ≡ true → (walk N i).twin ≢ none → ((walk N i).twin < walk_count N) × Paired N i (walk N i).twin
unfolding pair_ok
twin-says N i ok n =
    let t = (walk-says N i ok).twin n in
    let a = and_both (eqb (walk N (walk N i).twin).twin i && eqb (walk N (walk N i).twin).from (walk N i).to && eqb (walk N (walk N i).twin).to (walk N i).from) _ t.1 in
    let b = and_both (eqb (walk N (walk N i).twin).twin i && eqb (walk N (walk N i).twin).from (walk N i).to) _ a.0 in
    let c = and_both (eqb (walk N (walk N i).twin).twin i) _ b.0 in
    (t.0, record { back = eqb-true _ _ c.0; from = eqb-true _ _ c.1; to = eqb-true _ _ b.1; len = eqb-true _ _ a.1 })

pub paired : (N : Tables) → ValidTables N → (i : ℕ) → i < walk_count N → (walk N i).twin ≢ none → ((walk N i).twin < walk_count N) × Paired N i (walk N i).twin
paired N ok i l n = twin-says N i (ok.walks i l) n

-- What two facts have in common on every place inside a record they have in common on a road with a twin, told by either record.
pub on-either : (N : Tables) → ValidTables N → (A B : ℕ → ℕ → Type 0) → ((i x : ℕ) → i < walk_count N → 0 < x → x < (walk N i).len → A i x ↔ B i x)
    → (i x : ℕ) → i < walk_count N → (walk N i).twin ≢ none → 0 < x → x < (walk N i).len
    → (A i x ⊎ A (walk N i).twin ((walk N i).len - x)) ↔ (B i x ⊎ B (walk N i).twin ((walk N i).len - x))
on-either N ok A B same i x il n x0 xl =
    let p = paired N ok i il n in
    let here = same i x il x0 xl in
    let there = same (walk N i).twin ((walk N i).len - x) p.0 (omega arith) (omega (arith, p.1.len)) in
    (λ c. ⊎_elim (λ a. inl (here.0 a)) (λ a. inr (there.0 a)) c, λ c. ⊎_elim (λ a. inl (here.1 a)) (λ a. inr (there.1 a)) c)

-- D is some, and far below none
pub allowed-some : {N : Tables} {Q : Query} → ValidQuery N Q → 1 ≤ allowed Q
allowed-some {N} {Q} q = mul-le-mul {n₁ = 1} {m₁ = 1} q.duration_low q.speed_low

pub allowed-high : {N : Tables} {Q : Query} → ValidQuery N Q → allowed Q ≤ 8640000
allowed-high {N} {Q} q = let m : Q.duration * Q.speed ≤ 86400 * 100 = mul-le-mul q.duration_high q.speed_high in omega arith

-- a wait is at most 12,000 ticks
pub wait-most : {N : Tables} {Q : Query} → ValidQuery N Q → (seconds : ℕ) → seconds ≤ 120 → ticks Q seconds ≤ 12000
wait-most {N} {Q} q seconds h = let m : seconds * Q.speed ≤ 120 * 100 = mul-le-mul h q.speed_high in omega arith
