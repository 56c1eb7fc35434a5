-- One hop is followed: all that stay for it are marked, and of one trip the marked hops to a vertex are still those up to an arrival. Assumes nothing.
use mathlib.Core.Path.{◌≡◌, sym, ap, subst, ◌∙◌}
use mathlib.Core.Logic.{◌⊎◌, inl, inr, ⊎_elim, ◌≢◌}
use mathlib.Core.Bool.{true}
use mathlib.Core.List.{List}
use Prim.Native.Nat.{ℕ, ◌-◌, ◌*◌, ◌/◌, ◌≤◌, ◌<◌}
use native.Mathlib.Omega.{arith}
use lib.ListN.{length}
use Rattle.journeys.specs.Tables.{Tables, Hop, hop, hop_at, hop_count}
use Rattle.journeys.specs.Query.{Query}
use Rattle.journeys.proofs.Tests.{le-or-lt}
use Rattle.journeys.proofs.Valid.{good-hop}
use Rattle.journeys.proofs.Decoding.{vertex-count}
use Rattle.records.specs.Columns.{records_in, from_at}
use Rattle.boarding.specs.Rides.{Mode, Stays, trip_at}
use Rattle.marks.specs.Marks.{bit}
use Rattle.arranging.specs.Keys.{word_at, stay_key}
use Rattle.arranging.specs.Arranged.{Arranged, Stretch, Upto, first_hop, end_hop}
use Rattle.arranging.proofs.StretchLaws.{word_in, stands-below, in_time, other-trip, sooner}
use Rattle.heldmap.proofs.ArrivingRun.{hop-run}
use Rattle.marking.specs.Setting.{tables, query, mode, Judged}
use Rattle.marking.specs.Pends.{State, marks_of, Prefix, Fit}
use Rattle.marking.specs.declared.Asked.{Asked}
use Rattle.marking.proofs.Hops.{hops-count, hop-is, from_is}
use Rattle.marking.proofs.Moving.{moved_same}
use Rattle.spreading.specs.Spreads.{Readable, Lowest, Staying, StaysFrom, FollowedBy}

-- a hop of no known trip is followed by nobody
pub trip-none : (N : Tables) (Q : Query) (M : Mode) {set : List ℕ} {s : State} (j : ℕ) → Fit N Q set s → M.trip j ≡ 0 → FollowedBy N Q M set j s s
trip-none N Q M j k e = record { moved = moved_same N Q M k; done = λ i l t. absurd (t.known (t.one_trip ∙ e)) }

pub prefix-followed : (N : Tables) (Q : Query) (M : Mode) {set : List ℕ} {s t : State} (j : ℕ) → Prefix N M (marks_of s) → FollowedBy N Q M set j s t → Prefix N M (marks_of t)
prefix-followed N Q M {s = s} j p k i m il e tr kn h x =
    ⊎_elim (λ (q : marks_of s m ≡ true). k.moved.carries.grows i (p i m il e tr kn h q))
    (λ (q : Stays N M m j).
    k.done i il (record { known = λ z. kn (sym tr ∙ z); one_trip = tr ∙ q.one_trip; there = e ∙ q.there; in_time = omega (arith, q.in_time) }))
    (k.moved.only m x)

pub retold : {size : ℕ} {hops marks s : List ℕ} {first q t t' p : ℕ} → t ≡ t' → Lowest size hops marks s first q t p → Lowest size hops marks s first q t' p
retold {size} {hops} {marks} {s} {first} {q} {p = p} e d = subst (λ (x : ℕ). Lowest size hops marks s first q x p) e d

module _ {v w h : List ℕ} {a : Asked} (ok : Judged v w h a) (j : ℕ) (l : j < hop_count (tables v w h a)) (known : trip_at a.size h j ≢ 0) (sc : List ℕ) (room : 4 * records_in a.size h ≤ length sc)
    (arranged : Arranged a.size v h sc) {x first end : ℕ} (at_x : x ≡ from_at a.size h j) (first-is : first ≡ first_hop v x) (end_is : end ≡ end_hop a.size v h x) where
  x-is : x ≡ (hop (tables v w h a) j).from
  x-is = at_x ∙ from_is ok j l

  pub x-low : x < length v / 12
  x-low = omega (arith, x-is, (good-hop (tables v w h a) ok.valid.tables j l).from_low, vertex-count a.size v w h)

  run-order : (first ≤ end) × (end ≤ hop_count (tables v w h a))
  run-order = let r = hop-run a.size v w h ok.valid.tables x x-low in (omega (arith, r.order, first-is, end_is), omega (arith, r.fit, end_is))

  inside : (i : ℕ) → first ≤ i → i < end → (hop (tables v w h a) i).to ≡ x
  inside i f g = (hop-run a.size v w h ok.valid.tables x x-low).inside i (omega (arith, first-is)) (omega (arith, end_is))

  outside : (i : ℕ) → i < hop_count (tables v w h a) → (hop (tables v w h a) i).to ≡ x → (first ≤ i) × (i < end)
  outside i il e =
      let r = hop-run a.size v w h ok.valid.tables x x-low in (
        ⊎_elim (λ (z : first ≤ i). z) (λ (z : i < first). absurd (r.before i (omega (arith, first-is)) e)) (le-or-lt first i),
        ⊎_elim (λ (z : end ≤ i). absurd (r.after i (omega (arith, end_is)) il e)) (λ (z : i < end). z) (le-or-lt end i),
      )

  stretch : Stretch a.size h sc first end
  stretch = subst (λ (y : ℕ). Stretch a.size h sc first y) (sym end_is) (subst (λ (y : ℕ). Stretch a.size h sc y (end_hop a.size v h x)) (sym first-is) (arranged.each x x-low))

  small : end ≤ 4294967296
  small = omega (arith, run-order, ok.valid.tables.hops_few)

  pub readable : {marks : List ℕ} → length marks ≡ 16384 → Readable a.size h marks sc first end
  readable e =
      record {
        wide = ok.wide;
        few = omega (arith, hops-count ok, ok.valid.tables.hops_few);
        order = run-order.0;
        fit = omega (arith, hops-count ok, run-order);
        room = omega (arith, hops-count ok, run-order, room);
        long = e;
        stretch = stretch;
      }

  arrival-is : (i : ℕ) → i < hop_count (tables v w h a) → (hop_at a.size h i).arrival ≡ (hop (tables v w h a) i).arrival
  arrival-is i il = ap (λ (y : Hop). y.arrival) (sym (hop-is ok i il))

  departure-is : (hop_at a.size h j).departure ≡ (hop (tables v w h a) j).departure
  departure-is = ap (λ (y : Hop). y.departure) (sym (hop-is ok j l))

  module _ {q : ℕ} (u : Upto a.size h sc first end (stay_key a.size h j) q) {marks : List ℕ} {low : ℕ} (d : Lowest a.size h marks sc first q (trip_at a.size h j) low) where
    word_low : (g : ℕ) → first ≤ g → g < q → word_at sc g < hop_count (tables v w h a)
    word_low g f b = omega (arith, word_in stretch run-order.0 small g f (omega (arith, u.order)), run-order)

    word-to : (g : ℕ) → first ≤ g → g < q → (hop (tables v w h a) (word_at sc g)).to ≡ x
    word-to g f b = let o = word_in stretch run-order.0 small g f (omega (arith, u.order)) in inside (word_at sc g) o.0 o.1

    pub staying : Staying (tables v w h a) (mode h a) sc low q j
    staying =
        record {
          order = d.to;
          few = omega (arith, run-order, ok.valid.tables.hops_few, u.order);
          room = omega (arith, hops-count ok, run-order, room, u.order);
          there = λ g f b. word_low g (omega (arith, d.from)) b;
          stays = λ g f b. stays g (let z : first ≤ g = omega (arith, d.from) in z) f b;
        }
      where
        stays : (g : ℕ) → first ≤ g → low ≤ g → g < q → Stays (tables v w h a) (mode h a) (word_at sc g) j
        stays g f lg b =
            record {
              known = λ z. known (sym (d.same g lg b) ∙ z);
              one_trip = d.same g lg b;
              there = word-to g f b ∙ x-is;
              in_time = omega (arith, in_time stretch run-order.0 small j u g f b (d.same g lg b), arrival-is (word_at sc g) (word_low g f b), departure-is);
            }

    pub followed : {set : List ℕ} {s s' : State} → s.marks ≡ marks → Prefix (tables v w h a) (mode h a) (marks_of s) → StaysFrom (tables v w h a) (query a) (mode h a) set sc low q j s s'
        → FollowedBy (tables v w h a) (query a) (mode h a) set j s s'
    followed {set} {s} {s'} same p k = record { moved = k.moved; done = λ i il t. done i il t }
      where
        below : (g : ℕ) → first ≤ g → g < low → trip_at a.size h (word_at sc g) ≡ trip_at a.size h j
            → (low ≡ first) ⊎ ((first < low) × (trip_at a.size h (word_at sc (low - 1)) ≢ trip_at a.size h j)) ⊎ ((first < low) × (trip_at a.size h (word_at sc (low - 1)) ≡ trip_at a.size h j) × (bit marks (word_at sc (low - 1)) ≡ true))
            → marks_of s' (word_at sc g) ≡ true
        below g f b e (inl z) = absurd (let y : ⊥ = omega arith in y)
        below g f b e (inr (inl z)) = absurd (other-trip stretch run-order.0 small j u (low - 1) g f (omega arith) (omega (arith, d.to)) z.1 e)
        below g f b e (inr (inr z)) =
            let gq : g < q = omega (arith, d.to) in
            let lq : low - 1 < q = omega (arith, d.to, z.0) in
            let lf : first ≤ low - 1 = omega (arith, z.0) in
            let wl = word_low g f gq in
            k.moved.carries.grows (word_at sc g)
            (p (word_at sc g) (word_at sc (low - 1)) wl (word-to g f gq ∙ sym (word-to (low - 1) lf lq)) (e ∙ sym z.1) (λ y. known (sym z.1 ∙ y))
            (omega
            (arith, sooner stretch run-order.0 small (low - 1) g f (omega arith) (omega (arith, u.order)) (e ∙ sym z.1), arrival-is (word_at sc g) wl, arrival-is (word_at sc (low - 1)) (word_low (low - 1) lf lq)))
            (ap (λ (y : List ℕ). bit y (word_at sc (low - 1))) same ∙ z.2))

        done : (i : ℕ) → i < hop_count (tables v w h a) → Stays (tables v w h a) (mode h a) i j → marks_of s' i ≡ true
        done i il t =
            let o = outside i il (t.there ∙ sym x-is) in
            let b = stands-below stretch run-order.0 small j u i o.0 o.1 t.one_trip (omega (arith, t.in_time, arrival-is i il, departure-is)) in
            subst (λ (y : ℕ). marks_of s' y ≡ true) b.3
            (⊎_elim (λ (z : low ≤ b.0). k.done b.0 z b.2) (λ (z : b.0 < low). below b.0 b.1 z (ap (trip_at a.size h) b.3 ∙ t.one_trip) d.stop) (le-or-lt low b.0))
