-- Where the steps with a boarding time stand after some of them, for the order of settling whichever list that is: what a step asks, what it leads to, and how they end. Assumes nothing.
use Rattle.std.specs.Prelude.{Bool, true, false, not, Option, Some, None, Result, Ok, Err, is_some}
use Rattle.words.specs.declared.Reason.TheVariants.{SettledRoom}
use mathlib.Core.Path.{◌≡◌, refl, sym, ap, subst, ◌∙◌}
use mathlib.Core.Logic.{inr, ⊎_elim}
use mathlib.Core.List.{List, [], ◌∷◌, ◌++◌, flat_map}
use Prim.Native.Nat.{ℕ, suc, ◌+◌, ◌*◌, ◌/◌, ◌≤◌, ◌<◌}
use native.Mathlib.Omega.{arith}
use lib.ListN.{length, take, drop, length-append, length-take}
use lib.Seq.{take_at, length-take-le}
use borrow.Author.Tests.{le-leb, lt-leb}
use Rattle.journeys.specs.Counting.{none}
use Rattle.journeys.specs.Tables.{Tables}
use Rattle.journeys.specs.Query.{Query, allowed}
use Rattle.journeys.specs.Settled.{Settled, settled}
use Rattle.journeys.specs.Answers.{settled_bytes}
use Rattle.journeys.specs.Valid.{Valid}
use Rattle.journeys.proofs.Tests.{never, le-or-lt}
use Rattle.journeys.proofs.Counting.{flat-snoc}
use Rattle.journeys.proofs.Document as document
use Rattle.words.specs.Written.{written}
use Rattle.words.proofs.Written.{length-written}
use Rattle.records.specs.Fields.{settled_of}
use Rattle.records.proofs.RecordBytes.{length-settled}
use Rattle.worktable.specs.Map.{Foremost}
use Rattle.worktable.specs.Table.{map_of, InOrder, Place}
use Rattle.worktable.specs.declared.Nearest.{Nearest}
use Rattle.boarding.specs.Rides.{Mode}
use Rattle.boarding.specs.RideOrder.{IsRideOrder}
use Rattle.boarding.proofs.RideOrder.{order_of, order_is, order-size}
use Rattle.boarding.proofs.Searching.{settles, ends, stays_closed}
use Rattle.marking.specs.Pends.{State, figures_of}
use Rattle.stepping.specs.Taken.{NextIs}
use Rattle.ridesteps.specs.Between.{Between, Opened, Steps, Stepped}
use Rattle.ridesteps.specs.Ended.{Lists, RiddenIs, RidesEnd}
use Rattle.ridesteps.proofs.OneStep.{first-figure}

-- what stands at the front when one entry more is listed
listed-behind : (list : List ℕ) (n : ℕ) (y : Settled) → n < length list / 8 → take (8 * suc n) (written list (8 * n) (settled_bytes y)) ≡ take (8 * n) list ++ settled_bytes y
unfolding written
listed-behind list n y h =
    take_at (take (8 * n) list ++ settled_bytes y) (drop (8 * n + length (settled_bytes y)) list) (8 * suc n)
    (omega (arith, length-append (take (8 * n) list) (settled_bytes y), length-take-le (8 * n) list (omega arith), length-settled y))

-- n steps are made and listed
abbrev pub Rides : Tables → Query → Mode → ℕ → ℕ → List ℕ → State → List ℕ → Type 0
Rides N Q M long n set s settled = (l : List Settled) → IsRideOrder N Q M l → Between N Q M l n set s × Lists l long n settled

-- none is made yet
pub rides-none : (N : Tables) (Q : Query) (M : Mode) {set : List ℕ} {s : State} (settled : List ℕ) → Opened N Q M set s → Rides N Q M (length settled) 0 set s settled
unfolding flat_map
rides-none N Q M settled o l O = (o l O, record { length_is = refl; listed = refl; room = λ j h. omega (arith, length-take j l) })

module _ (N : Tables) (Q : Query) (M : Mode) (ok : Valid N Q) (long n : ℕ) (set : List ℕ) (s : State) (list : List ℕ) (R : Rides N Q M long n set s list) where
  -- the order is there, so the steps stand somewhere
  stand : Between N Q M (order_of N Q M ok) n set s × Lists (order_of N Q M ok) long n list
  stand = R (order_of N Q M ok) (order_is N Q M ok)

  pub table-order : InOrder s.numbers.table s.table
  table-order = stand.0.fit.ready.order

  made : {l : List Settled} → IsRideOrder N Q M l → n ≤ length l
  made {l} O = ((R l O).0.searching ok O).some

  pub long-is : length list ≡ long
  long-is = stand.1.length_is

  -- the count fits
  pub counts-fit : (n ≤ length list / 8) × (n < 65537)
  counts-fit =
      let m = made (order_is N Q M ok) in
      let e : length (take n (order_of N Q M ok)) ≡ n = omega (arith, length-take n (order_of N Q M ok), m) in
      let most = order-size N Q M ok (order_is N Q M ok) in
      (omega (arith, stand.1.room n (omega arith), e, long-is), omega (arith, m, most, ok.tables.vertices_few))

  -- Nothing waits within D: the whole order is settled.
  pub whole : (limit : ℕ) → n ≤ limit → NextIs s.numbers.table s.table (allowed Q) None → RidesEnd N Q M long limit list (Ok (record { settled = n; finished = true }))
  unfolding RiddenIs NextIs
  whole limit below w l O =
      let all : length l ≤ n = ends N Q M ok O ((R l O).0.searching ok O) above in
      record { lists = (R l O).1; steps = omega (arith, made O); finished_is = sym (le-leb (length l) n all) }
    where
      small : allowed Q < none
      small = document.allowed-low N Q ok

      above : (u : ℕ) → allowed Q < figures_of s u
      above u =
          ⊎_elim
          (λ (q : figures_of s u ≤ allowed Q).
          absurd
          (let c : ⊥ = omega (arith, w u (figures_of s u) (record { unsettled = stand.0.fit.ready.plain.unsettled u; at = refl; some = omega (arith, small) })) in c))
          (λ (q : allowed Q < figures_of s u). q)
          (le-or-lt (figures_of s u) (allowed Q))

  module _ (slot x d : ℕ) (w : NextIs s.numbers.table s.table (allowed Q) (Some record { slot = slot; vertex = x; distance = d })) where
    place : Place s.numbers.table s.table x slot
    unfolding NextIs
    place = w.0

    front : Foremost (map_of s.numbers.table s.table) x d
    unfolding NextIs
    front = w.1

    near : d ≤ allowed Q
    unfolding NextIs
    near = w.2

    at : figures_of s x ≡ d
    at = front.waits.at

    further : {l : List Settled} → IsRideOrder N Q M l → (n < length l) × (take (suc n) l ≡ take n l ++ settled x d ∷ [])
    further {l} O =
        let k = (R l O).0 in
        let y = settles N Q M ok O (k.searching ok O) x (omega (arith, near, at)) (first-figure k.fit.ready front (document.allowed-low N Q ok)) in
        (y.0, y.1 ∙ ap (λ (e : ℕ). take n l ++ settled x e ∷ []) at)

    next-long : {l : List Settled} → IsRideOrder N Q M l → length (take (suc n) l) ≡ suc n
    next-long {l} O = omega (arith, length-take (suc n) l, (further O).0)

    -- The limit is reached while a vertex waits within D.
    pub more_left : (limit : ℕ) → n ≡ limit → RidesEnd N Q M long limit list (Ok (record { settled = n; finished = false }))
    unfolding RiddenIs
    more_left limit e l O =
        let f = (further O).0 in
        record { lists = (R l O).1; steps = omega arith; finished_is = sym (lt-leb (length l) n f) }

    -- The list has no room for it.
    pub stops : (limit : ℕ) → n < limit → n ≡ length list / 8 → RidesEnd N Q M long limit list (Err (record { reason = SettledRoom; place = n + 1 }))
    unfolding RiddenIs
    stops limit below e l O =
        let f = (further O).0 in
        let g : length (take (n + 1) l) ≡ suc n = ap (λ (m : ℕ). length (take m l)) (let z : n + 1 ≡ suc n = omega arith in z) ∙ next-long O in (
          refl,
          record {
            length_is = long-is;
            made = omega arith;
            lacks = omega (arith, g, long-is);
            before = λ j h. (R l O).1.room j (omega arith);
          },
        )

    -- the step may begin
    pub may-step : Steps N Q M set s x slot d
    may-step =
        let b = stand.0 in
        let k = b.searching ok (order_is N Q M ok) in
        record {
          fit = b.fit;
          prefix = b.prefix;
          pends = λ j e. inr (inr (inr (λ i il t. stays_closed N Q M ok (order_is N Q M ok) k i j il (b.fit.low j e) t e)));
          place = place;
          front = front;
          low = k.underway.keeps.low x (omega (arith, near, at));
          near = near;
        }

    -- It is listed, and the step is made.
    module _ {set' : List ℕ} {s' : State} {list' : List ℕ} (step : Stepped N Q M set s set' s') (room : n < length list / 8) (listed : list' ≡ written list (8 * n) (settled_bytes (settled_of x d))) where
      pub onward : Rides N Q M long (n + 1) set' s' list'
      onward l O =
          subst (λ (m : ℕ). Between N Q M l m set' s' × Lists l long m list') (let z : suc n ≡ n + 1 = omega arith in z)
          (step l O n (R l O).0, record { length_is = length-next; listed = front-is; room = room_next })
        where
          length-next : length list' ≡ long
          length-next = ap length listed ∙ length-written list (8 * n) (settled_bytes (settled x d)) (omega (arith, length-settled (settled x d), room)) ∙ long-is

          front-is : take (8 * suc n) list' ≡ flat_map settled_bytes (take (suc n) l)
          front-is =
              ap (take (8 * suc n)) listed
              ∙ listed-behind list n (settled x d) room
              ∙ ap (λ (z : List ℕ). z ++ settled_bytes (settled x d)) (R l O).1.listed
              ∙ sym (ap (flat_map settled_bytes) (further O).1 ∙ flat-snoc settled_bytes (take n l) (settled x d))

          room_next : (j : ℕ) → j ≤ suc n → length (take j l) ≤ long / 8
          room_next j h = ⊎_elim (λ (o : j ≤ n). (R l O).1.room j o) (λ (o : n < j). omega (arith, length-take j l, room, long-is)) (le-or-lt j n)

  -- The limit is reached, and it is asked whether a vertex waits within D.
  pub at_limit : (limit : ℕ) → n ≡ limit → {D : ℕ} → D ≡ allowed Q → (r : Option Nearest) → NextIs s.numbers.table s.table D r → (finished : Bool) → is_some r ≡ not finished → RidesEnd N Q M long limit list (Ok (record { settled = limit; finished = finished }))
  at_limit limit e q r w finished f = subst (λ (k : ℕ). RidesEnd N Q M long limit list (Ok (record { settled = k; finished = finished }))) e (go r finished (subst (λ (D : ℕ). NextIs s.numbers.table s.table D r) q w) f)
    where
      go : (r : Option Nearest) (b : Bool) → NextIs s.numbers.table s.table (allowed Q) r → is_some r ≡ not b → RidesEnd N Q M long limit list (Ok (record { settled = n; finished = b }))
      go (Some x) true w f = never refl f
      go (Some x) false w f = more_left x.slot x.vertex x.distance w limit e
      go None true w f = whole limit (omega arith) w
      go None false w f = never refl (sym f)
