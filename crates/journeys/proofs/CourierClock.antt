-- The courier's journeys told by the clock and told by the ticks since T are the same. Assumes nothing.
use mathlib.Core.Path.{◌≡◌, sym, ap, ap₂, ◌∙◌, subst}
use mathlib.Core.Logic.{⊎_elim}
use mathlib.Core.Bool.{true}
use Prim.Native.Nat.{ℕ, suc, ◌+◌, ◌-◌, ◌*◌, ◌≤◌, ◌<◌}
use native.Mathlib.Nat.{mul-lt-mul_of_pos_right}
use native.Mathlib.Omega.{arith}
use lib.Dec.{T, leb}
use lib.IntN.{ℤ, pos, sub_ℕ, ◌+ℤ◌}
use lib.Signed.{le_z, ◌≤ℤ◌}
use borrow.Author.Tests.{leb-true, le-leb}
use Rattle.journeys.specs.Bytes.{midnight}
use Rattle.journeys.specs.Tables.{Tables, walk, hop}
use Rattle.journeys.specs.Query.{Query, after, asked, asked_twin, ticks, wait_ticks, walk_ticks}
use Rattle.journeys.specs.CourierJourneys.{Reached}
use Rattle.journeys.specs.Clock.{tick}
use Rattle.journeys.specs.CourierClock.{departure_tick, ClockReached, along, along_twin, at_to, at_from, by_walk, by_hop}
use Rattle.journeys.specs.Valid.{Valid}
use Rattle.journeys.proofs.Tests.{le-or-lt}
use Rattle.journeys.proofs.Clock.{is_true, sub-le, sub-lt, sub_same, sub_inj, times, sub-times, sub_order, as-sub}
use Rattle.journeys.proofs.Valid.{good-hop}

sub-plus : (a b l : ℕ) → sub_ℕ a b +ℤ pos l ≡ sub_ℕ (a + l) b
sub-plus a b l =
    ⊎_elim (λ (h : b ≤ a). ap (λ (z : ℤ). z +ℤ pos l) (sub-le a b h) ∙ ap pos (omega arith) ∙ sym (sub-le (a + l) b (omega arith)))
    (λ (h : a < b). ap (λ (z : ℤ). z +ℤ pos l) (sub-lt a b h) ∙ sub_same l (suc (b - suc a)) (a + l) b (omega arith))
    (le-or-lt b a)

module _ (N : Tables) (Q : Query) (ok : Valid N Q) where
  abbrev T-ticks : ℕ
  T-ticks = ticks Q Q.arrival

  abbrev zero-ticks : ℕ
  zero-ticks = ticks Q midnight

  -- the tick that is d ticks after T
  abbrev pub reach_tick : ℕ → ℤ
  reach_tick d = sub_ℕ (T-ticks + d) zero-ticks

  move : {v : ℕ} {t t' : ℤ} → t ≡ t' → ClockReached N Q v t → ClockReached N Q v t'
  move {v} e c = subst (λ (z : ℤ). ClockReached N Q v z) e c

  departure-is : departure_tick Q ≡ sub_ℕ T-ticks zero-ticks
  departure-is = sub-times Q.arrival midnight Q.speed

  at_once : departure_tick Q ≡ reach_tick 0
  at_once = departure-is ∙ sub_same T-ticks zero-ticks (T-ticks + 0) zero-ticks (omega arith)

  more-is : (d : ℕ) → departure_tick Q +ℤ pos d ≡ reach_tick d
  more-is d = ap (λ (z : ℤ). z +ℤ pos d) departure-is ∙ sub-plus T-ticks zero-ticks d

  on-is : (d l : ℕ) → reach_tick d +ℤ pos l ≡ reach_tick (d + l)
  on-is d l = sub-plus (T-ticks + d) zero-ticks l ∙ sub_same ((T-ticks + d) + l) zero-ticks (T-ticks + (d + l)) zero-ticks (omega arith)

  tick-after : (x : ℕ) → Q.arrival ≤ x → tick Q x ≡ reach_tick (after Q x)
  tick-after x h =
      sub-times x midnight Q.speed
      ∙ sub_same (ticks Q x) zero-ticks (T-ticks + after Q x) zero-ticks (omega (arith, times x Q.arrival (x - Q.arrival) Q.speed (omega arith)))

  -- Who can be at a vertex d ticks after T is there at that tick by the clock.
  pub to-clock : {v d : ℕ} → Reached N Q v d → ClockReached N Q v (reach_tick d)
  to-clock Reached.along = move (more-is (((asked N Q).len - Q.offset) + wait_ticks Q (asked N Q))) along
  to-clock (Reached.along_twin h) = move (more-is (Q.offset + wait_ticks Q (asked_twin N Q))) (along_twin h)
  to-clock (Reached.at_to e) = move at_once (at_to e)
  to-clock (Reached.at_from e) = move at_once (at_from e)
  to-clock (Reached.by_walk i l {d = d} j) = move (on-is d (walk_ticks Q (walk N i))) (by_walk i l (to-clock j))
  to-clock (Reached.by_hop i l a j) =
      move (tick-after (hop N i).arrival (omega (arith, (good-hop N ok.tables i l).rides))) (by_hop i l (move (sym (tick-after (hop N i).departure a)) (to-clock j)))
  to-clock (Reached.wait {d = d} {d' = d'} h j) =
      ClockReached.wait
      (record {
        le = subst T (sym (sub_order (T-ticks + d) zero-ticks (T-ticks + d') zero-ticks ∙ le-leb ((T-ticks + d) + zero-ticks) ((T-ticks + d') + zero-ticks) (omega arith))) tt;
      })
      (to-clock j)

  -- a later tick is more ticks after T
  later : (t t' : ℤ) (d : ℕ) → t ≤ℤ t' → t ≡ reach_tick d → (d' : ℕ) × (t' ≡ reach_tick d') × (d ≤ d')
  later t t' d h e = go t' (as-sub t') (is_true h.le)
    where
      go : (z : ℤ) → (a : ℕ) × (b : ℕ) × (z ≡ sub_ℕ a b) → le_z t z ≡ true → (d' : ℕ) × (z ≡ reach_tick d') × (d ≤ d')
      go z x o =
          let a = x.0 in
          let b = x.1 in
          let o' : leb ((T-ticks + d) + b) (a + zero-ticks) ≡ true = sym (sub_order (T-ticks + d) zero-ticks a b) ∙ ap₂ le_z (sym e) (sym x.2) ∙ o in
          let l = leb-true ((T-ticks + d) + b) (a + zero-ticks) o' in
          ((a + zero-ticks) - (T-ticks + b), x.2 ∙ sub_same a b (T-ticks + ((a + zero-ticks) - (T-ticks + b))) zero-ticks (omega arith), omega arith)

  at_second : (x d : ℕ) → tick Q x ≡ reach_tick d → (Q.arrival ≤ x) × (d ≡ after Q x)
  at_second x d e =
      let q = sub_inj (ticks Q x) zero-ticks (T-ticks + d) zero-ticks (sym (sub-times x midnight Q.speed) ∙ e) in
      ⊎_elim (λ (h : Q.arrival ≤ x). (h, omega (arith, times x Q.arrival (x - Q.arrival) Q.speed (omega arith))))
      (λ (h : x < Q.arrival).
      let m : x * Q.speed < Q.arrival * Q.speed = mul-lt-mul_of_pos_right h ok.query.speed_low in
      absurd (let z : ⊥ = omega arith in z))
      (le-or-lt Q.arrival x)

  -- And whoever is at a vertex by the clock can be there so.
  pub from-clock : {v : ℕ} {t : ℤ} → ClockReached N Q v t → (d : ℕ) × (t ≡ reach_tick d) × Reached N Q v d
  from-clock along = (((asked N Q).len - Q.offset) + wait_ticks Q (asked N Q), more-is (((asked N Q).len - Q.offset) + wait_ticks Q (asked N Q)), Reached.along)
  from-clock (along_twin h) = (Q.offset + wait_ticks Q (asked_twin N Q), more-is (Q.offset + wait_ticks Q (asked_twin N Q)), Reached.along_twin h)
  from-clock (at_to e) = (0, at_once, Reached.at_to e)
  from-clock (at_from e) = (0, at_once, Reached.at_from e)
  from-clock (by_walk i l j) =
      let r = from-clock j in
      (r.0 + walk_ticks Q (walk N i), ap (λ (z : ℤ). z +ℤ pos (walk_ticks Q (walk N i))) r.1 ∙ on-is r.0 (walk_ticks Q (walk N i)), Reached.by_walk i l r.2)
  from-clock (by_hop i l j) =
      let r = from-clock j in
      let a = at_second (hop N i).departure r.0 r.1 in (
        after Q (hop N i).arrival,
        tick-after (hop N i).arrival (omega (arith, (good-hop N ok.tables i l).rides, a.0)),
        Reached.by_hop i l a.0 (subst (λ (d : ℕ). Reached N Q (hop N i).from d) a.1 r.2),
      )
  from-clock (ClockReached.wait {t = t} {t' = t'} h j) =
      let r = from-clock j in
      let x = later t t' r.0 h r.1 in
      (x.0, x.1, Reached.wait x.2 r.2)
