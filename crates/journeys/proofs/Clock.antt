-- Journeys told by the clock and journeys told by the ticks left until T are the same. Assumes nothing.
use mathlib.Core.Path.{◌≡◌, refl, sym, ap, ap₂, ◌∙◌, subst}
use mathlib.Core.Logic.{⊎_elim}
use mathlib.Core.Bool.{Bool, true, false, cond}
use Prim.Native.Nat.{ℕ, zero, suc, ◌+◌, ◌-◌, ◌*◌, ◌≤◌, ◌<◌}
use native.Mathlib.Nat.{mul-lt-mul_of_pos_right}
use native.Mathlib.Omega.{arith}
use lib.Dec.{T, leb}
use lib.IntN.{ℤ, pos, negsuc, neg_ℤ, sub_ℕ, nat_abs, ◌-ℤ◌, ◌*ℤ◌}
use lib.Signed.{le_z, ◌≤ℤ◌}
use borrow.Author.Tests.{leb-true, le-leb, lt-leb, lt-ltb, le-ltb}
use Rattle.journeys.specs.Bytes.{midnight}
use Rattle.journeys.specs.Tables.{Tables, walk, hop}
use Rattle.journeys.specs.Query.{Query, before, asked, ticks, walk_ticks, from_ticks, to_ticks}
use Rattle.journeys.specs.Journeys.{Journey}
use Rattle.journeys.specs.Clock.{tick, arrival_tick, ClockJourney, from_end, to_end, at_to, by_walk, by_hop}
use Rattle.journeys.proofs.Tests.{le-or-lt}
use Rattle.journeys.proofs.Seconds.{same-leb}
use Rattle.journeys.proofs.Valid.{good-hop}
use Rattle.journeys.specs.Valid.{Valid}

-- ---- integers as differences of two numbers
pub is_true : {b : Bool} → T b → b ≡ true
is_true {b} t = go b t
  where
    go : (b : Bool) → T b → b ≡ true
    go true t = refl
    go false t = absurd t

pub sub-le : (a b : ℕ) → b ≤ a → sub_ℕ a b ≡ pos (a - b)
sub-le a b h = ap (λ (t : Bool). cond t (negsuc (b - suc a)) (pos (a - b))) (le-ltb a b h)

pub sub-lt : (a b : ℕ) → a < b → sub_ℕ a b ≡ negsuc (b - suc a)
sub-lt a b h = ap (λ (t : Bool). cond t (negsuc (b - suc a)) (pos (a - b))) (lt-ltb a b h)

pub sub_same : (a b c d : ℕ) → a + d ≡ c + b → sub_ℕ a b ≡ sub_ℕ c d
sub_same a b c d e =
    ⊎_elim (λ (h : b ≤ a). sub-le a b h ∙ ap pos (omega arith) ∙ sym (sub-le c d (omega arith)))
    (λ (h : a < b). sub-lt a b h ∙ ap negsuc (omega arith) ∙ sym (sub-lt c d (omega arith)))
    (le-or-lt b a)

sub-pos : (a d : ℕ) → pos a -ℤ pos d ≡ sub_ℕ a d
sub-pos a zero = ap pos (omega arith) ∙ sym (sub-le a 0 (omega arith))
sub-pos a (suc d) = refl

sub-neg : (n l : ℕ) → negsuc n -ℤ pos l ≡ sub_ℕ 0 (suc n + l)
sub-neg n zero = sub_same 0 (suc n) 0 (suc n + 0) (omega arith)
sub-neg n (suc l) = ap negsuc (omega arith) ∙ sym (sub-lt 0 (suc n + suc l) (omega arith))

sub_more : (a b l : ℕ) → sub_ℕ a b -ℤ pos l ≡ sub_ℕ a (b + l)
sub_more a b l =
    ⊎_elim (λ (h : b ≤ a). ap (λ (z : ℤ). z -ℤ pos l) (sub-le a b h) ∙ sub-pos (a - b) l ∙ sub_same (a - b) l a (b + l) (omega arith))
    (λ (h : a < b). ap (λ (z : ℤ). z -ℤ pos l) (sub-lt a b h) ∙ sub-neg (b - suc a) l ∙ sub_same 0 (suc (b - suc a) + l) a (b + l) (omega arith))
    (le-or-lt b a)

pub sub_inj : (a b c d : ℕ) → sub_ℕ a b ≡ sub_ℕ c d → a + d ≡ c + b
sub_inj a b c d e =
    ⊎_elim
    (λ (h : b ≤ a).
    ⊎_elim (λ (k : d ≤ c). let x : pos (a - b) ≡ pos (c - d) = sym (sub-le a b h) ∙ e ∙ sub-le c d k in omega (arith, ap nat_abs x))
    (λ (k : c < d). let x : pos (a - b) ≡ negsuc (d - suc c) = sym (sub-le a b h) ∙ e ∙ sub-lt c d k in cc)
    (le-or-lt d c))
    (λ (h : a < b).
    ⊎_elim (λ (k : d ≤ c). let x : negsuc (b - suc a) ≡ pos (c - d) = sym (sub-lt a b h) ∙ e ∙ sub-le c d k in cc)
    (λ (k : c < d). let x : negsuc (b - suc a) ≡ negsuc (d - suc c) = sym (sub-lt a b h) ∙ e ∙ sub-lt c d k in omega (arith, ap nat_abs x))
    (le-or-lt d c))
    (le-or-lt b a)

pub times : (a b k s : ℕ) → a ≡ k + b → k * s + b * s ≡ a * s
times a b k s e = omega (arith, ap (λ (x : ℕ). x * s) e)

neg-sub : (m : ℕ) → neg_ℤ (pos m) ≡ sub_ℕ 0 m
neg-sub zero = sym (sub-le 0 0 (omega arith))
neg-sub (suc n) = sym (sub-lt 0 (suc n) (omega arith) ∙ ap negsuc (omega arith))

pub sub-times : (a b s : ℕ) → sub_ℕ a b *ℤ pos s ≡ sub_ℕ (a * s) (b * s)
sub-times a b s =
    ⊎_elim
    (λ (h : b ≤ a).
    ap (λ (z : ℤ). z *ℤ pos s) (sub-le a b h)
    ∙ sym (sub-le ((a - b) * s) 0 (omega arith) ∙ ap pos (omega arith))
    ∙ sub_same ((a - b) * s) 0 (a * s) (b * s) (omega (arith, times a b (a - b) s (omega arith))))
    (λ (h : a < b).
    ap (λ (z : ℤ). z *ℤ pos s) (sub-lt a b h)
    ∙ neg-sub (suc (b - suc a) * s)
    ∙ sub_same 0 (suc (b - suc a) * s) (a * s) (b * s) (omega (arith, times b a (suc (b - suc a)) s (omega arith))))
    (le-or-lt b a)

pub sub_order : (a b c d : ℕ) → le_z (sub_ℕ a b) (sub_ℕ c d) ≡ leb (a + d) (c + b)
sub_order a b c d =
    ⊎_elim
    (λ (h : b ≤ a).
    ⊎_elim (λ (k : d ≤ c). ap₂ le_z (sub-le a b h) (sub-le c d k) ∙ same-leb (a - b) (c - d) (a + d) (c + b) (omega arith) (omega arith))
    (λ (k : c < d). ap₂ le_z (sub-le a b h) (sub-lt c d k) ∙ sym (lt-leb (a + d) (c + b) (omega arith)))
    (le-or-lt d c))
    (λ (h : a < b).
    ⊎_elim (λ (k : d ≤ c). ap₂ le_z (sub-lt a b h) (sub-le c d k) ∙ sym (le-leb (a + d) (c + b) (omega arith)))
    (λ (k : c < d). ap₂ le_z (sub-lt a b h) (sub-lt c d k) ∙ same-leb (d - suc c) (b - suc a) (a + d) (c + b) (omega arith) (omega arith))
    (le-or-lt d c))
    (le-or-lt b a)

pub as-sub : (z : ℤ) → (a : ℕ) × (b : ℕ) × (z ≡ sub_ℕ a b)
as-sub (pos n) = (n, 0, sym (sub-le n 0 (omega arith) ∙ ap pos (omega arith)))
as-sub (negsuc n) = (0, suc n, sym (sub-lt 0 (suc n) (omega arith) ∙ ap negsuc (omega arith)))

-- ---- the two tellings
module _ (N : Tables) (Q : Query) (ok : Valid N Q) where
  -- T in ticks, as a difference; a start d ticks before it
  abbrev T-ticks : ℕ
  T-ticks = ticks Q Q.arrival

  abbrev zero-ticks : ℕ
  zero-ticks = ticks Q midnight

  -- the tick at which a journey starts that starts d ticks before T
  abbrev pub start_tick : ℕ → ℤ
  start_tick d = sub_ℕ T-ticks (zero-ticks + d)

  move : {v : ℕ} {t t' : ℤ} → t ≡ t' → ClockJourney N Q v t → ClockJourney N Q v t'
  move {v} e c = subst (λ (z : ℤ). ClockJourney N Q v z) e c

  arrival-is : arrival_tick Q ≡ sub_ℕ T-ticks zero-ticks
  arrival-is = sub-times Q.arrival midnight Q.speed

  less-is : (d : ℕ) → arrival_tick Q -ℤ pos d ≡ start_tick d
  less-is d = ap (λ (z : ℤ). z -ℤ pos d) arrival-is ∙ sub_more T-ticks zero-ticks d

  tick-before : (x : ℕ) → x ≤ Q.arrival → tick Q x ≡ start_tick (before Q x)
  tick-before x h =
      sub-times x midnight Q.speed
      ∙ sub_same (ticks Q x) zero-ticks T-ticks (zero-ticks + before Q x) (omega (arith, times Q.arrival x (Q.arrival - x) Q.speed (omega arith)))

  -- A journey that starts d ticks before T is one that starts at that tick by the clock.
  pub to-clock : {v d : ℕ} → Journey N Q v d → ClockJourney N Q v (start_tick d)
  to-clock Journey.from_end = move (less-is (from_ticks N Q)) from_end
  to-clock (Journey.to_end h) = move (less-is (to_ticks N Q)) (to_end h)
  to-clock (Journey.at_to e) = move (arrival-is ∙ sub_same T-ticks zero-ticks T-ticks (zero-ticks + 0) (omega arith)) (at_to e)
  to-clock (Journey.by_walk i l {d = d} j) =
      move (sub_more T-ticks (zero-ticks + d) (walk_ticks Q (walk N i)) ∙ sub_same T-ticks ((zero-ticks + d) + walk_ticks Q (walk N i)) T-ticks (zero-ticks + (d + walk_ticks Q (walk N i))) (omega arith)) (by_walk i l (to-clock j))
  to-clock (Journey.by_hop i l a j) =
      move (tick-before (hop N i).departure (omega (arith, (good-hop N ok.tables i l).rides))) (by_hop i l (move (sym (tick-before (hop N i).arrival a)) (to-clock j)))
  to-clock (Journey.wait {d = d} {d' = d'} h j) =
      ClockJourney.wait
      (record {
        le = subst T (sym (sub_order T-ticks (zero-ticks + d') T-ticks (zero-ticks + d) ∙ le-leb (T-ticks + (zero-ticks + d)) (T-ticks + (zero-ticks + d')) (omega arith))) tt;
      })
      (to-clock j)

  -- an earlier tick is more ticks before T
  earlier : (t t' : ℤ) (d : ℕ) → t' ≤ℤ t → t ≡ start_tick d → (d' : ℕ) × (t' ≡ start_tick d') × (d ≤ d')
  earlier t t' d h e = go t' (as-sub t') (is_true h.le)
    where
      go : (z : ℤ) → (a : ℕ) × (b : ℕ) × (z ≡ sub_ℕ a b) → le_z z t ≡ true → (d' : ℕ) × (z ≡ start_tick d') × (d ≤ d')
      go z x o =
          let a = x.0 in
          let b = x.1 in
          let o' : leb (a + (zero-ticks + d)) (T-ticks + b) ≡ true = sym (sub_order a b T-ticks (zero-ticks + d)) ∙ ap₂ le_z (sym x.2) (sym e) ∙ o in
          let l = leb-true (a + (zero-ticks + d)) (T-ticks + b) o' in
          ((T-ticks + b) - (a + zero-ticks), x.2 ∙ sub_same a b T-ticks (zero-ticks + ((T-ticks + b) - (a + zero-ticks))) (omega arith), omega arith)

  at_second : (x d : ℕ) → tick Q x ≡ start_tick d → (x ≤ Q.arrival) × (d ≡ before Q x)
  at_second x d e =
      let q = sub_inj (ticks Q x) zero-ticks T-ticks (zero-ticks + d) (sym (sub-times x midnight Q.speed) ∙ e) in
      ⊎_elim (λ (h : x ≤ Q.arrival). (h, omega (arith, times Q.arrival x (Q.arrival - x) Q.speed (omega arith))))
      (λ (h : Q.arrival < x).
      let m : Q.arrival * Q.speed < x * Q.speed = mul-lt-mul_of_pos_right h ok.query.speed_low in
      absurd (let z : ⊥ = omega arith in z))
      (le-or-lt x Q.arrival)

  -- And every journey by the clock is such a journey.
  pub from-clock : {v : ℕ} {t : ℤ} → ClockJourney N Q v t → (d : ℕ) × (t ≡ start_tick d) × Journey N Q v d
  from-clock from_end = (from_ticks N Q, less-is (from_ticks N Q), Journey.from_end)
  from-clock (to_end h) = (to_ticks N Q, less-is (to_ticks N Q), Journey.to_end h)
  from-clock (at_to e) = (0, arrival-is ∙ sub_same T-ticks zero-ticks T-ticks (zero-ticks + 0) (omega arith), Journey.at_to e)
  from-clock (by_walk i l j) =
      let r = from-clock j in (
        r.0 + walk_ticks Q (walk N i),
        ap (λ (z : ℤ). z -ℤ pos (walk_ticks Q (walk N i))) r.1
            ∙ sub_more T-ticks (zero-ticks + r.0) (walk_ticks Q (walk N i))
            ∙ sub_same T-ticks ((zero-ticks + r.0) + walk_ticks Q (walk N i)) T-ticks (zero-ticks + (r.0 + walk_ticks Q (walk N i))) (omega arith),
        Journey.by_walk i l r.2,
      )
  from-clock (by_hop i l j) =
      let r = from-clock j in
      let a = at_second (hop N i).arrival r.0 r.1 in (
        before Q (hop N i).departure,
        tick-before (hop N i).departure (omega (arith, (good-hop N ok.tables i l).rides, a.0)),
        Journey.by_hop i l a.0 (subst (λ (d : ℕ). Journey N Q (hop N i).to d) a.1 r.2),
      )
  from-clock (ClockJourney.wait {t = t} {t' = t'} h j) =
      let r = from-clock j in
      let x = earlier t t' r.0 h r.1 in
      (x.0, x.1, Journey.wait x.2 r.2)
