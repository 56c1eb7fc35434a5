-- A time by its parts. Assumes nothing.
use Prim.Native.Nat.{ℕ, ◌+◌, ◌-◌, ◌*◌, ◌≤◌}
use native.Mathlib.Omega.{arith}
use mathlib.Core.Path.{◌≡◌, refl, ◌∙◌}
use mathlib.Core.Logic.{⊎_elim}
use mathlib.Core.Bool.{Bool, true, false, not, ◌&&◌, ◌||◌}
use mathlib.Core.List.{List}
use lib.Dec.{eqb, leb}
use lib.ListN.{length, get_or, take, drop}
use borrow.Author.Tests.{eq-eqb, ne_eqb, leb-true, eqb-false, not-true, not-false}
use Rattle.journeys.proofs.Tests.{split, and_both, and_left, and_right, or-none, or_cases}
use Rattle.feed.specs.Values.{digits, value_of, number, time, seconds_of}
use Rattle.std.specs.Prelude.{Some, None}
use Rattle.values.specs.Readings.{number_read, time_read}

value-least : (most : ℕ) (f : List ℕ) → number most f ≡ true → value_of f ≤ most
unfolding number
value-least most f e = leb-true (value_of f) most (and_both (digits f) (leb (value_of f) most) e).1

pub read-value : (most v : ℕ) (f : List ℕ) → number_read most f ≡ Some v → (number most f ≡ true) × (value_of f ≡ v) × (v ≤ most)
unfolding number_read
read-value most v f e =
    ⊎_elim
    (λ (t : number most f ≡ true). let same : value_of f ≡ v = cc in (t, same, omega (arith, value-least most f t)))
    (λ (t : number most f ≡ false). absurd (let z : ◌≡◌ {A = ℕ} 0 1 = cc in omega arith))
    (split (number most f))

pub read-bad : (most : ℕ) (f : List ℕ) → number_read most f ≡ None → number most f ≡ false
unfolding number_read
read-bad most f e =
    ⊎_elim (λ (t : number most f ≡ true). absurd (let z : ◌≡◌ {A = ℕ} 0 1 = cc in omega arith)) (λ (t : number most f ≡ false). t) (split (number most f))

module _ (a b c d e : Bool) where
  second-fails : b ≡ false → (a && b && c && d && e) ≡ false
  second-fails p = and_left e (and_left d (and_left c (and_right a p)))

  third-fails : c ≡ false → (a && b && c && d && e) ≡ false
  third-fails p = and_left e (and_left d (and_right (a && b) p))

  fourth-fails : d ≡ false → (a && b && c && d && e) ≡ false
  fourth-fails p = and_left e (and_right (a && b && c) p)

  fifth-fails : e ≡ false → (a && b && c && d && e) ≡ false
  fifth-fails p = and_right (a && b && c && d) p

time-bad : (f : List ℕ) → time f ≡ false → time_read f ≡ None
unfolding time_read
time-bad f e = rw e refl

pub time-long : (f : List ℕ) → (length f ≡ 7 → ⊥) → (length f ≡ 8 → ⊥) → time_read f ≡ None
unfolding time
time-long f p q = time-bad f (rw (ne_eqb _ _ p, ne_eqb _ _ q) refl)

module _ (f : List ℕ) (h : ℕ) (long : length f ≡ h + 6) (low : 1 ≤ h) (high : h ≤ 2) where
  fits : (eqb (length f) 7 || eqb (length f) 8) ≡ true
  fits =
      ⊎_elim (λ (e : eqb (length f) 7 ≡ true). rw e refl)
      (λ (e : eqb (length f) 7 ≡ false). rw (e, eq-eqb (length f) 8 (omega (arith, eqb-false (length f) 7 e))) refl)
      (split (eqb (length f) 7))

  hours-end : length f - 6 ≡ h
  hours-end = omega arith

  abbrev hours_good : Bool
  hours_good = number 47 (take h f)

  abbrev minutes_good : Bool
  minutes_good = number 59 (take 2 (drop (h + 1) f))

  abbrev seconds_good : Bool
  seconds_good = number 59 (take 2 (drop (h + 4) f))

  abbrev colon : Bool
  colon = eqb (get_or f h 0) 58

  abbrev colon' : Bool
  colon' = eqb (get_or f (h + 3) 0) 58

  parts : time f ≡ (hours_good && colon && minutes_good && colon' && seconds_good)
  unfolding time
  parts = rw (hours-end, fits) refl

  pub no-colon : (not colon || not colon') ≡ true → time_read f ≡ None
  no-colon e =
      time-bad f
      (parts
      ∙ ⊎_elim (λ (p : not colon ≡ true). second-fails hours_good colon minutes_good colon' seconds_good (not-true colon p))
      (λ (p : not colon' ≡ true). fourth-fails hours_good colon minutes_good colon' seconds_good (not-true colon' p))
      (or_cases (not colon) (not colon') e))

  pub bad-hours : hours_good ≡ false → time_read f ≡ None
  bad-hours e = time-bad f (parts ∙ rw e refl)

  pub bad-minutes : minutes_good ≡ false → time_read f ≡ None
  bad-minutes e = time-bad f (parts ∙ third-fails hours_good colon minutes_good colon' seconds_good e)

  pub bad-seconds : seconds_good ≡ false → time_read f ≡ None
  bad-seconds e = time-bad f (parts ∙ fifth-fails hours_good colon minutes_good colon' seconds_good e)

  pub good-time : (hours minutes seconds : ℕ) → (not colon || not colon') ≡ false
      → number_read 47 (take h f) ≡ Some hours → number_read 59 (take 2 (drop (h + 1) f)) ≡ Some minutes → number_read 59 (take 2 (drop (h + 4) f)) ≡ Some seconds
      → time_read f ≡ Some (3600 * hours + 60 * minutes + seconds)
  unfolding time_read seconds_of
  good-time hours minutes seconds colons a b c =
      let x : (hours_good ≡ true) × (value_of (take h f) ≡ hours) × (hours ≤ 47) = read-value 47 hours (take h f) a in
      let y : (minutes_good ≡ true) × (value_of (take 2 (drop (h + 1) f)) ≡ minutes) × (minutes ≤ 59) = read-value 59 minutes (take 2 (drop (h + 1) f)) b in
      let z : (seconds_good ≡ true) × (value_of (take 2 (drop (h + 4) f)) ≡ seconds) × (seconds ≤ 59) = read-value 59 seconds (take 2 (drop (h + 4) f)) c in
      let w = or-none (not colon) (not colon') colons in
      let good : time f ≡ true = parts ∙ rw (x.0, not-false colon w.0, y.0, not-false colon' w.1, z.0) refl in
      rw (good, hours-end, x.1, y.1, z.1) refl
