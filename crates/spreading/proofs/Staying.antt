-- Hops that stay for a marked one are marked one after another; below the lowest of them all are marked already. Assumes nothing.
use mathlib.Core.Path.{◌≡◌, ap, subst, ◌∙◌}
use mathlib.Core.Logic.{◌⊎◌, inl, inr}
use mathlib.Core.Bool.{true}
use mathlib.Core.List.{List}
use Prim.Native.Nat.{ℕ, suc, ◌+◌, ◌≤◌, ◌<◌}
use native.Mathlib.Omega.{arith}
use Rattle.journeys.specs.Tables.{Tables, hop, hop_count}
use Rattle.journeys.specs.Query.{Query}
use Rattle.journeys.specs.Valid.{Valid}
use Rattle.journeys.proofs.Tests.{last-or-below}
use Rattle.journeys.proofs.Valid.{good-hop}
use Rattle.boarding.specs.Rides.{Mode, Stays}
use Rattle.arranging.specs.Keys.{word_at}
use Rattle.marking.specs.Pends.{State, marks_of, Fit, HopMarked}
use Rattle.marking.specs.Moves.{Moved}
use Rattle.marking.proofs.Moving.{moved_same, moved_then, moved-stays, marked-now}
use Rattle.spreading.specs.Spreads.{StaysBy, Staying, StaysFrom}

module _ (N : Tables) (Q : Query) (M : Mode) where
  pub stays-already : {set : List ℕ} {s : State} (i : ℕ) → Fit N Q set s → marks_of s i ≡ true → StaysBy N Q M set i s s
  stays-already i k h = record { moved = λ j t e. moved_same N Q M k; done = h }

  pub stays-mark : {set : List ℕ} {s s' : State} (i : ℕ) → Fit N Q set s → i < hop_count N → HopMarked N Q M set i s s' → StaysBy N Q M set i s s'
  stays-mark {set} {s} {s'} i k l m = record { moved = λ j t e. moved-stays N Q M set i s s' m j l (k.low j e) t e; done = marked-now N Q M set i s s' m }

  -- one word more
  pub from-none : {set sc : List ℕ} {s : State} (low j : ℕ) → Fit N Q set s → StaysFrom N Q M set sc low low j s s
  from-none low j k = record { moved = moved_same N Q M k; done = λ h a b. absurd (let z : ⊥ = omega arith in z) }

  pub from_one : {set sc : List ℕ} (low q g j : ℕ) (s t u : State) → g < q → low ≤ g → marks_of s j ≡ true → Staying N M sc low q j → StaysFrom N Q M set sc low g j s t → {i : ℕ} → i ≡ word_at sc g → StaysBy N Q M set i t u
      → StaysFrom N Q M set sc low (g + 1) j s u
  from_one {set} {sc} low q g j s t u l lg e st k {i} w b' =
      let m = b.moved j (st.stays g lg l) (k.moved.carries.grows j e) in
      record { moved = moved_then N Q M k.moved m; done = λ h a o. go m (last-or-below (let z : h < suc g = omega arith in z)) a }
    where
      b : StaysBy N Q M set (word_at sc g) t u
      b = subst (λ (x : ℕ). StaysBy N Q M set x t u) w b'

      go : Moved N Q M (λ _. Unit {0}) (λ i. Stays N M i j) set t u → {h : ℕ} → (h ≡ g) ⊎ (h < g) → low ≤ h → marks_of u (word_at sc h) ≡ true
      go m (inl q) a = ap (λ (x : ℕ). marks_of u (word_at sc x)) q ∙ b.done
      go m {h} (inr q) a = m.carries.grows (word_at sc h) (k.done h a q)

  pub from_end : {set sc : List ℕ} {s t : State} (low j : ℕ) {g q : ℕ} → g ≡ q → StaysFrom N Q M set sc low g j s t → StaysFrom N Q M set sc low q j s t
  from_end {set} {sc} {s} {t} low j e k = subst (λ (x : ℕ). StaysFrom N Q M set sc low x j s t) e k

  -- a hop that stays for one that leaves by T leaves by T
  pub stays-timely : (ok : Valid N Q) (i j : ℕ) → i < hop_count N → Stays N M i j → (hop N j).departure ≤ Q.arrival → (hop N i).departure ≤ Q.arrival
  stays-timely ok i j l t h = omega (arith, (good-hop N ok.tables i l).rides, t.in_time)
