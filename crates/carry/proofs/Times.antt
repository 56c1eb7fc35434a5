-- 16 of all stops is told by what is carried, and by the last stop. Assumes nothing.
use mathlib.Core.Path.{◌≡◌, refl, sym, ap, ap₂, subst, ◌∙◌}
use mathlib.Core.Logic.{⊎_elim}
use mathlib.Core.Bool.{Bool, true, false, not, cond, ◌&&◌, ◌||◌}
use mathlib.Core.List.{List, [], ◌∷◌}
use Prim.Native.Nat.{ℕ, zero, suc, ◌+◌, ◌-◌, ◌<◌, ◌≤◌, min}
use native.Mathlib.Omega.{arith}
use native.Mathlib.Numerals.{add-one}
use lib.Dec.{eqb, ltb}
use lib.ListN.{length, take}
use borrow.Author.Tests.{eq-eqb}
use Rattle.journeys.specs.Counting.{none, least}
use Rattle.journeys.proofs.Tests.{split, never, cond-true, cond-false, and_left}
use Rattle.journeys.proofs.Counting.{least-min}
use Rattle.table_bytes.specs.Columns.{at}
use Rattle.sorting.specs.Sorted.{Ascending}
use Rattle.feed.specs.Stops.{Stop}
use Rattle.feed.specs.Trips.{stop, some, earlier, in_time}
use Rattle.succession.specs.Entries.{stop_in, stops_in, lowest_bad, AllOnce, last_timed, falls_back}
use Rattle.succession.proofs.OrderLaws.{stop-at, stops-length, begins-first, begins-later, ends_last, ends-later}
use Rattle.succession.proofs.TimeLaws.{timed-test, untimed-test, back_none, back_some}
use Rattle.carry.specs.declared.Item.{Item}
use Rattle.carry.specs.declared.Carry.{Carry}
use Rattle.carry.specs.Carried as spec
use Rattle.carry.specs.Carried.{item_of, seen, start, untimely, ended, all_followed, late_end}
use Rattle.carry.proofs.Runs.{carried, carried-next, carried_first, prev-is, o, long, Before, other, this, before, apart, whole}

or-false : (b : Bool) → b ≡ b || false
or-false true = refl
or-false false = refl

-- the line of a stop that fails one of two tests
two-tests : (g a b : Bool) (x : ℕ) → not g ≡ a || b → min none (cond g none x) ≡ min none (min (cond a x none) (cond b x none))
two-tests true true b x e = never refl (sym e)
two-tests true false true x e = never refl (sym e)
two-tests true false false x e = omega arith
two-tests false true true x e = omega arith
two-tests false true false x e = omega arith
two-tests false false true x e = omega arith
two-tests false false false x e = never refl e

module _ (W : List ℕ) (a : Ascending W) (t : (i : ℕ) → i < length W → 0 < (stop_in (at W i)).trip) where
  abbrev S : List Stop
  S = stops_in W

  module _ (u : AllOnce S) where
    abbrev now : ℕ → Bool
    now i = untimely (carried W i) (stop S i)

    abbrev later : ℕ → Bool
    later i = cond (stop S i).timed false (not (some (earlier S i) (length S)))

    falls : (i : ℕ) → i < length W → eqb (carried W i).last.high (stop S i).trip && ltb (stop S i).arrival (seen (carried W i).last).departure ≡ falls_back S (last_timed S i) i
    falls i h = go (before W a t i h)
      where
        go : {x : Item} {d : ℕ} → Before W a t i x d → eqb x.high (stop S i).trip && ltb (stop S i).arrival (seen x).departure ≡ falls_back S d i
        go {x} {d} (other e) = and_left _ e ∙ sym (back_none S 0 i refl)
        go {x} {d} (this p e) =
            let z : suc p - 1 ≡ p = omega arith in
            ap (λ (s : Stop). eqb s.trip (stop S i).trip && ltb (stop S i).arrival s.departure) (sym (stop-at W p))
            ∙ ap (λ (b : Bool). b && ltb (stop S i).arrival (stop S p).departure) (eq-eqb (stop S p).trip (stop S i).trip e)
            ∙ sym (back_some S (suc p) i (omega arith) ∙ ap (λ (m : ℕ). ltb (stop S i).arrival (stop S m).departure) z)

    begins : (i : ℕ) → i < length W → not (eqb (carried W i).prev.high (stop S i).trip) ≡ not (some (λ p. earlier S p i) (length S))
    begins zero h = ap (λ (c : Carry). not (eqb c.prev.high (stop S 0).trip)) (carried_first W) ∙ ap not (apart W a t h) ∙ sym (begins-first (o W a t) u)
    begins (suc i) h =
        let z : suc i - 1 ≡ i = omega arith in
        ap (λ (x : Item). not (eqb x.high (stop S (suc i)).trip)) (prev-is W i (omega (arith, h)))
        ∙ ap (λ (s : Stop). not (eqb s.trip (stop S (suc i)).trip)) (sym (stop-at W i) ∙ ap (λ (m : ℕ). stop S m) (sym z))
        ∙ ap not (sym (begins-later (o W a t) u (suc i) (omega arith) (long W a t h)))

    both : (i : ℕ) → i < length W → not (in_time S i) ≡ now i || later i
    unfolding untimely
    both i h =
        ⊎_elim
        (λ (q : (stop S i).timed ≡ true).
        timed-test (o W a t) u i (long W a t h) q ∙ ap (λ (b : Bool). ltb (stop S i).departure (stop S i).arrival || b) (sym (falls i h)) ∙ or-false _
        ∙ ap₂ (λ (x y : Bool). x || y) (sym (cond-true _ _ q)) (sym (cond-true _ _ q)))
        (λ (q : (stop S i).timed ≡ false).
        untimed-test (o W a t) u i q ∙ ap (λ (b : Bool). b || not (some (earlier S i) (length S))) (sym (begins i h))
        ∙ ap₂ (λ (x y : Bool). x || y) (sym (cond-false _ _ q)) (sym (cond-false _ _ q)))
        (split (stop S i).timed)

    abbrev f : ℕ → ℕ
    f i = cond (in_time S i) none (stop S i).line

    abbrev g : ℕ → ℕ
    g i = cond (now i) (stop S i).line none

    abbrev e : ℕ → ℕ
    e i = cond (later i) (stop S i).line none

    parted : least f (length W) ≡ min (least g (length W)) (least e (length W))
    parted = least-min f g e (length W) (λ i h. two-tests (in_time S i) (now i) (later i) (stop S i).line (both i h))

    -- the stop before was the last of its trip
    ended_is : (j : ℕ) → suc j < length W → cond (ended (carried W (suc j)) (stop S (suc j))) (seen (carried W (suc j)).prev).line none ≡ e j
    unfolding ended
    ended_is j h =
        ap (λ (x : Item). cond (cond (seen x).timed false (not (eqb x.high (stop S (suc j)).trip))) (seen x).line none) (prev-is W j (omega (arith, h)))
        ∙ ap (λ (s : Stop). cond (cond s.timed false (not (eqb s.trip (stop S (suc j)).trip))) s.line none) (sym (stop-at W j))
        ∙ ap (λ (b : Bool). cond (cond (stop S j).timed false (not b)) (stop S j).line none)
        (sym (ends-later (o W a t) u j (subst (λ (m : ℕ). m < length S) (sym (add-one j)) (long W a t h)) ∙ ap (λ (m : ℕ). eqb (stop S j).trip (stop S m).trip) (add-one j)))

    sixteen-next : (i : ℕ) → i < length W → (carried W (suc i)).sixteen ≡ min (min (carried W i).sixteen (cond (ended (carried W i) (stop S i)) (seen (carried W i).prev).line none)) (g i)
    unfolding spec.sixteen
    sixteen-next i h =
        ap (λ (c : Carry). c.sixteen) (carried-next W i h)
        ∙ ap (λ (s : Stop). min (min (carried W i).sixteen (cond (ended (carried W i) s) (seen (carried W i).prev).line none)) (cond (untimely (carried W i) s) s.line none)) (sym (stop-at W i))

    first-end : cond (ended (carried W 0) (stop S 0)) (seen (carried W 0).prev).line none ≡ none
    unfolding ended all_followed
    first-end = refl

    sorted-mins : (w x y z : ℕ) → min (min (min w x) y) z ≡ min (min w z) (min x y)
    sorted-mins w x y z = omega arith

    first-mins : (x y z : ℕ) → x ≡ none → y ≡ none → min (min x y) z ≡ min (min none z) none
    first-mins x y z p q = omega (arith, p, q)

    sixteen-to : (i : ℕ) → i < length W → (carried W (suc i)).sixteen ≡ min (least g (suc i)) (least e i)
    unfolding least
    sixteen-to zero h = sixteen-next 0 h ∙ first-mins _ _ (g 0) (ap (λ (c : Carry). c.sixteen) (carried_first W)) first-end
    sixteen-to (suc i) h = sixteen-next (suc i) h ∙ ap₂ (λ (x y : ℕ). min (min x y) (g (suc i))) (sixteen-to i (omega (arith, h))) (ended_is i h) ∙ sorted-mins (least g (suc i)) (least e i) (e i) (g (suc i))

    last-is : (j : ℕ) → suc j ≡ length W → cond (seen (carried W (suc j)).prev).timed none (seen (carried W (suc j)).prev).line ≡ e j
    last-is j h =
        ap (λ (x : Item). cond (seen x).timed none (seen x).line) (prev-is W j (omega (arith, h)))
        ∙ ap (λ (s : Stop). cond s.timed none s.line) (sym (stop-at W j))
        ∙ swap (stop S j).timed (not (some (earlier S j) (length S))) (ends_last (o W a t) u j (add-one j ∙ h ∙ sym (stops-length W)))
      where
        swap : (b d : Bool) → d ≡ true → cond b none (stop S j).line ≡ cond (cond b false d) (stop S j).line none
        swap true d q = refl
        swap false d q = rw q refl

    late-to : (n : ℕ) → n ≡ length W → late_end (carried W n) ≡ min (least g n) (least e n)
    unfolding late_end least
    late-to zero h = ap late_end (carried_first W) ∙ refl
    late-to (suc j) h = ap₂ (λ (x y : ℕ). min x y) (sixteen-to j (omega (arith, h))) (last-is j h) ∙ three-mins (least g (suc j)) (least e j) (e j)
      where
        three-mins : (x y z : ℕ) → min (min x y) z ≡ min x (min y z)
        three-mins x y z = omega arith

    pub sixteen-all : late_end (all_followed start W) ≡ lowest_bad S (in_time S)
    unfolding lowest_bad
    sixteen-all = sym (whole W a t (λ l. late_end (all_followed start l))) ∙ late-to (length W) refl ∙ sym parted ∙ ap (least f) (sym (stops-length W))
