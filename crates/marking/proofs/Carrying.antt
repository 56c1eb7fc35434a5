-- A hop is marked for one of two reasons, and what is true inside a step stays so; one such change after another is one. Assumes nothing.
use mathlib.Core.Path.{◌≡◌, refl, sym, ap, ◌∙◌}
use mathlib.Core.Logic.{◌⊎◌, inl, inr, ⊎_elim}
use mathlib.Core.Bool.{Bool, true, false, not, cond, ◌&&◌}
use mathlib.Core.List.{List}
use Prim.Native.Nat.{ℕ, ◌≤◌, ◌<◌}
use lib.Dec.{eqb}
use lib.ListN.{take}
use borrow.Author.Tests.{eq-eqb, ne_eqb}
use Rattle.journeys.specs.Counting.{none, In}
use Rattle.journeys.specs.Tables.{Tables, hop, vertex_count, hop_count}
use Rattle.journeys.specs.Query.{Query, allowed, before}
use Rattle.journeys.specs.Settled.{Settled, settled}
use Rattle.journeys.specs.Network.{distance_in, within}
use Rattle.journeys.specs.Valid.{Valid}
use Rattle.journeys.proofs.Tests.{Test, same, other, test, never, le-or-lt}
use Rattle.journeys.proofs.Known.{is_within, not_within}
use Rattle.journeys.proofs.Valid.{good-hop}
use Rattle.journeys.proofs.Document as document
use Rattle.boarding.specs.Rides.{Mode, Stays}
use Rattle.boarding.specs.RideJourneys.{standing}
use Rattle.boarding.specs.RideOrder.{IsRideOrder}
use Rattle.boarding.proofs.Marks.{Marked, mark-alights, mark-stays, marked-near}
use Rattle.boarding.proofs.OneMark.{also, by_hop}
use Rattle.boarding.proofs.Kept.{improved}
use Rattle.boarding.proofs.Searching.{Underway, marks-one}
use Rattle.improving.proofs.Betters.{improved-above}
use Rattle.marking.specs.Carried.{offered_by, Carries}

-- an offer is taken at w by its two tests
module _ (D o : ℕ) (small : D < none) where
  taken_is : (f : ℕ → ℕ) (w u : ℕ) (a b : Bool) → b ≡ false → {t : Bool} → Test u w t → cond (a && not b) (cond t (improved D o (f u)) (f u)) (f u) ≡ improved D (cond (eqb w u && a) o none) (f u)
  taken_is f w u true false e (same q) = ap (λ (t : Bool). improved D (cond (t && true) o none) (f u)) (sym (eq-eqb w u (sym q)))
  taken_is f w u false false e (same q) = sym (ap (λ (t : Bool). improved D (cond (t && false) o none) (f u)) (eq-eqb w u (sym q)) ∙ improved-above D none (f u) small)
  taken_is f w u a false e (other n) =
      other-cond a ∙ sym (ap (λ (t : Bool). improved D (cond (t && a) o none) (f u)) (ne_eqb w u (λ z. n (sym z))) ∙ improved-above D none (f u) small)
    where
      other-cond : (a : Bool) → cond (a && true) (f u) (f u) ≡ f u
      other-cond true = refl
      other-cond false = refl
  taken_is f w u a true e t = never refl e

  -- who is within D afterwards was so before, or took the offer
  taken-low : (f : ℕ → ℕ) (w u : ℕ) (a b : Bool) {t : Bool} → Test u w t → cond (a && not b) (cond t (improved D o (f u)) (f u)) (f u) ≤ D → (f u ≤ D) ⊎ ((u ≡ w) × (b ≡ false))
  taken-low f w u true false (same q) h = inr (q, refl)
  taken-low f w u true true t h = inl h
  taken-low f w u true false (other n) h = inl h
  taken-low f w u false b t h = inl h

module _ (N : Tables) (Q : Query) (M : Mode) where
  module _ (ok : Valid N Q) {l : List Settled} (O : IsRideOrder N Q M l) (k : ℕ) (set : ℕ → Bool) (sets : (v : ℕ) → set v ≡ within (distance_in (take k l)) v) where
    out : (v : ℕ) → set v ≡ false → none ≤ distance_in (take k l) v
    out v e =
        ⊎_elim (λ (q : none ≤ distance_in (take k l) v). q) (λ (q : distance_in (take k l) v < none). never (sets v ∙ is_within (distance_in (take k l)) v q) e) (le-or-lt none (distance_in (take k l) v))

    -- one mark, for whatever reason
    underway-marked : {mark : ℕ → Bool} {f : ℕ → ℕ} → Underway N Q M ok O k mark f → (j : ℕ) → j < hop_count N → Marked N Q M (take k l) j
        → Underway N Q M ok O k (also mark j) (offered_by N Q M set j f)
    underway-marked {mark} {f} w j jl m = marks-one N Q M ok O w j jl m (offered_by N Q M set j f) inside is
      where
        inside : (u : ℕ) → offered_by N Q M set j f u ≤ allowed Q → (u < vertex_count N) × (none ≤ distance_in (take k l) u)
        inside u h = go (taken-low (allowed Q) (standing Q M (hop N j).departure) (document.allowed-low N Q ok) f (hop N j).from u (set (hop N j).to) (set (hop N j).from) (test u (hop N j).from) h)
          where
            go : (f u ≤ allowed Q) ⊎ ((u ≡ (hop N j).from) × (set (hop N j).from ≡ false)) → (u < vertex_count N) × (none ≤ distance_in (take k l) u)
            go (inl q) = (w.keeps.low u q, w.keeps.out u q)
            go (inr q) = rw q.0 ((good-hop N ok.tables j jl).from_low, out (hop N j).from q.1)

        is : (u : ℕ) → u < vertex_count N → none ≤ distance_in (take k l) u
            → offered_by N Q M set j f u ≡ improved (allowed Q) (by_hop N Q M mark (distance_in (take k l)) j jl (marked-near N Q M ok O k j m) u) (f u)
        is u ul uo = go (test u (hop N j).from)
          where
            at_from : u ≡ (hop N j).from → set (hop N j).from ≡ false
            at_from e = sets (hop N j).from ∙ not_within (distance_in (take k l)) (hop N j).from (rw (← e) uo)

            alike : (t : Bool) → cond t (f u) (f u) ≡ f u
            alike true = refl
            alike false = refl

            go : {t : Bool} → Test u (hop N j).from t
                → cond (set (hop N j).to && not (set (hop N j).from)) (cond t (improved (allowed Q) (standing Q M (hop N j).departure) (f u)) (f u)) (f u)
                ≡ improved (allowed Q) (cond (eqb (hop N j).from u && within (distance_in (take k l)) (hop N j).to) (standing Q M (hop N j).departure) none) (f u)
            go (same e) =
                taken_is (allowed Q) (standing Q M (hop N j).departure) (document.allowed-low N Q ok) f (hop N j).from u (set (hop N j).to) (set (hop N j).from) (at_from e) (same e)
                ∙ ap (λ (t : Bool). improved (allowed Q) (cond (eqb (hop N j).from u && t) (standing Q M (hop N j).departure) none) (f u)) (sets (hop N j).to)
            go (other n) =
                alike (set (hop N j).to && not (set (hop N j).from))
                ∙ sym (ap (λ (t : Bool). improved (allowed Q) (cond (t && within (distance_in (take k l)) (hop N j).to) (standing Q M (hop N j).departure) none) (f u)) (ne_eqb (hop N j).from u (λ z. n (sym z))) ∙ improved-above (allowed Q) none (f u) (document.allowed-low N Q ok))

  -- ---- changes
  pub carries_same : {A : List Settled → Type 0} {set mark : ℕ → Bool} {f : ℕ → ℕ} → Carries N Q M A set mark f mark f
  carries_same = record { grows = λ j h. h; underway = λ ok O k s a w. w }

  pub carries-then : {A : List Settled → Type 0} {set m m1 m2 : ℕ → Bool} {f f1 f2 : ℕ → ℕ} → Carries N Q M A set m f m1 f1 → Carries N Q M A set m1 f1 m2 f2 → Carries N Q M A set m f m2 f2
  carries-then a b =
      record { grows = λ j h. b.grows j (a.grows j h); underway = λ ok O k s x w. b.underway ok O k s x (a.underway ok O k s x w) }

  -- what holds for any settled vertices holds for some
  pub carries-any : {A : List Settled → Type 0} {set m m1 : ℕ → Bool} {f f1 : ℕ → ℕ} → Carries N Q M (λ _. Unit {0}) set m f m1 f1 → Carries N Q M A set m f m1 f1
  carries-any a = record { grows = a.grows; underway = λ ok O k s x w. a.underway ok O k s tt w }

  also-grows : (mark : ℕ → Bool) (i j : ℕ) → mark j ≡ true → also mark i j ≡ true
  also-grows mark i j h = go (eqb j i)
    where
      go : (t : Bool) → cond t true (mark j) ≡ true
      go true = refl
      go false = h

  -- one stays for a marked hop
  pub carries-stays : {A : List Settled → Type 0} {set mark : ℕ → Bool} {f : ℕ → ℕ} (i j : ℕ) → i < hop_count N → j < hop_count N → Stays N M i j → mark j ≡ true
      → Carries N Q M A set mark f (also mark i) (offered_by N Q M set i f)
  carries-stays {A} {set} {mark} i j il jl t e =
      record {
        grows = also-grows mark i;
        underway = λ ok {l} O k s x w. underway-marked ok O k set s w i il (mark-stays N Q M (take k l) i j il t (w.sound j jl e));
      }

  -- one alights in time at x, which is settled at d
  pub carries-alights : {set mark : ℕ → Bool} {f : ℕ → ℕ} (j x d : ℕ) → j < hop_count N → (hop N j).to ≡ x → (hop N j).arrival ≤ Q.arrival → d ≤ before Q (hop N j).arrival
      → Carries N Q M (In (settled x d)) set mark f (also mark j) (offered_by N Q M set j f)
  carries-alights {set} {mark} j x d jl e a h =
      record {
        grows = also-grows mark j;
        underway = λ ok {l} O k s i w. underway-marked ok O k set s w j jl (mark-alights N Q M (take k l) j d jl (rw e i) a h);
      }
