-- One record after another makes its offer, and records that lead elsewhere make none. Assumes nothing.
use mathlib.Core.Path.{◌≡◌, refl, sym, ap, fun_ext, ◌∙◌}
use mathlib.Core.Logic.{◌≢◌}
use mathlib.Core.Bool.{Bool, true, false, not, cond, ◌&&◌}
use Prim.Native.Nat.{ℕ, suc, ◌+◌, ◌-◌, ◌≤◌, ◌<◌, min}
use native.Mathlib.Omega.{arith}
use lib.Dec.{eqb}
use borrow.Author.Tests.{eq-eqb, ne_eqb}
use Rattle.journeys.specs.Counting.{none, least}
use Rattle.journeys.specs.Tables.{Tables, walk, hop, walk_count}
use Rattle.journeys.specs.Query.{Query, allowed, walk_ticks}
use Rattle.journeys.specs.Records.{from, to, record_at}
use Rattle.journeys.specs.Valid.{Valid}
use Rattle.journeys.proofs.Tests.{Test, same, other, test, and-true, cond-true, cond-false, TestLe, fits, over, test_le}
use Rattle.journeys.proofs.Counting.{least-none, least-empty}
use Rattle.journeys.proofs.Document as document
use Rattle.journeys.proofs.Document.{walk-record, hop-record}
use Rattle.journeys.proofs.Valid.{good-walk, allowed-high, wait-most}
use Rattle.journeys.proofs.Step.{toward, through, through-skip}
use Rattle.boarding.specs.Rides.{Mode}
use Rattle.boarding.specs.RideJourneys.{standing}
use Rattle.boarding.proofs.Kept.{improved}
use Rattle.improving.specs.Figures.{improved_at}
use Rattle.improving.proofs.Betters.{improved-above}
use Rattle.marking.specs.Carried.{offered_by}
use Rattle.offering.specs.Offers.{brings, marked, passed, taken_at}

-- an offer after another is the lesser of the two
pub improved-twice : (D a b y : ℕ) → improved D b (improved D a y) ≡ improved D (min a b) y
improved-twice D a b y = go (test_le a D) (test_le b D) (test_le (min a b) D)
  where
    go : {s t u : Bool} → TestLe a D s → TestLe b D t → TestLe (min a b) D u → cond t (min (cond s (min y a) y) b) (cond s (min y a) y) ≡ cond u (min y (min a b)) y
    go (fits p) (fits q) (fits r) = omega arith
    go (fits p) (fits q) (over r) = absurd (let z : ⊥ = omega arith in z)
    go (fits p) (over q) (fits r) = omega arith
    go (fits p) (over q) (over r) = absurd (let z : ⊥ = omega arith in z)
    go (over p) (fits q) (fits r) = omega arith
    go (over p) (fits q) (over r) = absurd (let z : ⊥ = omega arith in z)
    go (over p) (over q) (fits r) = absurd (let z : ⊥ = omega arith in z)
    go (over p) (over q) (over r) = refl

module _ (N : Tables) (Q : Query) (M : Mode) (ok : Valid N Q) (set mark : ℕ → Bool) (x d : ℕ) where
  small : allowed Q < none
  small = document.allowed-low N Q ok

  -- nothing was offered yet
  pub passed_none : (f : ℕ → ℕ) → f ≡ passed N Q M set mark x d 0 f
  passed_none f = fun_ext (λ u. sym (go u (set u)))
    where
      go : (u : ℕ) (t : Bool) → cond t (f u) (improved (allowed Q) (least (through (marked N Q M mark) x d u) 0) (f u)) ≡ f u
      go u true = refl
      go u false = ap (λ (o : ℕ). improved (allowed Q) o (f u)) (least-empty (through (marked N Q M mark) x d u)) ∙ improved-above (allowed Q) none (f u) small

  -- records that lead elsewhere
  pub passed-skip : (n k : ℕ) → n ≤ k → ((r : ℕ) → n ≤ r → r < k → to (record_at N r) ≢ x) → (f : ℕ → ℕ) → passed N Q M set mark x d n f ≡ passed N Q M set mark x d k f
  passed-skip n k l h f = fun_ext (λ u. ap (λ (o : ℕ). cond (set u) (f u) (improved (allowed Q) o (f u))) (sym (through-skip (marked N Q M mark) x n k l h d u)))

  -- a record to x
  pub passed-one : (r w : ℕ) → to (record_at N r) ≡ x → from (record_at N r) ≡ w → {o : ℕ} → o ≡ brings Q M mark d (r - walk_count N) (record_at N r) → (f : ℕ → ℕ)
      → taken_at (allowed Q) set w o (passed N Q M set mark x d r f) ≡ passed N Q M set mark x d (suc r) f
  unfolding least through toward
  passed-one r w e g {o} b f = fun_ext (λ u. go u (test u w))
    where
      before : ℕ → ℕ
      before u = least (through (marked N Q M mark) x d u) r

      same-through : (u : ℕ) → u ≡ w → through (marked N Q M mark) x d u r ≡ o
      same-through u q = cond-true _ none (and-true (eq-eqb (from (record_at N r)) u (g ∙ sym q)) (eq-eqb (to (record_at N r)) x e)) ∙ sym b

      other-through : (u : ℕ) → u ≢ w → through (marked N Q M mark) x d u r ≡ none
      other-through u n = cond-false _ none (ap (λ (t : Bool). t && eqb (to (record_at N r)) x) (ne_eqb (from (record_at N r)) u (λ z. n (sym z ∙ g))))

      at-w : (u : ℕ) (s : Bool) (y : ℕ) → cond s (cond s y (improved (allowed Q) (before u) y)) (improved (allowed Q) o (cond s y (improved (allowed Q) (before u) y))) ≡ cond s y (improved (allowed Q) (min (before u) o) y)
      at-w u true y = refl
      at-w u false y = improved-twice (allowed Q) (before u) o y

      elsewhere : (s : Bool) (y : ℕ) → cond s y y ≡ y
      elsewhere true y = refl
      elsewhere false y = refl

      go : (u : ℕ) {t : Bool} → Test u w t
          → cond (set w) (passed N Q M set mark x d r f u) (cond t (improved (allowed Q) o (passed N Q M set mark x d r f u)) (passed N Q M set mark x d r f u))
          ≡ cond (set u) (f u) (improved (allowed Q) (min (least (through (marked N Q M mark) x d u) r) (through (marked N Q M mark) x d u r)) (f u))
      go u (same q) =
          ap (λ (v : ℕ). cond (set v) (passed N Q M set mark x d r f u) (improved (allowed Q) o (passed N Q M set mark x d r f u))) (sym q)
          ∙ at-w u (set u) (f u)
          ∙ ap (λ (y : ℕ). cond (set u) (f u) (improved (allowed Q) (min (before u) y) (f u))) (sym (same-through u q))
      go u (other n) =
          let m : before u ≡ min (before u) (through (marked N Q M mark) x d u r) = omega (arith, other-through u n, least-none (through (marked N Q M mark) x d u) r) in
          elsewhere (set w) (passed N Q M set mark x d r f u) ∙ ap (λ (y : ℕ). cond (set u) (f u) (improved (allowed Q) y (f u))) m

  -- ---- walk i, and hop j
  pub walk-brings : (i : ℕ) → i < walk_count N → (walk N i).to ≡ x → (f : ℕ → ℕ)
      → taken_at (allowed Q) set (walk N i).from (d + walk_ticks Q (walk N i)) (passed N Q M set mark x d i f) ≡ passed N Q M set mark x d (suc i) f
  unfolding brings
  walk-brings i l e f =
      let q = walk-record N i l in
      passed-one i (walk N i).from (ap to q ∙ e) (ap from q) (sym (ap (brings Q M mark d (i - walk_count N)) q)) f

  hop-brings : (j : ℕ) → (hop N j).to ≡ x → (f : ℕ → ℕ)
      → taken_at (allowed Q) set (hop N j).from (cond (mark j) (standing Q M (hop N j).departure) none) (passed N Q M set mark x d (walk_count N + j) f) ≡ passed N Q M set mark x d (suc (walk_count N + j)) f
  unfolding brings
  hop-brings j e f =
      let q = hop-record N j in
      let k : (walk_count N + j) - walk_count N ≡ j = omega arith in
      passed-one (walk_count N + j) (hop N j).from (ap to q ∙ e) (ap from q) (sym (ap (brings Q M mark d ((walk_count N + j) - walk_count N)) q ∙ ap (λ (n : ℕ). cond (mark n) (standing Q M (hop N j).departure) none) k)) f

  pub not-marked : (j : ℕ) → (hop N j).to ≡ x → mark j ≡ false → (f : ℕ → ℕ) → passed N Q M set mark x d (walk_count N + j) f ≡ passed N Q M set mark x d (suc (walk_count N + j)) f
  not-marked j e m f =
      fun_ext (λ u. sym (go (passed N Q M set mark x d (walk_count N + j) f) u (set (hop N j).from) (eqb u (hop N j).from)))
      ∙ ap (λ (o : ℕ). taken_at (allowed Q) set (hop N j).from o (passed N Q M set mark x d (walk_count N + j) f)) (sym (cond-false (standing Q M (hop N j).departure) none m))
      ∙ hop-brings j e f
    where
      go : (g : ℕ → ℕ) (u : ℕ) (s t : Bool) → cond s (g u) (cond t (improved (allowed Q) none (g u)) (g u)) ≡ g u
      go g u true t = refl
      go g u false true = improved-above (allowed Q) none (g u) small
      go g u false false = refl

  pub is-marked : (j : ℕ) → (hop N j).to ≡ x → set x ≡ true → mark j ≡ true → (f : ℕ → ℕ)
      → offered_by N Q M set j (passed N Q M set mark x d (walk_count N + j) f) ≡ passed N Q M set mark x d (suc (walk_count N + j)) f
  is-marked j e s m f =
      fun_ext (λ u. ap (λ (t : Bool). cond (t && not (set (hop N j).from)) (improved_at (allowed Q) (hop N j).from (standing Q M (hop N j).departure) (passed N Q M set mark x d (walk_count N + j) f) u) (passed N Q M set mark x d (walk_count N + j) f u)) (ap set e ∙ s) ∙ turned (set (hop N j).from) _ _)
      ∙ ap (λ (o : ℕ). taken_at (allowed Q) set (hop N j).from o (passed N Q M set mark x d (walk_count N + j) f)) (sym (cond-true (standing Q M (hop N j).departure) none m))
      ∙ hop-brings j e f
    where
      turned : (t : Bool) (a b : ℕ) → cond (true && not t) a b ≡ cond t b a
      turned true a b = refl
      turned false a b = refl

  -- what a walk takes fits
  pub way-fits : (i : ℕ) → i < walk_count N → d ≤ allowed Q → d + walk_ticks Q (walk N i) ≤ 8752000
  way-fits i l h =
      let g = good-walk N ok.tables i l in
      omega (arith, allowed-high ok.query, g.len-high, wait-most ok.query (walk N i).wait g.wait-high)
