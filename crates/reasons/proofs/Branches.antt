-- Refusal 28 in its order: each return of the code is the first test that fails; and by what the array lists it is the list's. Assumes nothing.
use mathlib.Core.Path.{◌≡◌, refl, sym, ap, ap₂, subst, ◌∙◌}
use mathlib.Core.Logic.{◌≢◌}
use mathlib.Core.Bool.{Bool, true, false}
use mathlib.Core.List.{List}
use Prim.Native.Nat.{ℕ, ◌≤◌, ◌<◌}
use native.Mathlib.Omega.{arith}
use borrow.Author.Tests.{eq-eqb, ne_eqb}
use Rattle.journeys.specs.Network.{Network}
use Rattle.journeys.specs.Refusals.{Refusal, fine, unless, or_else, first_bad}
use Rattle.journeys.specs.VendorLists.{size, no_better, far_before, far_listed, seed_fair, record_fair, from_place, to_place}
use Rattle.journeys.proofs.Tests.{cond-true, cond-false}
use Rattle.audit.proofs.Whole.{bad-same}
use Rattle.intake.proofs.FirstFault.{failed, passed}
use Rattle.lists.specs.Passes.{First}
use Rattle.lists.proofs.Entries.{first-refused, none-refused}
use Rattle.passing.specs.Row.{passes}
use Rattle.passing.specs.declared.Arriving.{Arriving}
use Rattle.entries.specs.Noted.{heard}
use Rattle.reasons.specs.Rows.{seed_of, net_of, Led, Figures, Gives, fair_by, offer_refusal}
use Rattle.reasons.specs.declared.Seeds.{Seeds}
use Rattle.reasons.proofs.Reasons.{fair-by}

module _ (G : Network) (D : ℕ) (far : ℕ → ℕ) (from to : ℕ) where
  abbrev late : Refusal
  late = first_bad 28 (fair_by G D far) G.records

  pub from-better : no_better D (far from) (G.seed from) ≡ false → record { number = 28; place = from_place } ≡ offer_refusal G D far from to
  unfolding offer_refusal
  from-better e = sym (failed (no_better D (far from) (G.seed from)) 28 from_place _ (omega arith) e)

  module _ (f : no_better D (far from) (G.seed from) ≡ true) where
    past-from : offer_refusal G D far from to ≡ or_else (unless (no_better D (far to) (G.seed to)) 28 to_place) late
    unfolding offer_refusal
    past-from = passed (no_better D (far from) (G.seed from)) 28 from_place _ f

    pub to-better : no_better D (far to) (G.seed to) ≡ false → record { number = 28; place = to_place } ≡ offer_refusal G D far from to
    to-better e = sym (past-from ∙ failed (no_better D (far to) (G.seed to)) 28 to_place _ (omega arith) e)

    module _ (t : no_better D (far to) (G.seed to) ≡ true) (r : ℕ) (R : First (fair_by G D far) G.records r) where
      past-both : offer_refusal G D far from to ≡ late
      past-both = past-from ∙ passed (no_better D (far to) (G.seed to)) 28 to_place _ t

      pub record-better : r < G.records → record { number = 28; place = r } ≡ offer_refusal G D far from to
      record-better h = first-refused 28 (omega arith) (fair_by G D far) G.records r R h ∙ sym past-both

      pub all_fair : G.records ≤ r → fine ≡ offer_refusal G D far from to
      all_fair h = none-refused 28 (omega arith) (fair_by G D far) G.records r R h ∙ sym past-both

-- ---- the tests as the code has them
module _ (w h : List ℕ) (a : Arriving) (e : Seeds) (far : List ℕ) (D n : ℕ) where
  pub from-test : (b : Bool) → b ≡ no_better D (heard far e.from) e.near.0 → b ≡ no_better D (heard far e.from) ((net_of n w h a e).seed e.from)
  unfolding seed_of
  from-test b q = q ∙ ap (no_better D (heard far e.from)) (sym (cond-true e.near.0 _ (eq-eqb e.from e.from refl)))

  pub to-test : e.from ≢ e.to → (b : Bool) → b ≡ no_better D (heard far e.to) e.back.0 → b ≡ no_better D (heard far e.to) ((net_of n w h a e).seed e.to)
  unfolding seed_of
  to-test k b q =
      q
      ∙ ap (no_better D (heard far e.to))
      (sym (cond-false e.near.0 _ (ne_eqb e.from e.to k) ∙ cond-true e.back.0 _ (eq-eqb e.to e.to refl)))

  -- the array lists what the list does: i is the number of its entries
  module _ (led : Led w h a) (list : List ℕ) (i : ℕ) (all : i ≡ size list) (F : Figures far) (read : Gives far (far_before list i)) where
    g : Gives far (far_listed list)
    g = subst (λ (n : ℕ). Gives far (far_before list n)) all read

    seed-listed : (u : ℕ) → u < 65536 → no_better D (heard far u) (seed_of e u) ≡ seed_fair (net_of n w h a e) list D u
    unfolding seed_fair
    seed-listed u l = ap (λ (x : ℕ). no_better D x (seed_of e u)) (g u l)

    pub offers-listed : (from to : ℕ) → from < 65536 → to < 65536
        → offer_refusal (net_of 65536 w h a e) D (heard far) from to
        ≡ or_else (unless (seed_fair (net_of n w h a e) list D from) 28 from_place)
        (or_else (unless (seed_fair (net_of n w h a e) list D to) 28 to_place) (first_bad 28 (record_fair (net_of n w h a e) list D) (passes a)))
    unfolding offer_refusal
    offers-listed from to k l =
        ap₂ or_else (ap (λ (t : Bool). unless t 28 from_place) (seed-listed from k))
        (ap₂ or_else (ap (λ (t : Bool). unless t 28 to_place) (seed-listed to l))
        (bad-same 28 (fair_by (net_of 65536 w h a e) D (heard far)) (record_fair (net_of n w h a e) list D) (passes a) (λ r m. fair-by w h a e led list far n D g r m)))
