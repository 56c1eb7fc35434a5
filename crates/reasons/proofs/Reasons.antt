-- The tests of refusals 27 and 28, by the branches of the code; and that they ask of a network no more than the records that there are. Assumes nothing.
use mathlib.Core.Path.{◌≡◌, refl, sym, ap, ap₂, subst, ◌∙◌}
use mathlib.Core.Logic.{⊎_elim, ◌≢◌}
use mathlib.Core.Bool.{Bool, true, false, not, cond, ◌&&◌, ◌||◌}
use mathlib.Core.List.{List}
use Prim.Native.Nat.{ℕ, ◌≤◌, ◌<◌}
use lib.Dec.{eqb, ltb}
use borrow.Author.Tests.{eq-eqb, ne_eqb, lt-ltb, le-ltb, ltb-true}
use Rattle.journeys.specs.Counting.{none}
use Rattle.journeys.specs.Network.{Network, within, into}
use Rattle.journeys.specs.Lists.{vertex_in, distance_at}
use Rattle.journeys.specs.VendorLists.{record_in, far_before, far_listed, no_better, backs, backed, record_fair}
use Rattle.journeys.proofs.Tests.{split, and_left, and_right, and-true, or_left, cond-true, cond-false}
use Rattle.journeys.proofs.Known.{is_within, not_within, is-into}
use Rattle.passing.specs.Row as row
use Rattle.passing.specs.Row.{passes, record_of, offer_of}
use Rattle.passing.specs.declared.Arriving.{Arriving}
use Rattle.entries.specs.Noted.{heard}
use Rattle.reasons.specs.Rows.{farther, net_of, Led, Gives, fair_by}
use Rattle.reasons.specs.declared.Seeds.{Seeds}

-- ---- 27
module _ (G : Network) (far : ℕ → ℕ) (v d r : ℕ) where
  abbrev offers : Bool
  offers = ltb r G.records && into G far v r && eqb (G.offer r (far (G.to r))) d

  pub by-seed : r ≡ none → (x : ℕ) → x ≡ G.seed v → eqb x d ≡ backs G far v d r
  unfolding backs
  by-seed e x q = ap (λ (y : ℕ). eqb y d) q ∙ sym (cond-true (eqb (G.seed v) d) offers (eq-eqb r none e))

  module _ (n : r ≢ none) where
    is-offers : backs G far v d r ≡ offers
    unfolding backs
    is-offers = cond-false (eqb (G.seed v) d) offers (ne_eqb r none n)

    no-into : into G far v r ≡ false → false ≡ backs G far v d r
    no-into e = sym (is-offers ∙ and_left (eqb (G.offer r (far (G.to r))) d) (and_right (ltb r G.records) e))

    pub no_record : G.records ≤ r → false ≡ backs G far v d r
    no_record h = sym (is-offers ∙ and_left (eqb (G.offer r (far (G.to r))) d) (and_left (into G far v r) (le-ltb r G.records h)))

    pub to-unlisted : none ≤ far (G.to r) → false ≡ backs G far v d r
    unfolding into
    to-unlisted h = no-into (and_right (eqb (G.from r) v) (not_within far (G.to r) h))

    pub from-elsewhere : G.from r ≢ v → false ≡ backs G far v d r
    unfolding into
    from-elsewhere h = no-into (and_left (within far (G.to r)) (ne_eqb (G.from r) v h))

    pub by-record : r < G.records → G.from r ≡ v → far (G.to r) < none → (x : ℕ) → x ≡ G.offer r (far (G.to r)) → eqb x d ≡ backs G far v d r
    by-record l f h x q =
        ap (λ (y : ℕ). eqb y d) q
        ∙ sym (is-offers ∙ ap (λ (b : Bool). b && eqb (G.offer r (far (G.to r))) d) (and-true (lt-ltb r G.records l) (is-into G far v r f h)))

-- two networks and two figures that agree at the record that is named
pub backs-same : (G H : Network) (f g : ℕ → ℕ) (v d r : ℕ) → G.seed v ≡ H.seed v → G.records ≡ H.records
    → (r < G.records → (G.from r ≡ H.from r) × (f (G.to r) ≡ g (H.to r)) × (G.offer r (f (G.to r)) ≡ H.offer r (g (H.to r))))
    → backs G f v d r ≡ backs H g v d r
unfolding backs into within
backs-same G H f g v d r s n e =
    ap₂ (λ (x : ℕ) (b : Bool). cond (eqb r none) (eqb x d) b) s
    (⊎_elim
    (λ (t : ltb r G.records ≡ true).
    let q = e (ltb-true r G.records t) in
    ap₂ (λ (a b : Bool). a && b)
    (ap₂ (λ (a b : Bool). a && b) (ap (λ (m : ℕ). ltb r m) n) (ap₂ (λ (x y : ℕ). eqb x v && ltb y none) q.0 q.1))
    (ap (λ (x : ℕ). eqb x d) q.2))
    (λ (t : ltb r G.records ≡ false).
    and_left (eqb (G.offer r (f (G.to r))) d) (and_left (eqb (G.from r) v && ltb (f (G.to r)) none) t)
    ∙ sym (and_left (eqb (H.offer r (g (H.to r))) d) (and_left (eqb (H.from r) v && ltb (g (H.to r)) none) (sym (ap (λ (m : ℕ). ltb r m) n) ∙ t))))
    (split (ltb r G.records)))

-- ---- 28
module _ (G : Network) (D : ℕ) (far : ℕ → ℕ) (r : ℕ) where
  pub fair-unlisted : none ≤ far (G.to r) → true ≡ fair_by G D far r
  unfolding fair_by
  fair-unlisted h = sym (or_left (no_better D (far (G.from r)) (G.offer r (far (G.to r)))) (ap not (not_within far (G.to r) h)))

  pub fair-listed : far (G.to r) < none → no_better D (far (G.from r)) (G.offer r (far (G.to r))) ≡ fair_by G D far r
  unfolding fair_by
  fair-listed h = sym (ap (λ (b : Bool). not b || no_better D (far (G.from r)) (G.offer r (far (G.to r)))) (is_within far (G.to r) h))

-- two cases joined, where t decides which
pub either-case : (t a b : Bool) → ((t && a) || (not t && b)) ≡ cond t a b
either-case true true b = refl
either-case true false b = refl
either-case false a b = refl

pub fair-same : (G H : Network) (D : ℕ) (f g : ℕ → ℕ) (r : ℕ) → f (G.from r) ≡ g (H.from r) → f (G.to r) ≡ g (H.to r)
    → G.offer r (f (G.to r)) ≡ H.offer r (g (H.to r)) → fair_by G D f r ≡ fair_by H D g r
unfolding fair_by within
fair-same G H D f g r a b c =
    ap₂ (λ (x y : Bool). x || y) (ap (λ (x : ℕ). not (ltb x none)) b) (ap₂ (λ (x y : ℕ). no_better D x y) a c)

pub fair-is : (G : Network) (D : ℕ) (list : List ℕ) (r : ℕ) → fair_by G D (far_listed list) r ≡ record_fair G list D r
unfolding fair_by record_fair
fair-is G D list r = refl

-- ---- as the code has them
module _ (w h : List ℕ) (a : Arriving) where
  -- a row stays sound with another distance at its far end
  pub sound-farther : row.Sound w h a → (d : ℕ) → d ≤ 8640000 → (x : Arriving) → x ≡ farther a d → (r : ℕ) → r < passes a → row.Sound w h x × (r < passes x)
  sound-farther s d l x e r k =
      subst (λ (y : Arriving). row.Sound w h y × (r < passes y)) (sym e) (
        record {
          counted = record { walks = s.counted.walks; hops = s.counted.hops; fits = s.counted.fits };
          times = s.times;
          distance = l;
          arrival = s.arrival;
          speed = s.speed;
          allowed = s.allowed;
        },
        k,
      )

  pub offered-farther : (e : Seeds) (d : ℕ) (x : Arriving) → x ≡ farther a d → (r : ℕ) → offer_of w h x r ≡ (net_of 65536 w h a e).offer r d
  unfolding record_of
  offered-farther e d x q r = ap (λ (y : Arriving). offer_of w h y r) q

  -- how many vertices there are is not asked by a reason
  pub backs-any : (e : Seeds) (n : ℕ) (far : ℕ → ℕ) (v d r : ℕ) → backs (net_of 65536 w h a e) far v d r ≡ backs (net_of n w h a e) far v d r
  backs-any e n far v d r = backs-same (net_of 65536 w h a e) (net_of n w h a e) far far v d r refl refl (λ l. (refl, refl, refl))

  module _ (e : Seeds) (led : Led w h a) (list far : List ℕ) (n : ℕ) where
    -- entry i is judged by the array that lists the entries before it
    pub backed-by : (i : ℕ) → Gives far (far_before list i) → (v d r : ℕ) → v ≡ vertex_in 12 list i → d ≡ distance_at 12 list i → r ≡ record_in list i
        → backs (net_of n w h a e) (heard far) v d r ≡ backed (net_of n w h a e) list i
    unfolding backed
    backed-by i g v d r p q o =
        let G = net_of n w h a e in
        backs-same G G (heard far) (far_before list i) v d r refl refl (λ l. let s = g (G.to r) (led r l).1 in (refl, s, ap (G.offer r) s))
        ∙ ap (λ (x : ℕ). backs G (far_before list i) x d r) p
        ∙ ap (λ (x : ℕ). backs G (far_before list i) (vertex_in 12 list i) x r) q
        ∙ ap (backs G (far_before list i) (vertex_in 12 list i) (distance_at 12 list i)) o

    -- and a record by the array that lists them all
    pub fair-by : (D : ℕ) → Gives far (far_listed list) → (r : ℕ) → r < passes a → fair_by (net_of 65536 w h a e) D (heard far) r ≡ record_fair (net_of n w h a e) list D r
    fair-by D g r l =
        let G = net_of 65536 w h a e in
        let H = net_of n w h a e in
        let s = g (G.to r) (led r l).1 in
        fair-same G H D (heard far) (far_listed list) r (g (G.from r) (led r l).0) s (ap (G.offer r) s) ∙ fair-is H D list r
