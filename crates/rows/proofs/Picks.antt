-- Places of columns, gathered field by field. Assumes nothing.
use Prim.Native.Nat.{ℕ, ◌+◌, ◌<◌}
use native.Mathlib.Omega.{arith}
use native.Mathlib.Decide.{ℕ_discrete}
use mathlib.Core.Path.{◌≡◌, refl, sym, ap, ◌∙◌}
use mathlib.Core.Bool.{Bool, true, false, cond, ◌&&◌}
use mathlib.Core.List.{List}
use lib.Dec.{eqb}
use lib.ListN.{length}
use borrow.Author.Tests.{eq-eqb, ne_eqb}
use Rattle.journeys.proofs.Tests.{and_left, and_right, cond-true, cond-false}
use Rattle.feed.specs.Fields.{row_of}
use Rattle.lines.specs.declared.Stand.TheVariants.{Begins}
use Rattle.lines.specs.Passing.{stand}
use Rattle.lines.specs.Onward.{onward}
use Rattle.lines.proofs.Onward.{stand-more}
use Rattle.std.specs.Prelude.{Some, None}
use Rattle.std.proofs.lemmas.Option.{cond_some}
use Rattle.rows.specs.declared.Places.{Places}
use Rattle.rows.specs.Placed.{place_in, place_of, places_of}

-- field k begins at a place: the next one, and what is picked for a column so far
module _ (s : List ℕ) (k at : ℕ) (b : stand s k 0 ≡ Begins at) where
  pub one_more : (next : ℕ) → stand s 1 at ≡ Begins next → stand s (k + 1) 0 ≡ Begins next
  one_more next e = sym (stand-more s k 1 0) ∙ ap (onward s 1) b ∙ e

  pub picked : {c old r : ℕ} → (c < k → old ≡ place_of s c) → r ≡ cond (eqb k c) at old → c < k + 1 → r ≡ place_of s c
  unfolding place_of
  picked {c} {old} {r} h e l = go (ℕ_discrete k c)
    where
      go : Dec (k ≡ c) → r ≡ place_in (stand s c 0)
      go (yes q) = e ∙ cond-true _ _ (eq-eqb k c q) ∙ sym (ap place_in (ap (λ n. stand s n 0) (sym q) ∙ b))
      go (no q) = e ∙ cond-false _ _ (ne_eqb k c q) ∙ h (omega (arith, l, q))

-- what is told at the line's end
module _ (n trip arrival departure stop sequence : ℕ) (s : List ℕ) where
  abbrev places : Places
  places = record { trip = place_of s trip; arrival = place_of s arrival; departure = place_of s departure; stop = place_of s stop; sequence = place_of s sequence }

  abbrev counted : Bool
  counted = (row_of s).sound && eqb (length (row_of s).fields) n

  broken : counted ≡ false → None ≡ places_of n trip arrival departure stop sequence s
  unfolding places_of
  broken e = sym (cond-false (Some places) None e)

  pub broken-nowhere : (row_of s).sound ≡ false → None ≡ places_of n trip arrival departure stop sequence s
  broken-nowhere e = broken (and_left (eqb (length (row_of s).fields) n) e)

  pub other-nowhere : (length (row_of s).fields ≡ n → ⊥) → None ≡ places_of n trip arrival departure stop sequence s
  other-nowhere e = broken (and_right (row_of s).sound (ne_eqb _ _ e))

  pub all_placed : {t a d p q : ℕ} → (row_of s).sound ≡ true → length (row_of s).fields ≡ n → t ≡ place_of s trip → a ≡ place_of s arrival → d ≡ place_of s departure → p ≡ place_of s stop
      → q ≡ place_of s sequence → Some (record { trip = t; arrival = a; departure = d; stop = p; sequence = q }) ≡ places_of n trip arrival departure stop sequence s
  unfolding places_of
  all_placed g e t a d p q = rw (g, eq-eqb _ _ e, t, a, d, p, q) refl

-- what places tell of their line
module _ (n trip arrival departure stop sequence : ℕ) (s : List ℕ) where
  pub nowhere-uncounted : None ≡ places_of n trip arrival departure stop sequence s → ((row_of s).sound && eqb (length (row_of s).fields) n) ≡ false
  unfolding places_of
  nowhere-uncounted e = told ((row_of s).sound && eqb (length (row_of s).fields) n) (sym e)
    where
      told : (b : Bool) → cond b (Some (places n trip arrival departure stop sequence s)) None ≡ None → b ≡ false
      told true p = cc
      told false p = refl

  module _ {r : Places} (e : Some r ≡ places_of n trip arrival departure stop sequence s) where
    pub fits-counted : ((row_of s).sound && eqb (length (row_of s).fields) n) ≡ true
    unfolding places_of
    fits-counted = (cond_some _ (places n trip arrival departure stop sequence s) r (sym e)).0

    placed : r ≡ places n trip arrival departure stop sequence s
    unfolding places_of
    placed = sym (cond_some ((row_of s).sound && eqb (length (row_of s).fields) n) _ r (sym e)).1

    pub trip-placed : r.trip ≡ place_of s trip
    trip-placed = ap (λ (x : Places). x.trip) placed

    pub arrival-placed : r.arrival ≡ place_of s arrival
    arrival-placed = ap (λ (x : Places). x.arrival) placed

    pub departure-placed : r.departure ≡ place_of s departure
    departure-placed = ap (λ (x : Places). x.departure) placed

    pub stop-placed : r.stop ≡ place_of s stop
    stop-placed = ap (λ (x : Places). x.stop) placed

    pub sequence-placed : r.sequence ≡ place_of s sequence
    sequence-placed = ap (λ (x : Places). x.sequence) placed
