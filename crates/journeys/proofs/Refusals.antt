-- Refusals: the first reason in the fixed order, no other, and none without a reason. Assumes nothing.
use mathlib.Core.Path.{◌≡◌, refl, sym, ap, subst, ◌∙◌}
use mathlib.Core.Logic.{◌⊎◌, inl, inr, ⊎_elim, ◌↔◌, ◌≢◌}
use mathlib.Core.Bool.{Bool, true, false}
use mathlib.Core.List.{List, [], ◌∷◌}
use Prim.Native.Nat.{ℕ, zero, suc, ◌+◌, ◌/◌, ◌≤◌, ◌<◌}
use native.Mathlib.Omega.{arith}
use lib.Dec.{eqb, leb}
use lib.ListN.{length, take}
use borrow.Author.Tests.{eqb-true, eqb-false, eq-eqb, ne_eqb, leb-true, le-leb}
use Rattle.journeys.specs.Counting.{In}
use Rattle.journeys.specs.Query.{Query}
use Rattle.journeys.specs.Order.{Settled}
use Rattle.journeys.specs.Refusals.{Refusal, fine, unless, or_else, chain, first_from, first_bad}
use Rattle.journeys.specs.Network.{Network}
use Rattle.journeys.specs.Records.{network}
use Rattle.journeys.specs.RunAnswers.{held_for, RoomFor, room_for, room_up_to_for}
use Rattle.journeys.specs.Answers.{Lent, tables, room_at, room_up_to, Room}
use Rattle.journeys.proofs.Tests.{split, cond-true, cond-false, same-or-below}

pub or-fine : (a b : Refusal) → (or_else a b).number ≡ 0 → (a.number ≡ 0) × (b.number ≡ 0)
unfolding or_else
or-fine a b e = go (split (eqb a.number 0))
  where
    go : (eqb a.number 0 ≡ true) ⊎ (eqb a.number 0 ≡ false) → (a.number ≡ 0) × (b.number ≡ 0)
    go (inl t) = (eqb-true a.number 0 t, ap (λ (r : Refusal). r.number) (sym (cond-true b a t)) ∙ e)
    go (inr t) = absurd (eqb-false a.number 0 t (ap (λ (r : Refusal). r.number) (sym (cond-false b a t)) ∙ e))

pub unless-fine : (good : Bool) (number place : ℕ) → 0 < number → (unless good number place).number ≡ 0 → good ≡ true
unfolding unless
unless-fine true n p l e = refl
unless-fine false n p l e = absurd (omega arith)

pub from-fine : (f : ℕ → Refusal) (n i : ℕ) → (first_from f n i).number ≡ 0 → (k : ℕ) → i ≤ k → k < i + n → (f k).number ≡ 0
unfolding first_from
from-fine f zero i e k a b = absurd (omega arith)
from-fine f (suc n) i e k a b =
    let p = or-fine (f i) (first_from f n (i + 1)) e in
    ⊎_elim (λ (q : i ≡ k). subst (λ (j : ℕ). (f j).number ≡ 0) q p.0) (λ (q : i < k). from-fine f n (i + 1) p.1 k (omega arith) (omega arith)) (same-or-below a)

pub bad-fine : (number : ℕ) (good : ℕ → Bool) (n : ℕ) → 0 < number → (first_bad number good n).number ≡ 0 → (i : ℕ) → i < n → good i ≡ true
unfolding first_bad
bad-fine number good n l e i h = unless-fine (good i) number i l (from-fine (λ i. unless (good i) number i) n 0 e i (omega arith) (omega arith))

-- ---- the other way round
pub or-first : (a b : Refusal) → a.number ≢ 0 → or_else a b ≡ a
unfolding or_else
or-first a b n = cond-false b a (ne_eqb a.number 0 n)

pub or-next : (a b : Refusal) → a.number ≡ 0 → or_else a b ≡ b
unfolding or_else
or-next a b e = cond-true b a (eq-eqb a.number 0 e)

-- ---- a chain: its first link decides where it refuses, else the others do; and it is fine where every link is
pub chain_first : (a : Refusal) (l : List Refusal) → a.number ≢ 0 → chain (a ∷ l) ≡ a
chain_first a [] n = refl
chain_first a (b ∷ l) n = or-first a (chain (b ∷ l)) n

pub chain_next : (a b : Refusal) (l : List Refusal) → a.number ≡ 0 → chain (a ∷ b ∷ l) ≡ chain (b ∷ l)
chain_next a b l e = or-next a (chain (b ∷ l)) e

pub chain-fine : (l : List Refusal) → (chain l).number ≡ 0 → (a : Refusal) → In a l → a.number ≡ 0
chain-fine [] e a i = absurd i
chain-fine (b ∷ []) e a (inl q) = ap (λ (r : Refusal). r.number) q ∙ e
chain-fine (b ∷ c ∷ l) e a (inl q) = ap (λ (r : Refusal). r.number) q ∙ (or-fine b (chain (c ∷ l)) e).0
chain-fine (b ∷ c ∷ l) e a (inr i) = chain-fine (c ∷ l) (or-fine b (chain (c ∷ l)) e).1 a i
chain-fine (b ∷ []) e a (inr i) = elim i [ ]

pub chain-none : (l : List Refusal) → ((a : Refusal) → In a l → a.number ≡ 0) → (chain l).number ≡ 0
chain-none [] h = refl
chain-none (a ∷ []) h = h a (inl refl)
chain-none (a ∷ b ∷ l) h = ap (λ (r : Refusal). r.number) (chain_next a b l (h a (inl refl))) ∙ chain-none (b ∷ l) (λ c i. h c (inr i))

-- Nothing is refused where each place is fine.
pub from-none : (f : ℕ → Refusal) (n i : ℕ) → ((k : ℕ) → i ≤ k → k < i + n → (f k).number ≡ 0) → first_from f n i ≡ fine
unfolding first_from
from-none f zero i h = refl
from-none f (suc n) i h = or-next (f i) _ (h i (omega arith) (omega arith)) ∙ from-none f n (i + 1) (λ k a b. h k (omega arith) (omega arith))

-- The lowest place that is not fine decides.
pub from_first : (f : ℕ → Refusal) (n i k : ℕ) → i ≤ k → k < i + n → (f k).number ≢ 0 → ((j : ℕ) → i ≤ j → j < k → (f j).number ≡ 0) → first_from f n i ≡ f k
unfolding first_from
from_first f zero i k a b n h = absurd (omega arith)
from_first f (suc m) i k a b n h =
    ⊎_elim (λ (q : i ≡ k). subst (λ (j : ℕ). or_else (f i) (first_from f m (i + 1)) ≡ f j) q (or-first (f i) _ (subst (λ (j : ℕ). (f j).number ≢ 0) (sym q) n)))
    (λ (q : i < k). or-next (f i) _ (h i (omega arith) q) ∙ from_first f m (i + 1) k (omega arith) (omega arith) n (λ j c d. h j (omega arith) d))
    (same-or-below a)

pub unless-good : (good : Bool) (number place : ℕ) → good ≡ true → unless good number place ≡ fine
unfolding unless
unless-good good number place e = cond-true fine _ e

pub unless-bad : (good : Bool) (number place : ℕ) → good ≡ false → unless good number place ≡ record { number = number; place = place }
unfolding unless
unless-bad good number place e = cond-false fine _ e

-- No record is refused where all are good; else the lowest that is not, with its number.
pub bad-none : (number : ℕ) (good : ℕ → Bool) (n : ℕ) → ((i : ℕ) → i < n → good i ≡ true) → first_bad number good n ≡ fine
unfolding first_bad
bad-none number good n h =
    from-none (λ i. unless (good i) number i) n 0 (λ k a b. ap (λ (r : Refusal). r.number) (unless-good (good k) number k (h k (omega arith))))

pub bad-first : (number : ℕ) (good : ℕ → Bool) (n i : ℕ) → 0 < number → i < n → good i ≡ false → ((j : ℕ) → j < i → good j ≡ true)
    → first_bad number good n ≡ record { number = number; place = i }
unfolding first_bad
bad-first number good n i l h e before =
    let q = unless-bad (good i) number i e in
    let some : (unless (good i) number i).number ≢ 0 = λ z. omega (arith, ap (λ (r : Refusal). r.number) q) in
    from_first (λ i. unless (good i) number i) n 0 i (omega arith) (omega arith) some
    (λ j a b. ap (λ (r : Refusal). r.number) (unless-good (good j) number j (before j b))) ∙ q

-- ---- room, over any network
module _ (G : Network) (held settled : List ℕ) (l : List Settled) where
  pub room_for-is : (k : ℕ) → ((room_for G held settled l k).number ≡ 0) ↔ RoomFor G held settled l k
  unfolding room_for
  room_for-is k = (there, back)
    where
      table : Bool
      table = leb (length (held_for G l k)) (length held / 16)

      listed : Bool
      listed = leb (length (take k l)) (length settled / 8)

      there : (or_else (unless table 8 k) (unless listed 9 k)).number ≡ 0 → RoomFor G held settled l k
      there e =
          let x = or-fine (unless table 8 k) _ e in
          (leb-true _ _ (unless-fine table 8 k (omega arith) x.0), leb-true _ _ (unless-fine listed 9 k (omega arith) x.1))

      back : RoomFor G held settled l k → (or_else (unless table 8 k) (unless listed 9 k)).number ≡ 0
      back r =
          let p = unless-good table 8 k (le-leb _ _ r.0) in
          let q = unless-good listed 9 k (le-leb _ _ r.1) in
          ap (λ (z : Refusal). z.number) (or-next (unless table 8 k) _ (ap (λ (z : Refusal). z.number) p) ∙ q)

  -- Room is refused exactly when a table or list would be larger than lent after one of the steps made.
  pub room_for-exactly : (k : ℕ) → ((room_up_to_for G held settled l k).number ≡ 0) ↔ ((j : ℕ) → j ≤ k → RoomFor G held settled l j)
  unfolding room_up_to_for
  room_for-exactly k = (
    λ e j h. (room_for-is j).0 (from-fine (room_for G held settled l) (k + 1) 0 e j (omega arith) (omega arith)),
    λ h. ap (λ (z : Refusal). z.number) (from-none (room_for G held settled l) (k + 1) 0 (λ j a c. (room_for-is j).1 (h j (omega arith)))),
  )

  -- And then the earliest such step gives the refusal.
  pub room_for-first : (k j : ℕ) → j ≤ k → (RoomFor G held settled l j → ⊥) → ((i : ℕ) → i < j → RoomFor G held settled l i) → room_up_to_for G held settled l k ≡ room_for G held settled l j
  unfolding room_up_to_for
  room_for-first k j h n before = from_first (room_for G held settled l) (k + 1) 0 j (omega arith) (omega arith) (λ e. n ((room_for-is j).0 e)) (λ i a c. (room_for-is i).1 (before i c))

-- The same for the run over given tables.
module _ (b : Lent) (Q : Query) (l : List Settled) where
  pub room-is : (k : ℕ) → ((room_at b Q l k).number ≡ 0) ↔ Room b Q l k
  room-is = room_for-is (network (tables b) Q) b.held b.settled l

  pub room-exactly : (k : ℕ) → ((room_up_to b Q l k).number ≡ 0) ↔ ((j : ℕ) → j ≤ k → Room b Q l j)
  room-exactly = room_for-exactly (network (tables b) Q) b.held b.settled l

  pub room-first : (k j : ℕ) → j ≤ k → (Room b Q l j → ⊥) → ((i : ℕ) → i < j → Room b Q l i) → room_up_to b Q l k ≡ room_at b Q l j
  room-first = room_for-first (network (tables b) Q) b.held b.settled l
