-- Which numbers a refusal that stands before the room can have. Assumes nothing.
use mathlib.Core.Path.{◌≡◌, refl}
use mathlib.Core.Logic.{◌⊎◌, inl, inr}
use mathlib.Core.Bool.{Bool, true, false, cond}
use mathlib.Core.List.{List}
use Prim.Native.Nat.{ℕ, zero, suc, ◌+◌, ◌≤◌}
use native.Mathlib.Omega.{arith}
use lib.Dec.{eqb}
use Rattle.journeys.specs.Tables.{Tables}
use Rattle.journeys.specs.Query.{Query}
use Rattle.journeys.specs.Lists.{list_refusal}
use Rattle.journeys.specs.Refusals.{Refusal, unless, or_else, first_from, first_bad, table_lengths, contents, query_refusal}
use Rattle.journeys.specs.PartAnswers.{PartsLent, parts_tables, list_lengths, parts_early}
use Rattle.journeys.specs.CourierList as courier
use Rattle.journeys.specs.CourierPartAnswers.{CourierPartsLent, courier_parts_early}

-- whatever holds of 0, of no refusal, and of the number of each reason
module _ (P : ℕ → Type 0) (none : P 0) where
  unless-has : (good : Bool) (number place : ℕ) → P number → P (unless good number place).number
  unfolding unless
  unless-has true number place h = none
  unless-has false number place h = h

  or-has : (a b : Refusal) → P a.number → P b.number → P (or_else a b).number
  unfolding or_else
  or-has a b x y = go (eqb a.number 0)
    where
      go : (t : Bool) → P (cond t b a).number
      go true = y
      go false = x

  from-has : (f : ℕ → Refusal) → ((i : ℕ) → P (f i).number) → (n i : ℕ) → P (first_from f n i).number
  unfolding first_from
  from-has f h zero i = none
  from-has f h (suc n) i = or-has (f i) (first_from f n (i + 1)) (h i) (from-has f h n (i + 1))

  bad-has : (number : ℕ) (good : ℕ → Bool) (n : ℕ) → P number → P (first_bad number good n).number
  unfolding first_bad
  bad-has number good n h = from-has _ (λ i. unless-has (good i) number i h) n 0

  -- of the tables' lengths, of their contents and of the query, where it holds of 1 to 7
  module _ (low : (n : ℕ) → n ≤ 7 → P n) where
    one : P 1
    one = low 1 (omega arith)

    seven : P 7
    seven = low 7 (omega arith)

    lengths-has : (size : ℕ) (v w h : List ℕ) → P (table_lengths size v w h).number
    unfolding table_lengths
    lengths-has size v w h = or-has _ _ (unless-has _ 1 0 one) (or-has _ _ (unless-has _ 1 1 one) (unless-has _ 1 2 one))

    buffers-has : (list parts : List ℕ) → P (list_lengths list parts).number
    unfolding list_lengths
    buffers-has list parts = or-has _ _ (unless-has _ 1 4 one) (unless-has _ 1 5 one)

    contents-has : (N : Tables) → P (contents N).number
    unfolding contents
    contents-has N =
        or-has _ _ (bad-has 2 _ _ (low 2 (omega arith))) (or-has _ _ (bad-has 3 _ _ (low 3 (omega arith))) (or-has _ _ (bad-has 4 _ _ (low 4 (omega arith))) (or-has _ _ (bad-has 5 _ _ (low 5 (omega arith))) (bad-has 6 _ _ (low 6 (omega arith))))))

    query-has : (N : Tables) (Q : Query) → P (query_refusal N Q).number
    unfolding query_refusal
    query-has N Q = or-has _ _ (unless-has _ 7 0 seven) (or-has _ _ (unless-has _ 7 1 seven) (or-has _ _ (unless-has _ 7 2 seven) (or-has _ _ (unless-has _ 7 3 seven) (unless-has _ 7 4 seven))))

    early-has : (b : PartsLent) (Q : Query) → P 21 → P (parts_early b Q).number
    unfolding parts_early list_refusal
    early-has b Q list =
        or-has _ _ (lengths-has b.hop_size b.vertices b.walks b.hops)
        (or-has _ _ (buffers-has b.list b.parts)
        (or-has _ _ (contents-has (parts_tables b)) (or-has _ _ (query-has (parts_tables b) Q) (bad-has 21 _ _ list))))

    courier-has : (b : CourierPartsLent) (Q : Query) → P 21 → P 22 → P (courier_parts_early b Q).number
    unfolding courier_parts_early list_refusal courier.list_length courier.list_refusal
    courier-has b Q list records =
        or-has _ _ (lengths-has b.lent.hop_size b.lent.vertices b.lent.walks b.lent.hops)
        (or-has _ _ (buffers-has b.lent.list b.lent.parts)
        (or-has _ _ (unless-has _ 1 6 one)
        (or-has _ _ (contents-has (parts_tables b.lent))
        (or-has _ _ (bad-has 22 _ _ records) (or-has _ _ (query-has (parts_tables b.lent) Q) (bad-has 21 _ _ list))))))

-- Before the room there are refusals 1 to 7 and 21 alone.
pub early-numbers : (b : PartsLent) (Q : Query) → ((parts_early b Q).number ≤ 7) ⊎ ((parts_early b Q).number ≡ 21)
early-numbers b Q = early-has (λ n. (n ≤ 7) ⊎ (n ≡ 21)) (inl (omega arith)) (λ n h. inl h) b Q (inr refl)

-- For the courier there is 22 too.
pub courier-numbers : (b : CourierPartsLent) (Q : Query) → ((courier_parts_early b Q).number ≤ 7) ⊎ ((courier_parts_early b Q).number ≡ 21) ⊎ ((courier_parts_early b Q).number ≡ 22)
courier-numbers b Q = courier-has (λ n. (n ≤ 7) ⊎ (n ≡ 21) ⊎ (n ≡ 22)) (inl (omega arith)) (λ n h. inl h) b Q (inr (inl refl)) (inr (inr refl))
