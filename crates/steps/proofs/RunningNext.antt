-- One step from where the run stands: it stands one step further, or room is refused there. Assumes nothing.
use mathlib.Core.Path.{◌≡◌, sym, ap, subst, ◌∙◌}
use mathlib.Core.Logic.{inl, inr, ⊎_elim}
use mathlib.Core.Bool.{true, false}
use mathlib.Core.List.{List, [], ◌∷◌, ◌++◌, flat_map}
use Prim.Native.Nat.{ℕ, suc, ◌+◌, ◌*◌, ◌/◌, ◌≤◌, ◌<◌, min}
use native.Mathlib.Omega.{arith}
use lib.Dec.{leb}
use lib.ListN.{length, take, drop, length-append, length-take}
use lib.Seq.{take_at, length-take-le}
use borrow.Author.Tests.{le-leb, lt-leb}
use Rattle.journeys.specs.Order as order
use Rattle.journeys.specs.Order.{Settled, Order}
use Rattle.journeys.specs.Network.{Network, distance_in}
use Rattle.journeys.specs.Refusals.{Refusal}
use Rattle.journeys.specs.Answers.{settled_bytes}
use Rattle.journeys.specs.RunAnswers.{held_for, RoomFor, room_for}
use Rattle.journeys.proofs.Ways.{Ways}
use Rattle.journeys.proofs.Tests.{le-or-lt}
use Rattle.journeys.proofs.Counting.{flat-snoc}
use Rattle.journeys.proofs.Fits.{held-most}
use Rattle.words.specs.Written.{written}
use Rattle.words.proofs.Written.{length-written}
use Rattle.records.proofs.RecordBytes.{length-settled}
use Rattle.worktable.specs.Map.{Map, size, Foremost}
use Rattle.worktable.specs.Table.{map_of}
use Rattle.passing.specs.Row.{Row}
use Rattle.meeting.specs.Passing as passing
use Rattle.heldmap.specs.Model.{held_map, settled_now}
use Rattle.stepping.specs.Taken.{Steps, Lacks}
use Rattle.steps.specs.Running.{Running, Short}
use Rattle.stepping.specs.declared.Progress.{Progress}
use Rattle.heldmap.proofs.HeldMap.{size-held}
use Rattle.intake.proofs.FirstFault.{failed, passed, last-failed}
use Rattle.heldmap.proofs.RowOfNetwork.{IsRow}
use Rattle.heldmap.proofs.StepIsNext.{Searched, one_further, map_next}

-- what stands at the front when bytes are written behind it
front-next : (d p : List ℕ) (at n : ℕ) → at ≤ length d → at + length p ≡ n → take n (written d at p) ≡ take at d ++ p
unfolding written
front-next d p at n h e = take_at (take at d ++ p) (drop (at + length p) d) n (omega (arith, length-append (take at d) p, length-take-le at d h))

module _ (G : Network) (W : Ways) (distance : ℕ → ℕ → Type 0) (searched : Searched G W distance) (vertices_few : G.vertices ≤ 65536) {l : List Settled} (O : Order G distance G.allowed l)
    (held_lent settled_lent : List ℕ) (p : Progress) (held settled : List ℕ) (H : Running G held_lent settled_lent l p held settled) (x d : ℕ) (F : Foremost (map_of p.table held) x d) (near : d ≤ G.allowed)
    (R : Row) (n : ℕ) (I : IsRow G x d R n) where
  abbrev k : ℕ
  k = p.settled

  F' : Foremost (held_map G (distance_in (take k l))) x d
  F' = subst (λ (m : Map). Foremost m x d) H.table.map F

  further : (k < length l) × (take (suc k) l ≡ take k l ++ order.settled x d ∷ [])
  further = one_further G W distance searched O k H.made x d F' near

  -- the map that the step makes
  abbrev M : Map
  M = passing.passed R n (settled_now (map_of p.table held) x)

  M-is : M ≡ held_map G (distance_in (take (suc k) l))
  M-is = ap (λ (m : Map). passing.passed R n (settled_now m x)) H.table.map ∙ map_next G W distance searched O k H.made x d F' near R n I

  size-M : size M ≡ length (held_for G l (suc k))
  size-M = ap size M-is ∙ size-held G (distance_in (take (suc k) l)) searched.bounded vertices_few

  -- what the step writes
  abbrev entry : List ℕ
  entry = settled_bytes (order.settled x d)

  listed_next : flat_map settled_bytes (take (suc k) l) ≡ flat_map settled_bytes (take k l) ++ entry
  listed_next = ap (flat_map settled_bytes) further.1 ∙ flat-snoc settled_bytes (take k l) (order.settled x d)

  next-long : length (take (suc k) l) ≡ suc k
  next-long = omega (arith, length-take (suc k) l, further.0)

  module _ (held' settled' : List ℕ) where
    -- There is room: the run stands one step further.
    module _ (q : Progress) (T : Steps p M x d held' settled settled' q) where
      room_next : RoomFor G held_lent settled_lent l (suc k)
      room_next = (omega (arith, size-M, T.fits, H.slots), omega (arith, next-long, T.room, H.long))

      long-next : length settled' ≡ length settled_lent
      long-next = ap length T.listed ∙ length-written settled (8 * k) entry (omega (arith, length-settled (order.settled x d), T.room)) ∙ H.long

      front : take (8 * suc k) settled' ≡ flat_map settled_bytes (take (suc k) l)
      front =
          ap (take (8 * suc k)) T.listed
          ∙ front-next settled entry (8 * k) (8 * suc k) (omega (arith, T.room)) (omega (arith, length-settled (order.settled x d)))
          ∙ ap (λ (z : List ℕ). z ++ entry) H.listed
          ∙ sym listed_next

      pub onward : Running G held_lent settled_lent l q held' settled'
      onward =
          let e : suc k ≡ q.settled = omega (arith, T.count) in
          record {
            made = omega (arith, further.0);
            table = record { order = T.table.holds.order; map = T.table.holds.map ∙ M-is ∙ ap (λ (n : ℕ). held_map G (distance_in (take n l))) e };
            slots = T.table.room ∙ H.slots;
            long = long-next;
            listed = subst (λ (n : ℕ). take (8 * n) settled' ≡ flat_map settled_bytes (take n l)) e front;
            room = λ j h. ⊎_elim (λ (o : j ≤ k). H.room j o) (λ (o : k < j). subst (RoomFor G held_lent settled_lent l) (let z : suc k ≡ j = omega arith in z) room_next) (le-or-lt j k);
          }

    few : size M ≤ min G.vertices 65536
    few = omega (arith, size-M, held-most G (distance_in (take (suc k) l)), vertices_few)

    abbrev at : ℕ → Refusal
    at n = record { number = n; place = suc k }

    held-over : p.table.room < size M → leb (length (held_for G l (suc k))) (length held_lent / 16) ≡ false
    held-over h = lt-leb (length (held_for G l (suc k))) (length held_lent / 16) (omega (arith, size-M, H.slots, few))

    held_fits : size M ≤ p.table.room → leb (length (held_for G l (suc k))) (length held_lent / 16) ≡ true
    held_fits h = le-leb (length (held_for G l (suc k))) (length held_lent / 16) (omega (arith, size-M, H.slots))

    -- the number is that of the first of the two that lacks room
    refused : (n : ℕ) → Lacks p M settled n → room_for G held_lent settled_lent l (suc k) ≡ at n
    unfolding room_for
    refused n (inl a) = failed _ 8 (suc k) _ (omega arith) (held-over a.1) ∙ ap at (sym a.0)
    refused n (inr a) =
        passed _ 8 (suc k) _ (held_fits a.1)
        ∙ last-failed _ 9 (suc k) (lt-leb (length (take (suc k) l)) (length settled_lent / 8) (omega (arith, next-long, H.long, a.2)))
        ∙ ap at (sym a.0)

    some : (n : ℕ) → Lacks p M settled n → 0 < n
    some n (inl a) = omega (arith, a.0)
    some n (inr a) = omega (arith, a.0)

    -- There is none: the refusal of this step.
    pub onward-short : (limit n : ℕ) → k < limit → Lacks p M settled n → Short G held_lent settled_lent l limit n (suc k)
    onward-short limit n below L = record { made = omega (arith, further.0); refusal = refused n L; some = some n L; before = λ j h. H.room j (omega arith) }
