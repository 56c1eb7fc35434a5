-- What forgetting changes, beside a search that forgets nobody: at every limit the table is a part of that search's, and nothing else of the answer differs. Assumes nothing.
use mathlib.Core.Path.{◌≡◌, refl}
use mathlib.Core.Logic.{◌⊎◌, inl, inr, ⊎_elim}
use mathlib.Core.Bool.{Bool, true, false, not, cond, ◌&&◌, ◌||◌}
use mathlib.Core.List.{List, [], ◌∷◌, ◌++◌, flat_map}
use Prim.Native.Nat.{ℕ, zero, suc, ◌+◌, ◌/◌, ◌≤◌, ◌<◌}
use native.Mathlib.Omega.{arith}
use lib.Dec.{eqb, leb, ltb}
use lib.ListN.{length, take, length-append}
use Rattle.journeys.specs.Counting.{In, joined}
use Rattle.journeys.specs.Bytes.{filled}
use Rattle.journeys.specs.Query.{Query}
use Rattle.journeys.specs.Order.{Settled}
use Rattle.journeys.specs.Network.{Network, Held, distance_in, within, known, remaining, met, spent, held, row, entry, held_list, kept_list}
use Rattle.journeys.specs.Records.{network}
use Rattle.journeys.specs.Answers.{Lent, Answer, tables, held_bytes, settled_bytes, Room, accepted_after, accepted_for}
use Rattle.journeys.proofs.Counting.{in-joined, joined_in}

module _ (G : Network) (far : ℕ → ℕ) where
  -- what a search that forgets nobody holds of v
  unfoldable kept : ℕ → List Held
  kept v = cond (met G far v && not (within far v && eqb (remaining G far v) 0)) (row G far v ∷ []) []

  entry_kept : (v : ℕ) → (entry G far v ≡ []) ⊎ (entry G far v ≡ kept v)
  unfolding entry held kept
  entry_kept v = go (met G far v) (within far v) (eqb (remaining G far v) 0) (ltb G.allowed (known G far v)) (row G far v)
    where
      go : (m w z a : Bool) (x : Held)
          → (cond (m && not (z && (w || a))) (x ∷ []) [] ≡ []) ⊎ (cond (m && not (z && (w || a))) (x ∷ []) [] ≡ cond (m && not (w && z)) (x ∷ []) [])
      go false w z a x = inl refl
      go true true true a x = inl refl
      go true true false a x = inr refl
      go true false true true x = inl refl
      go true false true false x = inr refl
      go true false false a x = inr refl

  -- Whoever is held is held by a search that forgets nobody, with the same record.
  pub held-part : (x : Held) → In x (held_list G far) → In x (kept_list G far)
  unfolding held_list kept_list kept
  held-part x i =
      let y = joined_in (entry G far) G.vertices x i in
      in-joined kept G.vertices y.0 x y.1 (there y.0 y.2 (entry_kept y.0))
    where
      there : (v : ℕ) → In x (entry G far v) → (entry G far v ≡ []) ⊎ (entry G far v ≡ kept v) → In x (kept v)
      there v h (inl e) = absurd (let z : In x [] = rw e at h in z)
      there v h (inr e) = rw e at h

  shorter : (n : ℕ) → length (joined (entry G far) n) ≤ length (joined kept n)
  unfolding joined
  shorter zero = omega arith
  shorter (suc n) =
      omega (arith, shorter n, length-append (joined (entry G far) n) (entry G far n), length-append (joined kept n) (kept n), one (entry_kept n))
    where
      one : (entry G far n ≡ []) ⊎ (entry G far n ≡ kept n) → length (entry G far n) ≤ length (kept n)
      one (inl e) = rw e (omega arith)
      one (inr e) = rw e (omega arith)

  pub held-shorter : length (held_list G far) ≤ length (kept_list G far)
  unfolding held_list kept_list kept
  held-shorter = shorter G.vertices

module _ (b : Lent) (Q : Query) (l : List Settled) where
  -- its table after k steps
  abbrev pub kept_after : ℕ → List Held
  kept_after k = kept_list (network (tables b) Q) (distance_in (take k l))

  -- Room for its table is room for the smaller one: a run that it would not refuse is not refused.
  pub room-kept : (k : ℕ) → length (kept_after k) ≤ length b.held / 16 → length (take k l) ≤ length b.settled / 8 → Room b Q l k
  room-kept k h s = (omega (arith, held-shorter (network (tables b) Q) (distance_in (take k l)), h), s)

  -- what it answers after k steps, with room for all
  unfoldable pub keeping_after : ℕ → Answer
  keeping_after k =
      record {
        refusal = 0;
        place = 0;
        settled_count = length (take k l);
        held_count = length (kept_after k);
        finished = cond (leb (length l) k) 1 0;
        held = filled b.held (flat_map held_bytes (kept_after k));
        settled = filled b.settled (flat_map settled_bytes (take k l));
      }

  -- The settled list, its count and finished are the same with forgetting and without it; so are the parts, which are those of that list.
  pub forgetting-spares : (k : ℕ)
      → ((accepted_after b Q l k).settled_count ≡ (keeping_after k).settled_count)
      × ((accepted_after b Q l k).settled ≡ (keeping_after k).settled)
      × ((accepted_after b Q l k).finished ≡ (keeping_after k).finished)
  unfolding accepted_for keeping_after
  forgetting-spares k = (refl, refl, refl)
