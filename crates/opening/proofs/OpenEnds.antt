-- What `begin` has from its callees: the seeds, or no room for them. Assumes nothing.
use Rattle.std.specs.Prelude.{Option, Some, None, Result, Ok, Err}
use Rattle.std.specs.Bool.{then_some}
use Rattle.words.specs.declared.Reason.TheVariants.{HeldRoom}
use Rattle.words.specs.Refusal.{Refusal}
use Rattle.stepping.specs.declared.Progress.{Progress}
use mathlib.Core.Path.{◌≡◌, refl, sym, ap₂, subst, ◌∙◌}
use mathlib.Core.Logic.{◌≢◌}
use mathlib.Core.Bool.{Bool, true, false, cond}
use mathlib.Core.List.{List}
use Prim.Native.Nat.{ℕ, ◌+◌, ◌*◌, ◌/◌, ◌≤◌, ◌<◌}
use lib.ListN.{length}
use borrow.Author.Tests.{eq-eqb, ne_eqb, lt-ltb, le-ltb}
use Rattle.journeys.specs.Tables.{walk_at}
use Rattle.journeys.proofs.Tests.{never, cond-true, cond-false}
use Rattle.words.specs.declared.Ticks.{Ticks}
use Rattle.records.specs.Meaning.{walk_of}
use Rattle.records.specs.declared.Walk as read
use Rattle.worktable.specs.Map.{Map}
use Rattle.worktable.specs.declared.Table.{Table}
use Rattle.directed.specs.declared.Directed.{Directed}
use Rattle.parts.specs.declared.Road.{Road}
use Rattle.opening.specs.Seeds.{from_ticks_of, to_ticks_of, to_is_seed, wait_on, sent_ticks, from_is_seed, pair_of, pair_map, seed_count, SeededIs, OpenIs}
use Rattle.opening.specs.declared.Pair.{Pair}
use Rattle.opening.specs.declared.Seed.{Seed}

-- the seeds of the road as the code has them
pub as-pair : (v : List ℕ) (a : Directed) (held' : List ℕ) (capacity : ℕ) {p q : Pair} → p ≡ q → (r : Option Table)
    → SeededIs held' capacity (pair_map v a p) (seed_count p) r → SeededIs held' capacity (pair_map v a q) (seed_count q) r
as-pair v a held' capacity e r = subst (λ (z : Pair). SeededIs held' capacity (pair_map v a z) (seed_count z) r) e

-- the two directions of `pair_of`
module _ (w : List ℕ) (e : Road) (x : read.Walk) (same : x ≡ walk_of (walk_at w e.walk)) where
  pub courier-pair : (c : Bool) → c ≡ true → (near back : Ticks) (t : Bool) (o : Option Seed) → near.0 ≡ sent_ticks w e.speed e.back.0 e.walk → back.0 ≡ sent_ticks w e.speed e.near.0 e.twin → t ≡ from_is_seed e → o ≡ then_some t (record { vertex = x.from; away = back })
      → record { sure = record { vertex = x.to; away = near }; other = o } ≡ pair_of c w e
  unfolding pair_of
  courier-pair true q near back t o n k f g = rw (g, same, f) (ap₂ (λ (y z : ℕ). record { sure = record { vertex = (walk_at w e.walk).to; away = record { 0 = y } }; other = then_some (from_is_seed e) (record { vertex = (walk_at w e.walk).from; away = record { 0 = z } }) }) n k)
  courier-pair false q near back t o n k f g = never q refl

  pub ordinary-pair : (c : Bool) → c ≡ false → (near back : Ticks) (t : Bool) (o : Option Seed) → near.0 ≡ from_ticks_of e → back.0 ≡ to_ticks_of e → t ≡ to_is_seed e → o ≡ then_some t (record { vertex = x.to; away = back })
      → record { sure = record { vertex = x.from; away = near }; other = o } ≡ pair_of c w e
  unfolding pair_of
  ordinary-pair true q near back t o n k f g = never refl q
  ordinary-pair false q near back t o n k f g = rw (g, same, f) (ap₂ (λ (y z : ℕ). record { sure = record { vertex = (walk_at w e.walk).from; away = record { 0 = y } }; other = then_some (to_is_seed e) (record { vertex = (walk_at w e.walk).to; away = record { 0 = z } }) }) n k)

-- the wait and the ticks of the courier
pub wait-there : (w : List ℕ) (speed i : ℕ) (r : ℕ) → i < length w / 16 → r ≡ (walk_at w i).wait * speed → r ≡ wait_on w speed i
unfolding wait_on
wait-there w speed i r l e = e ∙ sym (cond-true _ 0 (lt-ltb i (length w / 16) l))

pub no-wait : (w : List ℕ) (speed i : ℕ) → length w / 16 ≤ i → 0 ≡ wait_on w speed i
unfolding wait_on
no-wait w speed i l = sym (cond-false _ 0 (le-ltb i (length w / 16) l))

pub sent-none : (w : List ℕ) (speed left i : ℕ) → left ≡ 0 → 0 ≡ sent_ticks w speed left i
unfolding sent_ticks
sent-none w speed left i e = sym (cond-true 0 _ (eq-eqb left 0 e))

pub sent-some : (w : List ℕ) (speed left i : ℕ) → left ≢ 0 → left + wait_on w speed i ≡ sent_ticks w speed left i
unfolding sent_ticks
sent-some w speed left i n = sym (cond-false 0 _ (ne_eqb left 0 n))

module _ (capacity : ℕ) (m : Map) (seeds : ℕ) (held' : List ℕ) (r : Option Table) (s : SeededIs held' capacity m seeds r) where
  pub no-seeds : (y : Result Progress Refusal) → y ≡ Err (record { reason = HeldRoom; place = 0 }) → r ≡ None → OpenIs capacity m seeds held' y
  unfolding SeededIs OpenIs
  no-seeds y q e = rw q ((refl, subst (SeededIs held' capacity m seeds) e s), refl)

  pub opened : (t : Table) → r ≡ Some t → OpenIs capacity m seeds held' (Ok (record { table = t; settled = 0 }))
  unfolding SeededIs OpenIs
  opened t e =
      let h = subst (SeededIs held' capacity m seeds) e s in
      record { table = h.0; slots = h.1; fits = h.2; count = refl }
