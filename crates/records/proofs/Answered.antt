-- What the answer of a reader says of its record. Assumes nothing.
use mathlib.Core.Path.{◌≡◌, refl, sym, ap, ◌∙◌}
use mathlib.Core.Bool.{Bool, true, false, cond}
use mathlib.Core.List.{List}
use Prim.Native.Nat.{ℕ}
use Rattle.std.specs.Prelude.{Result, Ok, Err}
use lib.IntN.{ℤ}
use Rattle.journeys.specs.Tables.{Tables}
use Rattle.journeys.specs.Refusals.{Refusal, walk_ok, hop_ok, vertex_ok}
use Rattle.records.specs.declared.Vertex.{Vertex}
use Rattle.records.specs.declared.Walk.{Walk}
use Rattle.records.specs.declared.Hop.{Hop}
use Rattle.records.specs.Readings.{good, refused, told_vertex, told_walk, told_hop, vertex_reading, walk_reading, hop_reading}

by-good : (t : Bool) (l m : List ℤ) (r : Refusal) → good m ≡ cond t (good l) (refused r) → t ≡ true
by-good true l m r e = refl
by-good false l m r e = cc

by-refused : (t : Bool) (l : List ℤ) (q r : Refusal) → refused q ≡ cond t (good l) (refused r) → t ≡ false
by-refused true l q r e = cc
by-refused false l q r e = refl

module _ (N : Tables) (i : ℕ) where
  pub good-walk : {a : Result Walk ℕ} {w : Walk} → told_walk a ≡ walk_reading N i → a ≡ Ok w → walk_ok N i ≡ true
  unfolding told_walk walk_reading
  good-walk e g = by-good (walk_ok N i) _ _ _ (sym (ap told_walk g) ∙ e)

  pub bad-walk : {a : Result Walk ℕ} {p : ℕ} → told_walk a ≡ walk_reading N i → a ≡ Err p → walk_ok N i ≡ false
  unfolding told_walk walk_reading
  bad-walk e g = by-refused (walk_ok N i) _ _ _ (sym (ap told_walk g) ∙ e)

  pub good-hop : {a : Result Hop ℕ} {h : Hop} → told_hop a ≡ hop_reading N i → a ≡ Ok h → hop_ok N i ≡ true
  unfolding told_hop hop_reading
  good-hop e g = by-good (hop_ok N i) _ _ _ (sym (ap told_hop g) ∙ e)

  pub bad-hop : {a : Result Hop ℕ} {p : ℕ} → told_hop a ≡ hop_reading N i → a ≡ Err p → hop_ok N i ≡ false
  unfolding told_hop hop_reading
  bad-hop e g = by-refused (hop_ok N i) _ _ _ (sym (ap told_hop g) ∙ e)

  pub good-vertex : {a : Result Vertex ℕ} {x : Vertex} → told_vertex a ≡ vertex_reading N i → a ≡ Ok x → vertex_ok N i ≡ true
  unfolding told_vertex vertex_reading
  good-vertex e g = by-good (vertex_ok N i) _ _ _ (sym (ap told_vertex g) ∙ e)

  pub bad-vertex : {a : Result Vertex ℕ} {p : ℕ} → told_vertex a ≡ vertex_reading N i → a ≡ Err p → vertex_ok N i ≡ false
  unfolding told_vertex vertex_reading
  bad-vertex e g = by-refused (vertex_ok N i) _ _ _ (sym (ap told_vertex g) ∙ e)
