-- Any two answers that a contract allows are equal, and so are any two states of a buffer that was lent. Assumes nothing.
use mathlib.Core.Path.{◌≡◌, sym, ap, ◌∙◌}
use Prim.Native.Nat.{ℕ}
use Rattle.records.proofs.Told.{vertex-injective, walk-injective, hop-injective}
use Rattle.records.proofs.refusal.Reads as refusal
use Rattle.records.proofs.hop_start.Reads as hop-start
use Rattle.records.proofs.from_at.Reads as from_at
use Rattle.records.proofs.to_at.Reads as to_at
use Rattle.records.proofs.vertex_at.Reads as vertex-at
use Rattle.records.proofs.length_of.Reads as length-of
use Rattle.records.proofs.wait_of.Reads as wait-of
use Rattle.records.proofs.wait_ticks.Reads as wait-ticks
use Rattle.records.proofs.walk_ticks.Reads as walk-ticks
use Rattle.records.proofs.walk_at.Reads as walk_at
use Rattle.records.proofs.hop_at.Reads as hop-at
use Rattle.records.proofs.first_arriving.Reads as first-arriving
use Rattle.records.proofs.end_arriving.Reads as end-arriving
use Rattle.records.proofs.read_vertex.Reads as read-vertex
use Rattle.records.proofs.read_walk.Reads as read_Walk
use Rattle.records.proofs.read_hop.Reads as read-hop
use Rattle.records.proofs.arriving.Reads as arriving
use Rattle.records.proofs.put_settled.Reads as put-settled
use Rattle.records.proofs.put_part.Reads as put-part
use Rattle.records.proofs.add_settled.Reads as add-settled
use Rattle.records.proofs.add_part.Reads as add-part

-- ---- answers
pub one-refusal : (κs : _) (a : _) (z z' : _) (e e' : _) → refusal.Post κs a z e → refusal.Post κs a z' e' → z ≡ z'
one-refusal κs a z z' e e' p q = p ∙ sym q

pub one-hop-start : (κs : _) (a : _) (z z' : _) (e e' : _) → hop-start.Post κs a z e → hop-start.Post κs a z' e' → z ≡ z'
one-hop-start κs a z z' e e' p q = p ∙ sym q

pub one-from-at : (κs : _) (a : _) (z z' : _) (e e' : _) → from_at.Post κs a z e → from_at.Post κs a z' e' → z ≡ z'
one-from-at κs a z z' e e' p q = p ∙ sym q

pub one-to-at : (κs : _) (a : _) (z z' : _) (e e' : _) → to_at.Post κs a z e → to_at.Post κs a z' e' → z ≡ z'
one-to-at κs a z z' e e' p q = p ∙ sym q

pub one-vertex-at : (κs : _) (a : _) (z z' : _) (e e' : _) → vertex-at.Post κs a z e → vertex-at.Post κs a z' e' → z ≡ z'
one-vertex-at κs a z z' e e' p q = p ∙ sym q

pub one-length-of : (κs : _) (a : _) (z z' : _) (e e' : _) → length-of.Post κs a z e → length-of.Post κs a z' e' → z ≡ z'
one-length-of κs a z z' e e' p q = p ∙ sym q

pub one-wait-of : (κs : _) (a : _) (z z' : _) (e e' : _) → wait-of.Post κs a z e → wait-of.Post κs a z' e' → z ≡ z'
one-wait-of κs a z z' e e' p q = p ∙ sym q

pub one-wait-ticks : (κs : _) (a : _) (z z' : _) (e e' : _) → wait-ticks.Post κs a z e → wait-ticks.Post κs a z' e' → z ≡ z'
one-wait-ticks κs a z z' e e' p q = ap (λ (x : ℕ). record { 0 = x }) (p ∙ sym q)

pub one-walk-ticks : (κs : _) (a : _) (z z' : _) (e e' : _) → walk-ticks.Post κs a z e → walk-ticks.Post κs a z' e' → z ≡ z'
one-walk-ticks κs a z z' e e' p q = ap (λ (x : ℕ). record { 0 = x }) (p ∙ sym q)

pub one-walk-at : (κs : _) (a : _) (z z' : _) (e e' : _) → walk_at.Post κs a z e → walk_at.Post κs a z' e' → z ≡ z'
one-walk-at κs a z z' e e' p q = p ∙ sym q

pub one-hop-at : (κs : _) (a : _) (z z' : _) (e e' : _) → hop-at.Post κs a z e → hop-at.Post κs a z' e' → z ≡ z'
one-hop-at κs a z z' e e' p q = p ∙ sym q

pub one-first-arriving : (κs : _) (a : _) (z z' : _) (e e' : _) → first-arriving.Post κs a z e → first-arriving.Post κs a z' e' → z ≡ z'
one-first-arriving κs a z z' e e' p q = p ∙ sym q

pub one-end-arriving : (κs : _) (a : _) (z z' : _) (e e' : _) → end-arriving.Post κs a z e → end-arriving.Post κs a z' e' → z ≡ z'
one-end-arriving κs a z z' e e' p q = p ∙ sym q

pub one-read-vertex : (κs : _) (a : _) (z z' : _) (e e' : _) → read-vertex.Post κs a z e → read-vertex.Post κs a z' e' → z ≡ z'
one-read-vertex κs a z z' e e' p q = vertex-injective z z' (p ∙ sym q)

pub one-read-walk : (κs : _) (a : _) (z z' : _) (e e' : _) → read_Walk.Post κs a z e → read_Walk.Post κs a z' e' → z ≡ z'
one-read-walk κs a z z' e e' p q = walk-injective z z' (p ∙ sym q)

pub one-read-hop : (κs : _) (a : _) (z z' : _) (e e' : _) → read-hop.Post κs a z e → read-hop.Post κs a z' e' → z ≡ z'
one-read-hop κs a z z' e e' p q = hop-injective z z' (p ∙ sym q)

-- the bytes of the part that is answered
pub one-arriving : (κs : _) (a : _) (z z' : _) (e e' : _) → arriving.Post κs a z e → arriving.Post κs a z' e' → z.now ≡ z'.now
one-arriving κs a z z' e e' p q = p ∙ sym q

-- ---- buffers
pub one-put-settled : (κs : _) (a : _) (z z' : _) (e e' : _) → put-settled.Post κs a z e → put-settled.Post κs a z' e' → e.0.now ≡ e'.0.now
one-put-settled κs a z z' e e' p q = p ∙ sym q

pub one-put-part : (κs : _) (a : _) (z z' : _) (e e' : _) → put-part.Post κs a z e → put-part.Post κs a z' e' → e.0.now ≡ e'.0.now
one-put-part κs a z z' e e' p q = p ∙ sym q

pub one-add-settled : (κs : _) (a : _) (z z' : _) (e e' : _) → add-settled.Post κs a z e → add-settled.Post κs a z' e' → e.0.now ≡ e'.0.now
one-add-settled κs a z z' e e' p q = p ∙ sym q

pub one-add-part : (κs : _) (a : _) (z z' : _) (e e' : _) → add-part.Post κs a z e → add-part.Post κs a z' e' → e.0.now ≡ e'.0.now
one-add-part κs a z z' e e' p q = p ∙ sym q
