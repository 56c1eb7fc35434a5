-- `moves::copy_hop` meets its contract: both records lie inside their tables. Assumes nothing.
use mathlib.Core.Path.{◌≡◌, ap, ap₂, ◌∙◌}
use Prim.Native.Nat.{ℕ, ◌+◌, ◌-◌, ◌*◌, ◌≤◌}
use lib.ListN.{length, take, drop, length-drop}
use lib.Seq.{length-take-le}
use native.Mathlib.Omega.{arith}
use Rattle.words.specs.Written.{written}
use Rattle.words.proofs.Written.{copied}
use Rattle.records.proofs.Sizes.{start_fits}
use Rattle.moves.specs.Moved.{common}
use Rattle.moves.proofs.copy_hop.Goals as goal
use Rattle.moves.proofs.copy_hop.Goals.{Start}

inside : (c : Start) → (c.args.from * c.args.i + c.args.from ≤ length c.args.source.now) × (c.args.to * c.args.i + c.args.to ≤ length c.args.target.now)
inside c = (
  start_fits c.args.from c.args.i (length c.args.source.now) (omega arith) c.requires.le_from.1,
  start_fits c.args.to c.args.i (length c.args.target.now) (omega arith) c.requires.le_to.1,
)

pub returns : goal.returns
unfolding common
returns c =
    let b = c.args.source.now in
    let t = c.args.target.now in
    let at = c.hop_start-at.result in
    let place = c.hop_start-place.result in
    let fits = inside (goal.at.returns c).Start in
    let sixteen : at + 16 - at ≡ 16 = omega arith in
    let taken : c.copy_from_slice.new.self ≡ take 16 (drop at b) = c.copy_from_slice.ensures.after ∙ ap (λ (k : ℕ). take k (drop at b)) sixteen in
    let long : length (take 16 (drop at b)) ≡ 16 = length-take-le 16 (drop at b) (simp length-drop (omega (arith, c.hop_start-at.ensures, c.requires.le_from, fits))) in
    let room : place + 16 - place ≡ length c.copy_from_slice.new.self = omega (arith, ap length taken, long) in
    copied t c.copy_from_slice.new.self place _ room
    ∙ ap₂ (written t) c.hop_start-place.ensures (taken ∙ ap (λ (p : ℕ). take 16 (drop p b)) c.hop_start-at.ensures)
