-- `start`: a table without slots, whatever the bytes are.
use native.Mathlib.Omega.{arith}
use mathlib.Core.Path.{refl, ap, ◌∙◌}
use Prim.Native.Nat.{min, ◌/◌}
use lib.ListN.{length}
use Rattle.worktable.proofs.TableLaws.{start-holds}
use Rattle.worktable.proofs.start.Goals as goal

pub returns : goal.returns
returns c =
    let least = c.min.ensures in
    let room = c.min-room.ensures in (
      start-holds (record { len = omega (arith, c.requires); fits = omega arith; small = omega arith })
          (record { low = omega arith; fits = omega (arith, room); small = omega (arith, room, least); mask = λ h. omega (arith, c.mask_for.ensures h, room) }) refl refl,
      room ∙ ap (min (length c.args.b.now / 16)) least,
    )
