use mathlib.Core.Path.{◌≡◌, ◌∙◌}
use Prim.Native.Nat.{◌/◌}
use native.Mathlib.Omega.{arith}
use Rattle.table_bytes.specs.Columns.{enc}
use Rattle.table_bytes.proofs.write4.Goals as goal

pub returns : goal.returns
unfolding enc
returns c =
    let x = c.args.x in
    let two : x / 65536 ≡ x / 256 / 256 = omega arith in
    let three : x / 16777216 ≡ x / 256 / 256 / 256 = omega arith in
    c.copy_from_slice.ensures.after ∙ c.to_le_bytes.ensures ∙ cc
