use mathlib.Core.Path.{◌≡◌, ◌∙◌}
use Prim.Native.Nat.{◌/◌, ◌%◌}
use native.Mathlib.Omega.{arith}
use Rattle.table_bytes.specs.Columns.{enc}
use Rattle.table_bytes.proofs.write2.Goals as goal

pub returns : goal.returns
unfolding enc
returns c =
    let x = c.args.x in
    let one : x % 65536 % 256 ≡ x % 256 = omega arith in
    let two : x % 65536 / 256 % 256 ≡ x / 256 % 256 = omega arith in
    c.copy_from_slice.ensures.after ∙ c.to_le_bytes.ensures ∙ cc
