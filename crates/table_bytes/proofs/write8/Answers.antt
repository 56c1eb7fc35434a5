use mathlib.Core.Path.{◌≡◌, ◌∙◌}
use Prim.Native.Nat.{◌/◌}
use native.Mathlib.Omega.{arith}
use Rattle.table_bytes.specs.Columns.{enc}
use Rattle.table_bytes.proofs.write8.Goals as goal

pub returns : goal.returns
unfolding enc
returns c =
    let x = c.args.w in
    let two : x / 65536 ≡ x / 256 / 256 = omega arith in
    let three : x / 16777216 ≡ x / 256 / 256 / 256 = omega arith in
    let four : x / 4294967296 ≡ x / 256 / 256 / 256 / 256 = omega arith in
    let five : x / 1099511627776 ≡ x / 256 / 256 / 256 / 256 / 256 = omega arith in
    let six : x / 281474976710656 ≡ x / 256 / 256 / 256 / 256 / 256 / 256 = omega arith in
    let seven : x / 72057594037927936 ≡ x / 256 / 256 / 256 / 256 / 256 / 256 / 256 = omega arith in
    c.copy_from_slice.ensures.after ∙ c.to_le_bytes.ensures ∙ cc
