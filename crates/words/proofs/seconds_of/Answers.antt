-- `words::seconds_of` meets its contract: each arm's number is the reading of the bits that its test picks. Assumes nothing.
use native.Mathlib.Omega.{arith}
use Prim.Native.Nat.{◌-◌, ◌<◌}
use lib.IntN.{negsuc}
use mir.Syntax.{w32}
use mir.ValLaws.{to_z_pos, to_z-of_z}
use Rattle.words.proofs.Signed.{bits-low, bits-high, less}
use Rattle.words.proofs.seconds_of.Goals as goal

pub returns-then-bits-lt2147483648 : goal.returns-then-bits-lt2147483648
returns-then-bits-lt2147483648 c =
    let b = c.args.bits in
    let h : b < 2147483648 = omega arith in
    rw (to_z_pos w32 b h, bits-low b h)

pub returns-else-bits-lt2147483648 : goal.returns-else-bits-lt2147483648
returns-else-bits-lt2147483648 c =
    let b = c.args.bits in
    let n = 4294967295 - b in
    let h : n < 2147483648 = omega arith in
    rw (less n h, to_z-of_z w32 (negsuc n) (record { sfits = h }), bits-high b (omega arith) (omega arith))
