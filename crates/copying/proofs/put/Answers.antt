-- `copying::put` meets its contract: the part of the buffer is the bytes. Assumes nothing.
use Rattle.std.proofs.Common.{length, refl, arith, ◌+◌, ◌-◌}
use Rattle.std.proofs.lemmas.Slice.{put_mid-paste}
use Rattle.copying.proofs.Copied.{all-bytes}
use Rattle.copying.proofs.put.Goals as goal

pub returns : goal.returns
returns c =
    let a = c.args in
    let s = a.bytes.now in
    all-bytes a.out.now a.at s _ (length s) refl
    (put_mid-paste a.at (a.at + length s - a.at) a.out.now c.copy_from_slice.new.self s (length s) c.copy_from_slice.ensures.after (omega arith) refl)
