-- `job::asked_at` meets its contract: each field is the callee's word, and the arrival is read back from its bits. Assumes nothing.
use Prim.Native.Nat.{ℕ, ◌+◌, ◌*◌}
use mathlib.Core.Path.{◌≡◌, ap, ◌∙◌}
use Rattle.journeys.specs.Bytes.{be32, clock}
use Rattle.words.specs.declared.Seconds.{Seconds}
use Rattle.words.specs.Quantities.{seconds_of}
use Rattle.job.specs.Job.{seconds, question_at}
use Rattle.job.proofs.Seconds.{seconds-is}
use Rattle.job.proofs.asked_at.Goals as goal

pub returns : goal.returns
unfolding question_at
returns c =
    let s = c.args.s.now in
    let at = 20 * c.args.i in
    let bits = be32 s (at + 12) in
    let e : c.seconds_of.result ≡ seconds_of (clock bits) = c.seconds_of.ensures ∙ ap (λ (n : ℕ). seconds_of (clock n)) c.word_at-3.ensures in
    let a : c.seconds_of.result.0 ≡ seconds bits = ap (λ (t : Seconds). t.0) e ∙ seconds-is bits in
    cc
