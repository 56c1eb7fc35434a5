-- `listed`: the rest of the list and the scratch become zero. Assumes nothing.
use mathlib.Core.Path.{refl, ap, ◌∙◌}
use Prim.Native.Nat.{ℕ}
use Rattle.journeys.specs.Bytes.{cleared}
use Rattle.worktable.proofs.Ones.{as-one}
use Rattle.words.proofs.Rest.{rest-cleared}
use Rattle.riding.proofs.listed.Goals as goal

pub returns : goal.returns
unfolding cleared
returns c =
    record {
      answer = ap (λ (n : ℕ). record { refusal = 0; place = 0; settled = c.args.ridden.settled; parts = 0; held = 0; finished = n }) (c.from.ensures ∙ as-one c.args.ridden.finished);
      settled_is = rest-cleared _ _ _ _ c.requires.0 refl c.zero-2.ensures;
      scratch_is = c.zero.ensures;
    }
