use mathlib.Core.Path.{refl, ap}
use Prim.Native.Nat.{ℕ}
use Rattle.words.proofs.Rest.{rest-cleared}
use Rattle.ending.proofs.conclude.Goals as goal

pub returns : goal.returns
returns c =
    record {
      answer = ap (λ (n : ℕ). record { refusal = 0; place = 0; settled = c.args.p.settled; parts = 0; held = n; finished = c.args.finished }) c.finish-entries.ensures.0;
      held_is = c.finish-entries.ensures.1;
      settled_is = rest-cleared _ _ _ _ c.requires.1 refl c.zero.ensures;
    }
