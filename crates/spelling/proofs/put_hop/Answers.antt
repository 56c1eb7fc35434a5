use Prim.Native.Nat.{ℕ, ◌+◌}
use mathlib.Core.Path.{ap, ◌∙◌}
use mathlib.Core.List.{List}
use Rattle.journeys.specs.Bytes.{word}
use Rattle.words.specs.Written.{written}
use Rattle.spelling.proofs.SpellLaws.{five-words}
use Rattle.spelling.proofs.put_hop.Goals as goal

pub returns : goal.returns
returns c =
    let a = c.args in
    let p = a.place in
    c.put_word-5.ensures
    ∙ ap (λ (l : List ℕ). written l (p + 16) (word a.trip)) (c.put_word-4.ensures
    ∙ ap (λ (l : List ℕ). written l (p + 12) (word a.reached)) (c.put_word-3.ensures
    ∙ ap (λ (l : List ℕ). written l (p + 8) (word a.left)) (c.put_word-2.ensures
    ∙ ap (λ (l : List ℕ). written l (p + 4) (word a.to)) c.put_word.ensures)))
    ∙ five-words a.out.now p a.from a.to a.left a.reached a.trip c.requires
