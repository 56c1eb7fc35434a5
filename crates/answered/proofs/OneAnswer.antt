-- Where one answer is allowed at most, a call for a run leaves the same in every slice. Assumes nothing.
use mathlib.Core.Path.{◌≡◌, sym, ap, ◌∙◌}
use mathlib.Core.List.{List}
use Prim.Native.Nat.{ℕ}
use native.Mathlib.Decide.{ℕ_discrete}
use lib.ListN.{length}
use Rattle.answered.specs.Ran.{RanBy}

-- the answers for one slice of any length
pub answers_one : {A : Type 0} (one two bytes : A → List ℕ) (allowed : A → Type 0) → ((x y : A) → allowed x → allowed y → x ≡ y)
    → (one_lent two_lent slice h s a h' s' a' : List ℕ) (r r' : ℕ)
    → RanBy one two bytes allowed one_lent two_lent slice h s a r → RanBy one two bytes allowed one_lent two_lent slice h' s' a' r'
    → (r ≡ r') × (h ≡ h') × (s ≡ s') × (a ≡ a')
answers_one one two bytes allowed unique one_lent two_lent slice h s a h' s' a' r r' x y = go (ℕ_discrete (length slice) 24)
  where
    go : Dec (length slice ≡ 24) → (r ≡ r') × (h ≡ h') × (s ≡ s') × (a ≡ a')
    go (yes e) =
        let f = x.answered e in
        let g = y.answered e in
        let same = unique f.1.0 g.1.0 f.1.1 g.1.1 in
        (f.0 ∙ sym g.0, f.1.2 ∙ ap one same ∙ sym g.1.2, f.1.3 ∙ ap two same ∙ sym g.1.3, f.1.4 ∙ ap bytes same ∙ sym g.1.4)
    go (no n) =
        let f = x.untouched n in
        let g = y.untouched n in
        (f.0 ∙ sym g.0, f.1 ∙ sym g.1, f.2 ∙ sym g.2, f.3 ∙ sym g.3)
