use mathlib.Core.Path.{refl, sym, ◌∙◌}
use borrow.Author.Tests.{ne_eqb}
use Rattle.lowest.proofs.BothTests.{no-first, no_second, second-lower, first-lower}
use Rattle.lowest.proofs.lower.Goals as goal

pub returns-in_default : goal.returns-in_default
returns-in_default g c = rw c.in_default.is (no-first _ _ refl)

pub returns-then-number-eq0 : goal.returns-then-number-eq0
returns-then-number-eq0 g c = rw c.in-Err.is (no-first _ _ (sym c.number.ensures ∙ c.if-number-eq0.true))

pub returns-in_default-b : goal.returns-in_default-b
returns-in_default-b g c = rw (c.in-Err.is, c.in_default-b.is) (no_second _ _ (ne_eqb _ 0 (λ e. c.if-number-eq0.false (c.number.ensures ∙ e))) refl)

pub returns-then-number-eq0-2 : goal.returns-then-number-eq0-2
returns-then-number-eq0-2 g c =
    rw (c.in-Err.is, c.in-Err-b.is) (no_second _ _ (ne_eqb _ 0 (λ e. c.if-number-eq0.false (c.number.ensures ∙ e))) (sym c.number-2.ensures ∙ c.if-number-eq0-2.true))

pub returns-then-second-first : goal.returns-then-second-first
returns-then-second-first g c =
    rw (c.in-Err.is, c.in-Err-b.is)
    (second-lower _ _ (ne_eqb _ 0 (λ e. c.if-number-eq0.false (c.number.ensures ∙ e))) (ne_eqb _ 0 (λ e. c.if-number-eq0-2.false (c.number-2.ensures ∙ e))) c.if-second-first.true)

pub returns : goal.returns
returns g c =
    rw (c.in-Err.is, c.in-Err-b.is)
    (first-lower _ _ (ne_eqb _ 0 (λ e. c.if-number-eq0.false (c.number.ensures ∙ e))) (ne_eqb _ 0 (λ e. c.if-number-eq0-2.false (c.number-2.ensures ∙ e))) c.if-second-first.false)
