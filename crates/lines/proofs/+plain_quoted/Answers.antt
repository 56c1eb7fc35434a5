use Prim.Native.Nat.{◌+◌}
use native.Mathlib.Omega.{arith}
use mathlib.Core.Path.{sym, ◌∙◌}
use Rattle.lines.proofs.Steps.{opens-within, plain-within, quoted-within}
use Rattle.lines.proofs.Stands.{none_left, plain-ends, plain-breaks, plain-goes, quoted-open, quoted-ends, quoted-breaks, quoted-goes}
use Rattle.lines.proofs.+plain_quoted.Goals as goal

pub plain-returns-then-stop-line : goal.plain-returns-then-stop-line
plain-returns-then-stop-line t c = sym (plain-ends _ _ _ c.requires.at_value c.plain_stop-stop.ensures _ c.requires.at_in_bounds.1 c.if-stop-line.true)

pub plain-bounds-line-stop : goal.plain-bounds-line-stop
plain-bounds-line-stop t c = omega (arith, plain-within c.args.line.now c.args.at (omega arith))

pub plain-returns-then-line-stop-eq34 : goal.plain-returns-then-line-stop-eq34
plain-returns-then-line-stop-eq34 t c = sym (plain-breaks _ _ _ c.requires.at_value c.plain_stop-stop.ensures _ c.requires.at_in_bounds.1 c.if-stop-line.false c.if-line-stop-eq34.true)

pub plain-overflow_add-next : goal.plain-overflow_add-next
plain-overflow_add-next t c = omega (arith, plain-within c.args.line.now c.args.at (omega arith))

pub plain-returns-then-left-eq1 : goal.plain-returns-then-left-eq1
plain-returns-then-left-eq1 t c = sym (plain-goes _ _ _ c.requires.at_value c.plain_stop-stop.ensures _ c.requires.at_in_bounds.1 c.if-stop-line.false c.if-line-stop-eq34.false ∙ none_left _ _ _ c.if-left-eq1.true)

pub plain-opens-requires : goal.plain-opens-requires
plain-opens-requires t c = omega (arith, plain-within c.args.line.now c.args.at (omega arith))

pub plain-quoted-requires : goal.plain-quoted-requires
plain-quoted-requires t c = (omega (arith, plain-within c.args.line.now c.args.at (omega arith), opens-within _ _ (sym c.opens.ensures ∙ c.if-opens.true)), ((omega (arith, plain-within c.args.line.now c.args.at (omega arith), opens-within _ _ (sym c.opens.ensures ∙ c.if-opens.true)), omega arith), sym c.opens.ensures ∙ c.if-opens.true))

pub plain-returns-then-opens : goal.plain-returns-then-opens
plain-returns-then-opens t c = c.quoted.ensures ∙ sym (plain-goes _ _ _ c.requires.at_value c.plain_stop-stop.ensures _ c.requires.at_in_bounds.1 c.if-stop-line.false c.if-line-stop-eq34.false)

pub plain-plain-requires : goal.plain-plain-requires
plain-plain-requires t c = (omega (arith, plain-within c.args.line.now c.args.at (omega arith)), ((omega (arith, plain-within c.args.line.now c.args.at (omega arith)), omega arith), sym c.opens.ensures ∙ c.if-opens.false))

pub plain-returns : goal.plain-returns
plain-returns t c = c.plain.ensures ∙ sym (plain-goes _ _ _ c.requires.at_value c.plain_stop-stop.ensures _ c.requires.at_in_bounds.1 c.if-stop-line.false c.if-line-stop-eq34.false)

pub quoted-returns-then-close-line : goal.quoted-returns-then-close-line
quoted-returns-then-close-line t c = sym (quoted-open _ _ _ c.requires.at_value c.quoted_stop-close.ensures _ c.requires.at_in_bounds.1 c.if-close-line.true)

pub quoted-overflow_add-comma : goal.quoted-overflow_add-comma
quoted-overflow_add-comma t c = omega (arith, quoted-within c.args.line.now (c.args.at + 1) (omega arith))

pub quoted-returns-then-comma-line : goal.quoted-returns-then-comma-line
quoted-returns-then-comma-line t c = sym (quoted-ends _ _ _ c.requires.at_value c.quoted_stop-close.ensures c.if-close-line.false _ c.requires.at_in_bounds.1 c.if-comma-line.true)

pub quoted-bounds-line-comma : goal.quoted-bounds-line-comma
quoted-bounds-line-comma t c = omega (arith, quoted-within c.args.line.now (c.args.at + 1) (omega arith))

pub quoted-returns-then-line-comma-ne44 : goal.quoted-returns-then-line-comma-ne44
quoted-returns-then-line-comma-ne44 t c = sym (quoted-breaks _ _ _ c.requires.at_value c.quoted_stop-close.ensures c.if-close-line.false c.if-comma-line.false _ c.requires.at_in_bounds.1 c.if-line-comma-ne44.true)

pub quoted-returns-then-left-eq1 : goal.quoted-returns-then-left-eq1
quoted-returns-then-left-eq1 t c = sym (quoted-goes _ _ _ c.requires.at_value c.quoted_stop-close.ensures c.if-close-line.false c.if-comma-line.false _ c.requires.at_in_bounds.1 c.if-line-comma-ne44.false ∙ none_left _ _ _ c.if-left-eq1.true)

pub quoted-quoted-requires : goal.quoted-quoted-requires
quoted-quoted-requires t c = (omega (arith, quoted-within c.args.line.now (c.args.at + 1) (omega arith), opens-within _ _ (sym c.opens.ensures ∙ c.if-opens.true)), ((omega (arith, quoted-within c.args.line.now (c.args.at + 1) (omega arith), opens-within _ _ (sym c.opens.ensures ∙ c.if-opens.true)), omega arith), sym c.opens.ensures ∙ c.if-opens.true))

pub quoted-returns-then-opens : goal.quoted-returns-then-opens
quoted-returns-then-opens t c = c.quoted.ensures ∙ sym (quoted-goes _ _ _ c.requires.at_value c.quoted_stop-close.ensures c.if-close-line.false c.if-comma-line.false _ c.requires.at_in_bounds.1 c.if-line-comma-ne44.false)

pub quoted-plain-requires : goal.quoted-plain-requires
quoted-plain-requires t c = (omega (arith, quoted-within c.args.line.now (c.args.at + 1) (omega arith)), ((omega (arith, quoted-within c.args.line.now (c.args.at + 1) (omega arith)), omega arith), sym c.opens.ensures ∙ c.if-opens.false))

pub quoted-returns : goal.quoted-returns
quoted-returns t c = c.plain.ensures ∙ sym (quoted-goes _ _ _ c.requires.at_value c.quoted_stop-close.ensures c.if-close-line.false c.if-comma-line.false _ c.requires.at_in_bounds.1 c.if-line-comma-ne44.false)
