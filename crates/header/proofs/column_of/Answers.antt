use native.Mathlib.Omega.{arith}
use mathlib.Core.Path.{refl, sym, ◌∙◌}
use Rattle.header.proofs.Names.{goes-field, last-field, broken-field, column-here, column-on, column-none, column-whole}
use Rattle.header.proofs.column_of.Goals as goal

pub loop-next-init : goal.loop-next-init
loop-next-init c = (omega arith, omega arith, column-whole _ _)

pub named-requires : goal.named-requires
named-requires c = record {
  at_in_bounds = (omega arith, (goes-field c.args.line.now c.loop-next.at c.loop-next.invariant.0 _ (sym c.some_fields-stand.ensures ∙ c.in-Begins.is)).2);
  name_value = c.requires;
}

pub returns-then-named : goal.returns-then-named
returns-then-named c = sym (column-here _ _ _ _ _ (goes-field c.args.line.now c.loop-next.at c.loop-next.invariant.0 _ (sym c.some_fields-stand.ensures ∙ c.in-Begins.is)).1 (sym c.named.ensures ∙ c.if-named.true)) ∙ c.loop-next.invariant.2

pub loop-next-smaller : goal.loop-next-smaller
loop-next-smaller c = let g = goes-field c.args.line.now c.loop-next.at c.loop-next.invariant.0 _ (sym c.some_fields-stand.ensures ∙ c.in-Begins.is) in omega arith

pub loop-next-preserved : goal.loop-next-preserved
loop-next-preserved c = let g = goes-field c.args.line.now c.loop-next.at c.loop-next.invariant.0 _ (sym c.some_fields-stand.ensures ∙ c.in-Begins.is) in (g.0, omega arith, sym (column-on _ _ _ _ _ g.1 (sym c.named.ensures ∙ c.if-named.false)) ∙ c.loop-next.invariant.2)

pub named-requires-in-Ended : goal.named-requires-in-Ended
named-requires-in-Ended c = record {
  at_in_bounds = (omega arith, (last-field c.args.line.now c.loop-next.at c.loop-next.invariant.0 _ (sym c.some_fields-stand.ensures ∙ c.in-Ended.is)).1);
  name_value = c.requires;
}

pub returns-then-named-2 : goal.returns-then-named-2
returns-then-named-2 c = sym (column-here _ _ _ _ _ (last-field c.args.line.now c.loop-next.at c.loop-next.invariant.0 _ (sym c.some_fields-stand.ensures ∙ c.in-Ended.is)).0 (sym c.named-in-Ended.ensures ∙ c.if-named-2.true)) ∙ c.loop-next.invariant.2

pub returns-in-Ended : goal.returns-in-Ended
returns-in-Ended c = sym (column-on _ _ _ _ _ (last-field c.args.line.now c.loop-next.at c.loop-next.invariant.0 _ (sym c.some_fields-stand.ensures ∙ c.in-Ended.is)).0 (sym c.named-in-Ended.ensures ∙ c.if-named-2.false) ∙ column-none _ _ _ refl) ∙ c.loop-next.invariant.2

pub returns-in-Broken : goal.returns-in-Broken
returns-in-Broken c = sym (column-none _ _ _ (broken-field c.args.line.now c.loop-next.at c.loop-next.invariant.0 _ (sym c.some_fields-stand.ensures ∙ c.in-Broken.is))) ∙ c.loop-next.invariant.2
