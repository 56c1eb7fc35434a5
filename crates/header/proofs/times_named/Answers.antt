use native.Mathlib.Omega.{arith}
use mathlib.Core.Path.{refl, sym, ◌∙◌}
use Rattle.header.proofs.Names.{goes-field, last-field, broken-field, times-one, times-other, times_none, times-whole}
use Rattle.header.proofs.times_named.Goals as goal

pub loop-next-init : goal.loop-next-init
loop-next-init c = (omega arith, omega arith, times-whole _ _)

pub named-requires : goal.named-requires
named-requires c = record {
  at_in_bounds = (omega arith, (goes-field c.args.line.now c.loop-next.at c.loop-next.invariant.0 _ (sym c.some_fields-stand.ensures ∙ c.in-Begins.is)).2);
  name_value = c.requires;
}

pub loop-next-smaller-then-named : goal.loop-next-smaller-then-named
loop-next-smaller-then-named c = let g = goes-field c.args.line.now c.loop-next.at c.loop-next.invariant.0 _ (sym c.some_fields-stand.ensures ∙ c.in-Begins.is) in omega arith

pub loop-next-preserved-then-named : goal.loop-next-preserved-then-named
loop-next-preserved-then-named c = let g = goes-field c.args.line.now c.loop-next.at c.loop-next.invariant.0 _ (sym c.some_fields-stand.ensures ∙ c.in-Begins.is) in (g.0, omega arith, omega (arith, times-one c.args.name.now _ _ _ g.1 (sym c.named.ensures ∙ c.if-named.true)))

pub loop-next-smaller : goal.loop-next-smaller
loop-next-smaller c = let g = goes-field c.args.line.now c.loop-next.at c.loop-next.invariant.0 _ (sym c.some_fields-stand.ensures ∙ c.in-Begins.is) in omega arith

pub loop-next-preserved : goal.loop-next-preserved
loop-next-preserved c = let g = goes-field c.args.line.now c.loop-next.at c.loop-next.invariant.0 _ (sym c.some_fields-stand.ensures ∙ c.in-Begins.is) in (g.0, omega arith, omega (arith, times-other c.args.name.now _ _ _ g.1 (sym c.named.ensures ∙ c.if-named.false)))

pub named-requires-in-Ended : goal.named-requires-in-Ended
named-requires-in-Ended c = record {
  at_in_bounds = (omega arith, (last-field c.args.line.now c.loop-next.at c.loop-next.invariant.0 _ (sym c.some_fields-stand.ensures ∙ c.in-Ended.is)).1);
  name_value = c.requires;
}

pub returns-then-named-2 : goal.returns-then-named-2
returns-then-named-2 c = let g = last-field c.args.line.now c.loop-next.at c.loop-next.invariant.0 _ (sym c.some_fields-stand.ensures ∙ c.in-Ended.is) in omega (arith, times-one c.args.name.now _ _ _ g.0 (sym c.named-in-Ended.ensures ∙ c.if-named-2.true), times_none c.args.name.now _ refl)

pub returns-in-Ended : goal.returns-in-Ended
returns-in-Ended c = let g = last-field c.args.line.now c.loop-next.at c.loop-next.invariant.0 _ (sym c.some_fields-stand.ensures ∙ c.in-Ended.is) in omega (arith, times-other c.args.name.now _ _ _ g.0 (sym c.named-in-Ended.ensures ∙ c.if-named-2.false), times_none c.args.name.now _ refl)

pub returns-in-Broken : goal.returns-in-Broken
returns-in-Broken c = omega (arith, times_none c.args.name.now _ (broken-field c.args.line.now c.loop-next.at c.loop-next.invariant.0 _ (sym c.some_fields-stand.ensures ∙ c.in-Broken.is)))
