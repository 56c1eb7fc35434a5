use Prim.Native.Nat.{◌+◌}
use native.Mathlib.Omega.{arith}
use mathlib.Core.Path.{◌≡◌, refl, sym, ◌∙◌}
use Rattle.lines.specs.Passing.{stand}
use Rattle.header.proofs.Names.{goes-field, count-goes, count-ends, count-breaks, count-whole}
use Rattle.rows.proofs.Picks.{one_more, picked, broken-nowhere, other-nowhere, all_placed}
use Rattle.rows.proofs.places_of.Goals as goal

pub loop-next-init : goal.loop-next-init
unfolding stand
loop-next-init c = (omega arith, omega arith, (count-whole _).0, (count-whole _).1, refl, λ h. absurd (omega (arith, h)), λ h. absurd (omega (arith, h)), λ h. absurd (omega (arith, h)), λ h. absurd (omega (arith, h)), λ h. absurd (omega (arith, h)))

pub loop-next-smaller : goal.loop-next-smaller
loop-next-smaller c =
    let s = c.args.line.now in
    let g = goes-field s c.loop-next.at c.loop-next.invariant.0 _ (sym c.some_fields-stand.ensures ∙ c.in-Begins.is) in
    omega (arith, g.0, g.3)

pub loop-next-preserved : goal.loop-next-preserved
loop-next-preserved c =
    let s = c.args.line.now in
    let i = c.loop-next.invariant in
    let at = c.loop-next.at in
    let k = c.loop-next.k in
    let e = sym c.some_fields-stand.ensures ∙ c.in-Begins.is in
    let g = goes-field s at i.0 _ e in
    let n = count-goes s at i.0 _ e in
    let b = i.4 in (
      g.0,
      omega (arith, g.3, i.1),
      omega (arith, n.0, i.2),
      n.1 ∙ i.3,
      one_more s k at b _ e,
      picked s k at b i.5 c.pick-t.ensures,
      picked s k at b i.6 c.pick-a.ensures,
      picked s k at b i.7 c.pick-d.ensures,
      picked s k at b i.8 c.pick-p.ensures,
      picked s k at b i.9 c.pick-q.ensures,
    )

pub returns-then-k-count : goal.returns-then-k-count
returns-then-k-count c =
    let s = c.args.line.now in
    let n = count-ends s c.loop-next.at c.loop-next.invariant.0 _ (sym c.some_fields-stand.ensures ∙ c.in-Ended.is) in
    other-nowhere _ _ _ _ _ _ s (λ e. c.if-k-count.true (omega (arith, e, n.0, c.loop-next.invariant.2)))

pub returns-in-Ended : goal.returns-in-Ended
returns-in-Ended c =
    let s = c.args.line.now in
    let i = c.loop-next.invariant in
    let at = c.loop-next.at in
    let k = c.loop-next.k in
    let b = i.4 in
    let r = c.requires in
    let n = count-ends s at i.0 _ (sym c.some_fields-stand.ensures ∙ c.in-Ended.is) in
    let all : k + 1 ≡ c.args.count = c.if-k-count.false in
    all_placed c.args.count _ _ _ _ _ s (sym i.3 ∙ n.1) (omega (arith, n.0, i.2, all))
    (picked s k at b i.5 c.pick-t.ensures (omega (arith, r.0, all)))
    (picked s k at b i.6 c.pick-a.ensures (omega (arith, r.1, all)))
    (picked s k at b i.7 c.pick-d.ensures (omega (arith, r.2, all)))
    (picked s k at b i.8 c.pick-p.ensures (omega (arith, r.3, all)))
    (picked s k at b i.9 c.pick-q.ensures (omega (arith, r.4, all)))

pub returns-in-Broken : goal.returns-in-Broken
returns-in-Broken c =
    let s = c.args.line.now in
    let n = count-breaks s c.loop-next.at c.loop-next.invariant.0 _ (sym c.some_fields-stand.ensures ∙ c.in-Broken.is) in
    broken-nowhere _ _ _ _ _ _ s (sym c.loop-next.invariant.3 ∙ n.1)
