-- `link`: s is alone in its bucket, the first of it, or behind p.
use native.Mathlib.Omega.{arith}
use mathlib.Core.Path.{ap, ◌∙◌}
use Rattle.table_bytes.proofs.Access.{sized}
use Rattle.table_tree.specs.Words.{bucket_of}
use Rattle.table_tree.proofs.LinkLaws.{link-alone, link-first, link-behind}
use Rattle.table_tree.proofs.link.Goals as goal

pub push-requires : goal.push-requires
push-requires c = (
  c.requires.0.len,
  omega (arith, c.bucket-k.ensures.1, c.requires.1.mask, (sized c.args.r c.args.b.now).h),
  omega (arith, c.requires.2, c.requires.0.fits),
  omega (arith, c.requires.2, c.requires.0.small),
  omega (arith, c.requires.2, c.requires.0.small),
)

pub push-requires-then-h-s : goal.push-requires-then-h-s
push-requires-then-h-s c = (
  c.requires.0.len,
  omega (arith, c.bucket-k.ensures.1, c.requires.1.mask, (sized c.args.r c.args.b.now).h),
  omega (arith, c.requires.2, c.requires.0.fits),
  omega (arith, c.requires.2, c.requires.0.small),
  omega (arith, c.if-h-s.true, c.requires.2, c.requires.0.small),
)

pub returns-in_default : goal.returns-in_default
returns-in_default c =
    link-alone (sized c.args.r c.args.b.now) c.requires.0.fits c.requires.1 c.requires.2 c.requires.3 c.requires.4
    (c.bucket-k.ensures.0 ∙ ap (bucket_of c.args.mask) c.vertex_in.ensures.0)
    c.in_default.ensures c.push.ensures

pub returns-then-h-s : goal.returns-then-h-s
returns-then-h-s c =
    link-first (sized c.args.r c.args.b.now) c.requires.0.fits c.requires.1 c.requires.2 c.requires.3 c.requires.4
    (c.bucket-k.ensures.0 ∙ ap (bucket_of c.args.mask) c.vertex_in.ensures.0)
    c.in-Some.ensures c.if-h-s.true c.push-then-h-s.ensures

pub returns : goal.returns
returns c =
    link-behind (sized c.args.r c.args.b.now) c.requires.0.fits c.requires.1 c.requires.2 c.requires.3 c.requires.4
    (c.bucket-k.ensures.0 ∙ ap (bucket_of c.args.mask) c.vertex_in.ensures.0)
    c.before-p.ensures c.next-x.ensures c.min.ensures
    c.set_next.ensures c.set_next-2.ensures
