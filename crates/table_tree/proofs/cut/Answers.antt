-- `cut`: s is the first of its bucket, or behind p.
use native.Mathlib.Omega.{arith}
use mathlib.Core.Path.{ap, ◌∙◌}
use Rattle.table_bytes.proofs.Access.{sized}
use Rattle.table_tree.specs.Words.{bucket_of, vertex_in}
use Rattle.table_tree.proofs.LinkLaws.{cut-next, cut-first, cut-behind}
use Rattle.table_tree.proofs.cut.Goals as goal

pub head-h-requires : goal.head-h-requires
head-h-requires c =
    (c.requires.0.len, omega (arith, c.bucket-k.ensures.1, c.requires.1.mask, (sized c.args.r c.args.b.now).h))

pub set_head-requires : goal.set_head-requires
set_head-requires c =
    let ek = c.bucket-k.ensures.0 ∙ ap (bucket_of c.args.mask) (c.vertex_in.ensures.0 ∙ ap vertex_in c.word.ensures) in (
      c.requires.0.len,
      omega (arith, c.bucket-k.ensures.1, c.requires.1.mask, (sized c.args.r c.args.b.now).h),
      omega (arith, cut-next (sized c.args.r c.args.b.now) c.requires.0.fits c.requires.1 c.requires.2 c.requires.3 ek c.next-n.ensures, c.requires.2, c.requires.0.small),
    )

pub returns-then-h-s : goal.returns-then-h-s
returns-then-h-s c =
    cut-first (sized c.args.r c.args.b.now) c.requires.0.fits c.requires.1 c.requires.2 c.requires.3
    (c.bucket-k.ensures.0 ∙ ap (bucket_of c.args.mask) (c.vertex_in.ensures.0 ∙ ap vertex_in c.word.ensures))
    c.head-h.ensures c.if-h-s.true c.next-n.ensures c.set_head.ensures

pub returns : goal.returns
returns c =
    cut-behind (sized c.args.r c.args.b.now) c.requires.0.fits c.requires.1 c.requires.2 c.requires.3
    (c.bucket-k.ensures.0 ∙ ap (bucket_of c.args.mask) (c.vertex_in.ensures.0 ∙ ap vertex_in c.word.ensures))
    c.before-p.ensures c.next-n.ensures c.passed.ensures c.set_next.ensures
