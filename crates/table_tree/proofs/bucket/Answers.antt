use mathlib.Core.Path.{refl}
use Rattle.table_tree.specs.Words.{bucket_of}
use Rattle.table_tree.proofs.SearchLaws.{bucket-le}
use Rattle.table_tree.proofs.bucket.Goals as goal

pub returns : goal.returns
unfolding bucket_of
returns c = (refl, bucket-le c.args.mask c.args.u)
