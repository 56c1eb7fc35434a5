-- `quick::sift_one` meets its contract: the number is written behind the list, and belongs to it if the record is counted. Assumes nothing.
use Rattle.std.proofs.Common.{◌≡◌, ◌+◌, ◌∙◌, arith, get_or-set_other}
use Rattle.quick.proofs.Sifted.{sifted}
use Rattle.quick.proofs.sift_one.Goals as goal

pub returns : goal.returns
returns c =
    let a = c.args in record {
      upper_bound = c.more.ensures.1;
      by_index = rw (c.more.ensures.0, c.alone.ensures) (λ x y h. sifted a.pairs a.size a.table.now a.i a.base c.wrapping_sub_usize-k.result a.len a.count a.scratch.now x y (c.wrapping_sub_usize-k.ensures.value ∙ c.from_at.ensures) (omega arith) (omega arith) (omega arith) (omega arith) h);
      same = λ k l m. get_or-set_other a.scratch.now (1984 + a.count) k _ 0 (λ (e : k ≡ 1984 + a.count). omega arith);
    }
