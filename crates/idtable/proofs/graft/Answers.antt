use Rattle.std.proofs.Common.{◌+◌, arith, refl, sym, ◌∙◌}
use lib.ListN.{length, length-set}
use Rattle.idtable.specs.declared.End.TheVariants.{Found, Free}
use Rattle.idtable.proofs.TableLaws.{ended-as, holds-again, holds_more, holds_long}
use Rattle.idtable.proofs.graft.Goals as goal

pub returns-in-Found : goal.returns-in-Found
returns-in-Found c =
    let a = c.args in
    let p = c.requires in
    let e = ended-as a.text.now (length a.table.now) a.table.now (Found c.in-Found.field-0) c.in-Found.ensures p.place_value.1 in
    (omega arith, holds-again a.text.now a.place p.place_value.2 p.table_len.2 p.place_value.0 (λ z. e.1 (sym e.0 ∙ z)))

pub returns-in-Free : goal.returns-in-Free
returns-in-Free c =
    let a = c.args in
    let p = c.requires in
    let e = ended-as a.text.now (length a.table.now) a.table.now (Free c.in-Free.k) c.in-Free.ensures p.place_value.1 in
    (omega arith, holds_long _ (length-set a.table.now c.in-Free.k (a.place + 1)) (holds_more a.text.now a.place p.place_value.2 p.table_len.2 p.place_value.0 p.table_len.0 refl e refl))
