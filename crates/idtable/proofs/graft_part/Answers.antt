use native.Mathlib.Omega.{arith}
use Rattle.naming.proofs.Places.{line_as, some-line-as}
use Rattle.idtable.proofs.graft_part.Goals as goal

pub graft_line-requires : goal.graft_line-requires
graft_line-requires c =
    let p = c.requires in
    let a = c.args in record {
      table_len = (p.table_len.0, p.table_len.1, omega (arith, p.table_len.2, p.table_len.3), p.table_len.4);
      place_value = (some-line-as a.text.now a.place a.stop (omega (arith, p.table_len.2, p.table_len.3)) p.stop_value.0 p.table_len.2, line_as _ _ _ p.stop_value.0, p.stop_value.1);
    }
